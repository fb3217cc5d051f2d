use Rattle.std.proofs.Common.{Option, List, ap, sym, ◌∙◌, subst}
use Rattle.version_book.specs.CommittedRows.{VersionState}
use Rattle.batch_work.specs.WindowSlots.{AreKept, held}
use Rattle.batch_work.proofs.WindowSlots.{same_slots}
use Rattle.batch_work.proofs.window.WindowClone.clone.Goals as goal

pub invariant_of-result : goal.invariant_of-result
invariant_of-result c =
    let slots = same_slots _ (λ s e. absurd e) (λ s e. absurd e) (λ s t e. e) c.self.inside.older.items c.in_ok-clone.field-0.items c.in_ok-clone.ensures.cases in
    subst (λ (l : List (Option VersionState)). AreKept l c.in_ok-clone-2.field-0) (sym slots) (subst (AreKept c.self.inside.older.items) (sym c.in_ok-clone-2.ensures.cases) c.self.invariant)

pub returns : goal.returns
returns c =
    let slots = same_slots _ (λ s e. absurd e) (λ s e. absurd e) (λ s t e. e) c.self.inside.older.items c.in_ok-clone.field-0.items c.in_ok-clone.ensures.cases in
    record {
      cases = ap (λ (l : List (Option VersionState)). record { older = held l; newest = c.in_ok-clone-2.field-0 }) slots
          ∙ (ap (λ (s : VersionState). record { older = held c.self.inside.older.items; newest = s }) c.in_ok-clone-2.ensures.cases ∙ c.self.view_is);
    }
