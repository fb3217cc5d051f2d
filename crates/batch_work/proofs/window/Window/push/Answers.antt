use Rattle.std.proofs.Common.{ap, sym, subst, ◌∙◌}
use Rattle.version_book.specs.CommittedRows.{VersionState}
use Rattle.batch_work.specs.WindowSlots.{held}
use Rattle.batch_work.specs.Windows.{IsNextVersion, Window, pushed}
use Rattle.batch_work.proofs.WindowSlots.{still_kept, window_is, with_slot}
use Rattle.batch_work.proofs.window.Window.push.Goals as goal

pub invariant_of-self : goal.invariant_of-self
invariant_of-self c =
    let slots = c.push_last.ensures ∙ ap (λ (s : VersionState). with_slot s c.self.inside.older.items) c.replace-before.ensures.value in
    let next = subst (λ (s : VersionState). IsNextVersion c.self.inside.newest s) (sym c.replace-before.ensures.after) (subst (λ (w : Window). IsNextVersion w.newest c.args.version) (sym c.self.view_is) c.requires.next) in
    still_kept c.self.inside.older.items c.self.inside.newest c.self.invariant c.push_last.new.items.items c.replace-before.new.dest slots next

pub returns : goal.returns
returns c =
    let w : Window = record { older = held c.self.inside.older.items; newest = c.self.inside.newest } in
    let slots = c.push_last.ensures ∙ ap (λ (s : VersionState). with_slot s c.self.inside.older.items) c.replace-before.ensures.value in
    window_is c.self.inside.older.items c.self.inside.newest c.self.invariant c.push_last.new.items.items c.replace-before.new.dest slots
    ∙ (ap (λ (s : VersionState). pushed s w) c.replace-before.ensures.after ∙ ap (pushed c.args.version) c.self.view_is)
