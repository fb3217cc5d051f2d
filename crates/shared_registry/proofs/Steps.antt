-- Steps that preserve the invariant of the published value.
use Rattle.std.proofs.Common.{◌≡◌, ℕ, ◌≢◌, List, [], refl, subst, ⊎_elim}
use mathlib.Core.Option.{some}
use mathlib.Core.List.{IsPrefix}
use lib.ListN.{get_elem?}
use Rattle.logbook.specs.Pages.{Book as WordBook}
use Rattle.crossbeam_utils.specs.Register.{Admits, TurnsAt}
use Rattle.atomic_table.proofs.Lists.{at_set, at_snoc}
use Rattle.entry_book.specs.Book.{Book}
use Rattle.entry_book.specs.Rows.{Bytes}
use Rattle.commit_head.specs.declared.item.Item.{Item}
use Rattle.shared_registry.specs.Shown.{Shown}
use Rattle.shared_registry.specs.ShownPrivate.{IsOf, RuleInvariant, Saw}
use Rattle.shared_registry.proofs.Prefixes.{prefix_self, prefix_trans}

-- a new pass has seen nothing
pub admits : (history : WordBook) (first : List Book) (domain : Bytes) → Admits (RuleInvariant history first domain) []
admits history first domain x views h = (h.0, λ k v at. ⊎_elim (h.1 k v) (λ (e : [] ≡ v). subst (λ (u : List Item). IsPrefix u x.journal) e (x.journal, refl)) (at_snoc views [] v k at))

-- a step that only adds to the journal, after which this pass has seen all of it
pub sees : (history : WordBook) (first : List Book) (domain : Bytes) (seat : ℕ) (v : List Item) (x y : Shown) → (IsOf history first domain x → IsOf history first domain y) → IsPrefix x.journal y.journal → TurnsAt (RuleInvariant history first domain) seat v x y (λ v x y w. Saw history first domain v y w)
sees history first domain seat v x y same more views h at =
    let w : List Item = y.journal in (
      w,
      (same h.0, λ k u e. ⊎_elim (λ (t : (k ≡ seat) × (w ≡ u)). subst (λ (z : List Item). IsPrefix z y.journal) t.1 (prefix_self w)) (λ (t : (k ≢ seat) × (get_elem? views k ≡ some u)). prefix_trans u x.journal w (h.1 k u t.1) more) (at_set views seat k w u e)),
      (same h.0, prefix_trans v x.journal w (h.1 seat v at) more, refl),
    )
