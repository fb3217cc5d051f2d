-- The first of the rows from a key on determines the value at the key, and the rows above it.
use Rattle.std.proofs.Common.{◌≡◌, Bool, true, false, List, [], ◌∷◌, length, Option, Some, None, refl, sym, ap, ◌∙◌, arith}
use Rattle.std.specs.declared.cmp.Ordering.{Ordering}
use Rattle.std.specs.Ordering.{is_eq}
use Rattle.std.specs.Cmp.{IsTotalOrder}
use Rattle.std.specs.Map.{keys_of}
use Rattle.std.proofs.lemmas.Map.Keys.{sorted_tail}
use Rattle.version_shelf.specs.Shelf.{IsInOrder, get, rows_above, rows_from}
use Rattle.version_shelf.proofs.Above.{by_order, greater_from_less, AllAbove, above_of_above, get_of_above, all_above_equal, all_above_greater}

empty_from : {X : Type 0} (xs : List X) → length xs ≡ 0 → xs ≡ []
empty_from [] none = refl
empty_from (x ∷ xs) none = absurd (omega arith)

module _ {K V : Type 0} {cmp : K → K → Ordering} (o : IsTotalOrder cmp) (key : K) where
  pub from_of_above : (rows : List (K × V)) → AllAbove cmp key rows → rows_from cmp rows key ≡ rows
  from_of_above [] all = refl
  from_of_above (r ∷ rs) all = rw (greater_from_less o key r.0 all.0) (ap (λ l. r ∷ l) (from_of_above rs all.1))

  -- the value at the key and the rows above it, given the rows from the key on: the first row is at the key, or no row is
  abbrev pub FirstFrom : Option V → List (K × V) → List (K × V) → Type 0
  FirstFrom found above [] = (found ≡ None) × (above ≡ [])
  FirstFrom found above (r ∷ rs) = (is_eq (cmp r.0 key) ≡ true → (found ≡ Some r.1) × (above ≡ rs)) × (is_eq (cmp r.0 key) ≡ false → (found ≡ None) × (above ≡ r ∷ rs))

  pub first_from : (rows : List (K × V)) → IsInOrder cmp rows → FirstFrom (get cmp rows key) (rows_above cmp rows key) (rows_from cmp rows key)
  first_from [] sorted = (refl, refl)
  first_from (r ∷ rs) sorted = by_order (cmp r.0 key)
      (λ less. rw less (first_from rs (sorted_tail cmp r.0 (keys_of rs) sorted)))
      (λ same.
      let above = all_above_equal o key r rs sorted same in
      rw (same, above_of_above o key rs above, from_of_above rs above) (λ _. (refl, refl), λ other. grind arith))
      (λ greater.
      let above = all_above_greater o key r rs sorted greater in
      rw (greater, above_of_above o key rs above, from_of_above rs above, get_of_above o key rs above) (λ other. grind arith, λ _. (refl, refl)))

  -- others are the rows from the key on; b is whether the first of them is at the key
  module _ (rows : List (K × V)) (sorted : IsInOrder cmp rows) (others : List (K × V)) (from : others ≡ rows_from cmp rows key) where
    module _ (r : K × V) (above : List (K × V)) (parts : others ≡ r ∷ above) (answer : Ordering) (compared : answer ≡ cmp r.0 key) (b : Bool) (tested : b ≡ is_eq answer) where
      says : (a : Bool) → b ≡ a → is_eq (cmp r.0 key) ≡ a
      says a is = ap is_eq (sym compared) ∙ sym tested ∙ is

      pub first_equal : b ≡ true → (get cmp rows key ≡ Some r.1) × (rows_above cmp rows key ≡ above)
      first_equal is = (rw (sym from ∙ parts) at (first_from rows sorted)).0 (says true is)

      pub first_greater : b ≡ false → (get cmp rows key ≡ None) × (rows_above cmp rows key ≡ others)
      first_greater is = rw parts ((rw (sym from ∙ parts) at (first_from rows sorted)).1 (says false is))

    pub no_first : length others ≡ 0 → (get cmp rows key ≡ None) × (rows_above cmp rows key ≡ others)
    no_first none = let empty = empty_from others none in rw empty (rw (sym from ∙ empty) at (first_from rows sorted))
