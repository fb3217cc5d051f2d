-- Sorted rows, and rows above a key.
use Rattle.std.proofs.Common.{◌≡◌, Bool, true, false, cond, List, [], ◌∷◌, ◌++◌, filter, None, refl, sym, ap, ◌∙◌, arith}
use Rattle.std.specs.declared.cmp.Ordering.{Ordering}
use Rattle.std.specs.declared.cmp.Ordering.TheVariants.{Less, Equal, Greater}
use Rattle.std.specs.Ordering.{is_eq, is_ne, ordering_reverse}
use Rattle.std.specs.Cmp.{IsTotalOrder}
use Rattle.std.specs.List.{AllByRecursion}
use Rattle.std.specs.List.Sorted.{IsStrictlySortedBy}
use Rattle.std.specs.Map.{keys_of}
use Rattle.std.proofs.lemmas.Cmp.{alike_right}
use Rattle.std.proofs.lemmas.Map.Keys.{sorted_head}
use Rattle.version_shelf.specs.Shelf.{IsInOrder, get, rows_below, rows_above}

-- case distinction by the result of a comparison
pub by_order : {G : Type 0} (a : Ordering) → (a ≡ Less → G) → (a ≡ Equal → G) → (a ≡ Greater → G) → G
by_order Less below same above = below refl
by_order Equal below same above = same refl
by_order Greater below same above = above refl

-- ---- properties of all keys

all_then : {K : Type 0} {P Q : K → Type 0} → ((y : K) → P y → Q y) → (ys : List K) → AllByRecursion P ys → AllByRecursion Q ys
all_then {K} {P} {Q} gives [] all = tt
all_then {K} {P} {Q} gives (y ∷ ys) all = (gives y all.0, all_then {P = P} {Q = Q} gives ys all.1)

pub all_append : {K V : Type 0} (P : K → Type 0) (xs ys : List (K × V)) → AllByRecursion P (keys_of xs) → AllByRecursion P (keys_of ys) → AllByRecursion P (keys_of (xs ++ ys))
all_append P [] ys front back = back
all_append P (x ∷ xs) ys front back = (front.0, all_append P xs ys front.1 back)

pub all_filter : {K V : Type 0} (P : K → Type 0) (p : K × V → Bool) (xs : List (K × V)) → AllByRecursion P (keys_of xs) → AllByRecursion P (keys_of (filter p xs))
all_filter P p [] all = tt
all_filter P p (x ∷ xs) all =
    let rest = all_filter P p xs all.1 in
    elim (p x) as (λ b. AllByRecursion P (keys_of (cond b (x ∷ filter p xs) (filter p xs)))) [ true ↦ (all.0, rest) | false ↦ rest ]

module _ {K V : Type 0} (cmp : K → K → Ordering) where
  -- filtered rows of a sorted list are sorted
  pub in_order_filter : (p : K × V → Bool) (rows : List (K × V)) → IsInOrder cmp rows → IsInOrder cmp (filter p rows)
  unfolding IsStrictlySortedBy
  in_order_filter p [] sorted = tt
  in_order_filter p (r ∷ rs) sorted =
      let rest = in_order_filter p rs sorted.1 in
      elim (p r) as (λ b. IsInOrder cmp (cond b (r ∷ filter p rs) (filter p rs))) [ true ↦ (all_filter _ p rs sorted.0, rest) | false ↦ rest ]

  pub in_order_more : (r : K × V) (rs : List (K × V)) → AllByRecursion (λ y. cmp r.0 y ≡ Less) (keys_of rs) → IsInOrder cmp rs → IsInOrder cmp (r ∷ rs)
  unfolding IsStrictlySortedBy
  in_order_more r rs above sorted = (above, sorted)

pub equal_from : (a : Ordering) → is_eq a ≡ true → a ≡ Equal
equal_from Less is = grind arith
equal_from Equal is = refl
equal_from Greater is = grind arith

-- ---- rows above a key

module _ {K : Type 0} {cmp : K → K → Ordering} (o : IsTotalOrder cmp) (key : K) where
  pub greater_from_less : (k : K) → cmp key k ≡ Less → cmp k key ≡ Greater
  greater_from_less k less = o.antisymm k key ∙ ap ordering_reverse less

  pub less_from_greater : (k : K) → cmp k key ≡ Greater → cmp key k ≡ Less
  less_from_greater k greater = o.antisymm key k ∙ ap ordering_reverse greater

  -- a key below the key is not equal to a key that equals it
  pub below_is_apart : (k q : K) → cmp k key ≡ Less → is_eq (cmp key q) ≡ true → is_eq (cmp k q) ≡ false
  below_is_apart k q less same = ap is_eq (sym (alike_right o key q k (equal_from _ same)) ∙ less)

-- each of the rows is above the key
abbrev pub AllAbove : {K V : Type 0} → (K → K → Ordering) → K → List (K × V) → Type 0
AllAbove cmp key rows = AllByRecursion (λ y. cmp key y ≡ Less) (keys_of rows)

-- the rows with other keys
abbrev pub rows_apart : {K V : Type 0} → (K → K → Ordering) → List (K × V) → K → List (K × V)
rows_apart cmp rows key = filter (λ row. is_ne (cmp row.0 key)) rows

module _ {K V : Type 0} {cmp : K → K → Ordering} (o : IsTotalOrder cmp) (key : K) where
  pub below_of_above : (rows : List (K × V)) → AllAbove cmp key rows → rows_below cmp rows key ≡ []
  below_of_above [] all = refl
  below_of_above (r ∷ rs) all = rw (greater_from_less o key r.0 all.0) (below_of_above rs all.1)

  pub above_of_above : (rows : List (K × V)) → AllAbove cmp key rows → rows_above cmp rows key ≡ rows
  above_of_above [] all = refl
  above_of_above (r ∷ rs) all = rw (greater_from_less o key r.0 all.0) (ap (λ l. r ∷ l) (above_of_above rs all.1))

  pub others_of_above : (rows : List (K × V)) → AllAbove cmp key rows → rows_apart cmp rows key ≡ rows
  others_of_above [] all = refl
  others_of_above (r ∷ rs) all = rw (greater_from_less o key r.0 all.0) (ap (λ l. r ∷ l) (others_of_above rs all.1))

  pub get_of_above : (rows : List (K × V)) → AllAbove cmp key rows → get cmp rows key ≡ None
  get_of_above [] all = refl
  get_of_above (r ∷ rs) all = rw (greater_from_less o key r.0 all.0) (get_of_above rs all.1)

  -- all rows after a row at the key, or after one above it, are above it
  pub all_above_equal : (r : K × V) (rs : List (K × V)) → IsInOrder cmp (r ∷ rs) → cmp r.0 key ≡ Equal → AllAbove cmp key rs
  all_above_equal r rs sorted same = all_then (λ y less. sym (o.congr r.0 key y same) ∙ less) (keys_of rs) (sorted_head cmp r.0 (keys_of rs) sorted)

  pub all_above_greater : (r : K × V) (rs : List (K × V)) → IsInOrder cmp (r ∷ rs) → cmp r.0 key ≡ Greater → AllAbove cmp key rs
  all_above_greater r rs sorted greater = all_then (λ y less. o.trans key r.0 y (less_from_greater o key r.0 greater) less) (keys_of rs) (sorted_head cmp r.0 (keys_of rs) sorted)
