-- The rows of a shelf with a row, and of a shelf without a key.
use Rattle.std.proofs.Common.{◌≡◌, ℕ, ◌+◌, ◌<◌, ◌≤◌, Bool, true, false, cond, List, [], ◌∷◌, length, Option, Some, None, is_some, refl, ap, ◌∙◌, arith}
use Rattle.std.specs.declared.cmp.Ordering.{Ordering}
use Rattle.std.specs.declared.cmp.Ordering.TheVariants.{Less, Equal, Greater}
use Rattle.std.specs.Ordering.{is_eq, is_ne, ordering_reverse}
use Rattle.std.specs.Cmp.{IsTotalOrder}
use Rattle.std.specs.List.{AllByRecursion}
use Rattle.std.specs.Map.{keys_of}
use Rattle.std.proofs.lemmas.Map.Keys.{sorted_head, sorted_tail}
use Rattle.std.proofs.lemmas.Map.Entries.{lookup-filter-keys}
use Rattle.version_shelf.specs.Shelf.{IsInOrder, get, rows_below, rows_above, with_key, without_key, count_of, ChangesAt}
use Rattle.version_shelf.proofs.Above.{by_order, all_append, all_filter, in_order_filter, in_order_more, equal_from, less_from_greater, below_is_apart, rows_apart, below_of_above, above_of_above, others_of_above, get_of_above, all_above_equal, all_above_greater}

pub one_at_most : {K V : Type 0} (cmp : K → K → Ordering) (rows : List (K × V)) (key : K) → count_of cmp rows key ≤ 1
one_at_most cmp rows key = elim (is_some (get cmp rows key)) as (λ b. cond b 1 0 ≤ 1) [ true ↦ omega arith | false ↦ omega arith ]

-- ---- the changed lists, by the first row

module _ {K V : Type 0} {cmp : K → K → Ordering} (o : IsTotalOrder cmp) (key : K) (r : K × V) (rs : List (K × V)) where
  with_less : (v : V) → cmp r.0 key ≡ Less → with_key cmp (r ∷ rs) key v ≡ r ∷ with_key cmp rs key v
  with_less v less = rw less refl

  with_equal : (v : V) → IsInOrder cmp (r ∷ rs) → cmp r.0 key ≡ Equal → with_key cmp (r ∷ rs) key v ≡ (key, v) ∷ rs
  with_equal v sorted same =
      let above = all_above_equal o key r rs sorted same in
      rw (same, below_of_above o key rs above, above_of_above o key rs above) refl

  with_greater : (v : V) → IsInOrder cmp (r ∷ rs) → cmp r.0 key ≡ Greater → with_key cmp (r ∷ rs) key v ≡ (key, v) ∷ r ∷ rs
  with_greater v sorted greater =
      let above = all_above_greater o key r rs sorted greater in
      rw (greater, below_of_above o key rs above, above_of_above o key rs above) refl

-- ---- properties of the changed rows

twice_chosen : {V : Type 0} (b : Bool) (x y z : Option V) → cond b x z ≡ cond b x (cond b y z)
twice_chosen true x y z = refl
twice_chosen false x y z = refl

unless_equal : {V : Type 0} (a : Ordering) (y : Option V) → cond (is_ne (ordering_reverse a)) y None ≡ cond (is_eq a) None y
unless_equal Less y = refl
unless_equal Equal y = refl
unless_equal Greater y = refl

not_both : {V : Type 0} (a b : Bool) (x y z : Option V) → (b ≡ true → a ≡ false) → cond a x (cond b y z) ≡ cond b y (cond a x z)
not_both true true x y z apart = grind (arith, apart refl)
not_both true false x y z apart = refl
not_both false b x y z apart = refl

module _ {K V : Type 0} {cmp : K → K → Ordering} (o : IsTotalOrder cmp) (key : K) where
  pub changes_with : (v : V) (rows : List (K × V)) → IsInOrder cmp rows → ChangesAt cmp rows (with_key cmp rows key v) key (Some v)
  changes_with v [] sorted q = refl
  changes_with v (r ∷ rs) sorted q = by_order (cmp r.0 key)
      (λ less. rw (with_less o key r rs v less, changes_with v rs (sorted_tail cmp r.0 (keys_of rs) sorted) q) (not_both _ _ _ _ _ (below_is_apart o key r.0 q less)))
      (λ same. rw (with_equal o key r rs v sorted same, o.congr r.0 key q same) (twice_chosen (is_eq (cmp key q)) (Some v) (Some r.1) (get cmp rs q)))
      (λ greater. rw (with_greater o key r rs v sorted greater) refl)

  all_with : (v : V) (rows : List (K × V)) (P : K → Type 0) → P key → AllByRecursion P (keys_of rows) → AllByRecursion P (keys_of (with_key cmp rows key v))
  all_with v rows P here all = all_append P (rows_below cmp rows key) ((key, v) ∷ rows_above cmp rows key) (all_filter P _ rows all) (here, all_filter P _ rows all)

  pub in_order_with : (v : V) (rows : List (K × V)) → IsInOrder cmp rows → IsInOrder cmp (with_key cmp rows key v)
  in_order_with v [] sorted = in_order_more cmp (key, v) [] tt sorted
  in_order_with v (r ∷ rs) sorted =
      let tail = sorted_tail cmp r.0 (keys_of rs) sorted in
      by_order (cmp r.0 key)
      (λ less. rw (with_less o key r rs v less) (in_order_more cmp r _ (all_with v rs (λ y. cmp r.0 y ≡ Less) less (sorted_head cmp r.0 (keys_of rs) sorted)) (in_order_with v rs tail)))
      (λ same. rw (with_equal o key r rs v sorted same) (in_order_more cmp (key, v) rs (all_above_equal o key r rs sorted same) tail))
      (λ greater. rw (with_greater o key r rs v sorted greater) (in_order_more cmp (key, v) (r ∷ rs) (less_from_greater o key r.0 greater, all_above_greater o key r rs sorted greater) sorted))

  -- one more row, unless a row had the key
  pub length_with : (v : V) (rows : List (K × V)) → IsInOrder cmp rows → length (with_key cmp rows key v) + count_of cmp rows key ≡ length rows + 1
  length_with v [] sorted = refl
  length_with v (r ∷ rs) sorted =
      let tail = sorted_tail cmp r.0 (keys_of rs) sorted in
      by_order (cmp r.0 key)
      (λ less. rw (with_less o key r rs v less, less) (grind (arith, length_with v rs tail)))
      (λ same. rw (with_equal o key r rs v sorted same, same) (omega arith))
      (λ greater. rw (with_greater o key r rs v sorted greater, greater, get_of_above o key rs (all_above_greater o key r rs sorted greater)) (omega arith))

  pub room_after_with : (most : ℕ) (v : V) (rows : List (K × V)) → IsInOrder cmp rows → length rows < most → length (with_key cmp rows key v) ≤ most
  room_after_with most v rows sorted room = omega (arith, length_with v rows sorted)

  -- the rows without the key are those with other keys
  without_is : (rows : List (K × V)) → IsInOrder cmp rows → without_key cmp rows key ≡ rows_apart cmp rows key
  without_is [] sorted = refl
  without_is (r ∷ rs) sorted = by_order (cmp r.0 key)
      (λ less. rw less (ap (λ l. r ∷ l) (without_is rs (sorted_tail cmp r.0 (keys_of rs) sorted))))
      (λ same.
      let above = all_above_equal o key r rs sorted same in
      rw (same, below_of_above o key rs above, above_of_above o key rs above, others_of_above o key rs above) refl)
      (λ greater.
      let above = all_above_greater o key r rs sorted greater in
      rw (greater, below_of_above o key rs above, above_of_above o key rs above, others_of_above o key rs above) refl)

  absent_apart : (rows : List (K × V)) → get cmp rows key ≡ None → rows_apart cmp rows key ≡ rows
  absent_apart [] none = refl
  absent_apart (r ∷ rs) none = by_order (cmp r.0 key)
      (λ less. rw less (ap (λ l. r ∷ l) (absent_apart rs (rw less at none))))
      (λ same. let found = rw same at none in cc)
      (λ greater. rw greater (ap (λ l. r ∷ l) (absent_apart rs (rw greater at none))))

  -- if no row has the key, the rows without it are the same
  pub without_absent : (rows : List (K × V)) → IsInOrder cmp rows → get cmp rows key ≡ None → without_key cmp rows key ≡ rows
  without_absent rows sorted none = without_is rows sorted ∙ absent_apart rows none

  length_apart : (rows : List (K × V)) → IsInOrder cmp rows → length (rows_apart cmp rows key) + count_of cmp rows key ≡ length rows
  length_apart [] sorted = refl
  length_apart (r ∷ rs) sorted = by_order (cmp r.0 key)
      (λ less. rw less (grind (arith, length_apart rs (sorted_tail cmp r.0 (keys_of rs) sorted))))
      (λ same. rw (same, others_of_above o key rs (all_above_equal o key r rs sorted same)) (omega arith))
      (λ greater.
      let above = all_above_greater o key r rs sorted greater in
      rw (greater, others_of_above o key rs above, get_of_above o key rs above) (omega arith))

  changes_apart : (rows : List (K × V)) → ChangesAt cmp rows (rows_apart cmp rows key) key None
  changes_apart rows q =
      lookup-filter-keys (λ k. is_eq (cmp k q)) (λ k. is_ne (cmp k key)) (is_ne (cmp q key)) (λ k same. ap is_ne (o.congr k q key (equal_from _ same))) rows ∙ rw (o.antisymm q key) (unless_equal (cmp key q) (get cmp rows q))

  -- one row less, if a row had the key
  pub length_without : (rows : List (K × V)) → IsInOrder cmp rows → length (without_key cmp rows key) + count_of cmp rows key ≡ length rows
  length_without rows sorted = rw (without_is rows sorted) (length_apart rows sorted)

  pub room_after_without : (most : ℕ) (rows : List (K × V)) → IsInOrder cmp rows → length rows ≤ most → length (without_key cmp rows key) ≤ most
  room_after_without most rows sorted room = omega (arith, length_without rows sorted)

  pub changes_without : (rows : List (K × V)) → IsInOrder cmp rows → ChangesAt cmp rows (without_key cmp rows key) key None
  changes_without rows sorted = rw (without_is rows sorted) (changes_apart rows)

  pub in_order_without : (rows : List (K × V)) → IsInOrder cmp rows → IsInOrder cmp (without_key cmp rows key)
  in_order_without rows sorted = rw (without_is rows sorted) (in_order_filter cmp _ rows sorted)
