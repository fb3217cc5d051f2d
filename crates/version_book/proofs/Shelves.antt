-- What does a shelf of rows represent if each row is under its own key?
use Rattle.std.proofs.Common.{◌≡◌, ◌+◌, ◌≤◌, Bool, true, false, cond, List, [], ◌∷◌, ◌++◌, length, map, Option, Some, None, refl, sym, ap, subst, ◌∙◌, ⊎_elim, IfSome, arith}
use Rattle.std.specs.Prelude.{filter, bytes_eq, option_to_list}
use Rattle.std.specs.List.{AllByRecursion}
use Rattle.std.specs.List.Sorted.{IsStrictlySortedBy}
use Rattle.std.specs.declared.cmp.Ordering.{Ordering}
use Rattle.std.specs.declared.cmp.Ordering.TheVariants.{Less, Equal, Greater}
use Rattle.std.specs.Ordering.{is_eq, is_lt, is_gt, nat_cmp, ordering_reverse}
use Rattle.std.specs.Cmp.{IsTotalOrder}
use Rattle.std.specs.Cmp.Lexicographic.{slice_cmp, nat_list_cmp_total, texts_ties}
use Rattle.std.specs.Map.{keys_of, values_of}
use Rattle.std.proofs.lemmas.List.{map-append, length-map}
use Rattle.std.proofs.lemmas.List.Elements.{filter-append}
use Rattle.std.proofs.lemmas.Map.Keys.{sorted_tail}
use Rattle.version_shelf.specs.Shelf.{IsInOrder, get, rows_below, rows_above, with_key, without_key, most_rows}
use Rattle.version_shelf.proofs.Above.{by_order, below_of_above, above_of_above, all_above_greater}
use Rattle.entry_book.specs.Rows.{Bytes}
use Rattle.entry_book.specs.Order.{Within, Ascending, is_before, with_row, first}
use Rattle.entry_book.proofs.Sets.{All-within, All-from_within, from_within_filter, from_within_append}
use Rattle.entry_book.proofs.Keys.{rows_at}
use Rattle.version_book.specs.declared.committed_row.CommittedRow.{CommittedRow}
use Rattle.version_book.specs.CommittedRows.{of_row, row_of}
use Rattle.version_book.specs.Stores.{IsKeyed, shelf_after}
use Rattle.version_book.proofs.NamedRows.{map-with_row}

-- ---- filters

pub filter-twice : {X : Type 0} (p : X → Bool) (xs : List X) → filter p (filter p xs) ≡ filter p xs
filter-twice p [] = refl
filter-twice p (x ∷ xs) = elim (p x) as (λ b. p x ≡ b → filter p (cond b (x ∷ filter p xs) (filter p xs)) ≡ cond b (x ∷ filter p xs) (filter p xs)) [
  | true ↦ λ e. rw e (ap (λ l. x ∷ l) (filter-twice p xs))
  | false ↦ λ e. filter-twice p xs
] refl

pub filter-apart : {X : Type 0} (p q : X → Bool) → ((x : X) → q x ≡ true → p x ≡ false) → (xs : List X) → filter p (filter q xs) ≡ []
filter-apart p q h [] = refl
filter-apart p q h (x ∷ xs) = elim (q x) as (λ b. q x ≡ b → filter p (cond b (x ∷ filter q xs) (filter q xs)) ≡ []) [
  | true ↦ λ e. rw (h x e) (filter-apart p q h xs)
  | false ↦ λ e. filter-apart p q h xs
] refl

pub filter-map : {X Y : Type 0} (f : X → Y) (p : Y → Bool) (xs : List X) → filter p (map f xs) ≡ map f (filter (λ x. p (f x)) xs)
filter-map f p [] = refl
filter-map f p (x ∷ xs) = elim (p (f x)) as (λ t. cond t (f x ∷ filter p (map f xs)) (filter p (map f xs)) ≡ map f (cond t (x ∷ filter (λ x. p (f x)) xs) (filter (λ x. p (f x)) xs))) [ true ↦ ap (λ l. f x ∷ l) (filter-map f p xs) | false ↦ filter-map f p xs ]

-- ---- a shelf after a write of one key

lt_not_gt : (o : Ordering) → is_lt o ≡ true → is_gt o ≡ false
lt_not_gt Less h = refl
lt_not_gt Equal h = refl
lt_not_gt Greater h = grind arith

gt_not_lt : (o : Ordering) → is_gt o ≡ true → is_lt o ≡ false
gt_not_lt Less h = grind arith
gt_not_lt Equal h = refl
gt_not_lt Greater h = refl

module _ {K V : Type 0} (cmp : K → K → Ordering) (key : K) where
  below_of_without : (s : List (K × V)) → rows_below cmp (without_key cmp s key) key ≡ rows_below cmp s key
  below_of_without s = rw (filter-append, filter-twice (λ row. is_lt (cmp row.0 key)) s, filter-apart (λ row. is_lt (cmp row.0 key)) (λ row. is_gt (cmp row.0 key)) (λ row. gt_not_lt (cmp row.0 key)) s) (append_none (rows_below cmp s key))
    where
      append_none : (xs : List (K × V)) → xs ++ [] ≡ xs
      append_none [] = refl
      append_none (x ∷ xs) = ap (λ l. x ∷ l) (append_none xs)

  above_of_without : (s : List (K × V)) → rows_above cmp (without_key cmp s key) key ≡ rows_above cmp s key
  above_of_without s = rw (filter-append, filter-twice (λ row. is_gt (cmp row.0 key)) s, filter-apart (λ row. is_gt (cmp row.0 key)) (λ row. is_lt (cmp row.0 key)) (λ row. lt_not_gt (cmp row.0 key)) s) refl

  -- putting a row where its key was removed
  pub with_after_without : (v : V) (s : List (K × V)) → with_key cmp (without_key cmp s key) key v ≡ with_key cmp s key v
  with_after_without v s = rw (below_of_without s, above_of_without s) refl

  -- removing a key that isn't there
  pub without_absent : IsTotalOrder cmp → (s : List (K × V)) → IsInOrder cmp s → get cmp s key ≡ None → without_key cmp s key ≡ s
  without_absent o [] sorted none = refl
  without_absent o (r ∷ rs) sorted none = by_order (cmp r.0 key)
      (λ less. rw less (ap (λ l. r ∷ l) (without_absent o rs (sorted_tail cmp r.0 (keys_of rs) sorted) (tail less))))
      (λ same. absurd (found same))
      (λ greater. let above = all_above_greater o key r rs sorted greater in rw (greater, below_of_above o key rs above, above_of_above o key rs above) refl)
    where
      tail : cmp r.0 key ≡ Less → get cmp rs key ≡ None
      tail less = rw less at none

      found : cmp r.0 key ≡ Equal → ⊥
      found same = let q : Some r.1 ≡ None = (rw same at none) in cc

-- ---- rows under their own keys, by bytes

reverse_lt : (o : Ordering) → is_lt (ordering_reverse o) ≡ is_gt o
reverse_lt Less = refl
reverse_lt Equal = refl
reverse_lt Greater = refl

pub gt_is_before : (x k : Bytes) → is_gt (slice_cmp nat_cmp x k) ≡ is_before k x
unfolding is_before
gt_is_before x k = sym (ap is_lt (nat_list_cmp_total.antisymm k x) ∙ reverse_lt (slice_cmp nat_cmp x k))

lt_is_before : (x k : Bytes) → is_lt (slice_cmp nat_cmp x k) ≡ is_before x k
unfolding is_before
lt_is_before x k = refl

module _ {X : Type 0} (key : X → Bytes) where
  -- the rows are in ascending order of their keys
  later_keys : (k : Bytes) (s : List (Bytes × CommittedRow X)) → AllByRecursion (λ y. slice_cmp nat_cmp k y ≡ Less) (keys_of s) → IsKeyed key s → AllByRecursion (λ r. is_before k (key r.row) ≡ true) (values_of s)
  unfolding is_before
  later_keys k [] a h = tt
  later_keys k (r ∷ rs) a h = (rw (sym h.0, a.0) refl, later_keys k rs a.1 h.1)

  pub in_order_ascending : (s : List (Bytes × CommittedRow X)) → IsInOrder (slice_cmp nat_cmp) s → IsKeyed key s → Ascending (of_row key) (values_of s)
  unfolding IsStrictlySortedBy
  in_order_ascending [] o h = tt
  in_order_ascending (r ∷ rs) o h = (rw (sym h.0) (later_keys r.0 rs o.0 h.1), in_order_ascending rs o.1 h.1)

  values-filter : (p q : Bytes → Bool) → ((k : Bytes) → p k ≡ q k) → (s : List (Bytes × CommittedRow X)) → IsKeyed key s → values_of (filter (λ row. p row.0) s) ≡ filter (λ r. q (key r.row)) (values_of s)
  values-filter p q e [] h = refl
  values-filter p q e (r ∷ rs) h = rw (sym (ap q h.0), sym (e r.0)) (elim (p r.0) as (λ b. values_of (cond b (r ∷ filter (λ row. p row.0) rs) (filter (λ row. p row.0) rs)) ≡ cond b (r.1 ∷ filter (λ r. q (key r.row)) (values_of rs)) (filter (λ r. q (key r.row)) (values_of rs))) [
    | true ↦ ap (λ l. r.1 ∷ l) (values-filter p q e rs h.1)
    | false ↦ values-filter p q e rs h.1
  ])

  -- the rows after a write are the rows with the new row in place of that of the key
  pub values-after : (k : Bytes) (new : Option (CommittedRow X)) (s : List (Bytes × CommittedRow X)) → IsKeyed key s → values_of (shelf_after (slice_cmp nat_cmp) k new s) ≡ with_row (of_row key) k new (values_of s)
  unfolding with_row
  values-after k None s h = rw (map-append, values-filter (λ x. is_lt (slice_cmp nat_cmp x k)) (λ x. is_before x k) (λ x. lt_is_before x k) s h, values-filter (λ x. is_gt (slice_cmp nat_cmp x k)) (λ x. is_before k x) (λ x. gt_is_before x k) s h) refl
  values-after k (Some n) s h = rw (map-append, values-filter (λ x. is_lt (slice_cmp nat_cmp x k)) (λ x. is_before x k) (λ x. lt_is_before x k) s h, values-filter (λ x. is_gt (slice_cmp nat_cmp x k)) (λ x. is_before k x) (λ x. gt_is_before x k) s h) refl

  -- they are under their own keys again
  kept_keys : (p : Bytes × CommittedRow X → Bool) (s : List (Bytes × CommittedRow X)) → IsKeyed key s → (x : Bytes × CommittedRow X) → Within (filter p s) x → x.0 ≡ key x.1.row
  kept_keys p s h x w = All-within (λ row. row.0 ≡ key row.1.row) s x h (from_within_filter p s x w).0

  pub keyed-after : (k : Bytes) (new : Option (CommittedRow X)) (s : List (Bytes × CommittedRow X)) → IsKeyed key s → IfSome new (λ r. k ≡ key r.row) → IsKeyed key (shelf_after (slice_cmp nat_cmp) k new s)
  keyed-after k None s h n = All-from_within (λ row. row.0 ≡ key row.1.row) (rows_below (slice_cmp nat_cmp) s k ++ rows_above (slice_cmp nat_cmp) s k) (λ x w.
      ⊎_elim (kept_keys (λ row. is_lt (slice_cmp nat_cmp row.0 k)) s h x) (kept_keys (λ row. is_gt (slice_cmp nat_cmp row.0 k)) s h x) (from_within_append (rows_below (slice_cmp nat_cmp) s k) (rows_above (slice_cmp nat_cmp) s k) x w))
  keyed-after k (Some r) s h n = All-from_within (λ row. row.0 ≡ key row.1.row) (rows_below (slice_cmp nat_cmp) s k ++ (k, r) ∷ rows_above (slice_cmp nat_cmp) s k) (λ x w.
      ⊎_elim (kept_keys (λ row. is_lt (slice_cmp nat_cmp row.0 k)) s h x)
      (λ v. ⊎_elim (λ e. subst (λ row. row.0 ≡ key row.1.row) e n) (kept_keys (λ row. is_gt (slice_cmp nat_cmp row.0 k)) s h x) v)
      (from_within_append (rows_below (slice_cmp nat_cmp) s k) ((k, r) ∷ rows_above (slice_cmp nat_cmp) s k) x w))

  -- the row of a key
  pub get-first : (k : Bytes) (s : List (Bytes × CommittedRow X)) → IsKeyed key s → get (slice_cmp nat_cmp) s k ≡ first (filter (λ r. bytes_eq (key r.row) k) (values_of s))
  get-first k [] h = refl
  get-first k (r ∷ rs) h = rw (sym h.0, texts_ties r.0 k) (elim (is_eq (slice_cmp nat_cmp r.0 k)) as (λ b. cond b (Some r.1) (get (slice_cmp nat_cmp) rs k) ≡ first (cond b (r.1 ∷ filter (λ r. bytes_eq (key r.row) k) (values_of rs)) (filter (λ r. bytes_eq (key r.row) k) (values_of rs)))) [
    | true ↦ refl
    | false ↦ get-first k rs h.1
  ])

  pub row_at : (k : Bytes) (s : List (Bytes × CommittedRow X)) → IsInOrder (slice_cmp nat_cmp) s → IsKeyed key s → filter (λ r. bytes_eq (key r.row) k) (values_of s) ≡ option_to_list (get (slice_cmp nat_cmp) s k)
  row_at k s o h = rw (get-first k s h) (rows_at (of_row key) k (values_of s) (in_order_ascending s o h))

  -- ---- room for a row that is put

  pub room_for : (k : Bytes) (new : Option X) (s : List (Bytes × CommittedRow X)) → IsKeyed key s → IfSome new (λ x. length (with_row key k new (map row_of (values_of s))) ≤ most_rows) → IfSome new (λ x. length (without_key (slice_cmp nat_cmp) s k) + 1 ≤ most_rows)
  room_for k None s h room = tt
  room_for k (Some x) s h room =
      let r : CommittedRow X = record { row = x; commit = 0 } in
      let same : with_row key k (Some x) (map row_of (values_of s)) ≡ map row_of (values_of (shelf_after (slice_cmp nat_cmp) k (Some r) s)) = sym (map-with_row row_of key k (Some r) (values_of s)) ∙ ap (map row_of) (sym (values-after k (Some r) s h)) in
      let size : length (with_row key k (Some x) (map row_of (values_of s))) ≡ length (without_key (slice_cmp nat_cmp) s k) + 1 = ap length same ∙ length-map (values_of (shelf_after (slice_cmp nat_cmp) k (Some r) s)) row_of ∙ length-map (shelf_after (slice_cmp nat_cmp) k (Some r) s) (λ row. row.1) ∙ one_more (rows_below (slice_cmp nat_cmp) s k) (rows_above (slice_cmp nat_cmp) s k) (k, r) in
      subst (λ n. n ≤ most_rows) size room
    where
      one_more : (low high : List (Bytes × CommittedRow X)) (row : Bytes × CommittedRow X) → length (low ++ row ∷ high) ≡ length (low ++ high) + 1
      one_more [] high row = omega arith
      one_more (l ∷ ls) high row = let q = one_more ls high row in omega (arith, q)
