-- The result of a search in sorted rows, and the rows on both sides of it.
use Rattle.std.proofs.Common.{◌≡◌, ℕ, ◌+◌, ◌-◌, ◌<◌, ◌≤◌, suc, zero, Bool, true, false, cond, not, ◌&&◌, List, [], ◌∷◌, length, get_or, take, drop, filter, refl, sym, ap, ◌∙◌, inl, inr, arith}
use Rattle.std.specs.declared.cmp.Ordering.{Ordering}
use Rattle.std.specs.declared.cmp.Ordering.TheVariants.{Less, Equal, Greater}
use Rattle.std.specs.Ordering.{is_lt, is_ge}
use Rattle.std.specs.Cmp.{IsTotalOrder}
use Rattle.std.specs.List.{AllWithin}
use Rattle.std.specs.List.Sorted.{IsPartitionedBy, IsPartitionPoint}
use Rattle.std.specs.Map.{keys_of}
use Rattle.std.proofs.lemmas.Bool.{cases_lt}
use Rattle.std.proofs.lemmas.List.Filters.{length-filter_both}
use Rattle.std.proofs.lemmas.List.{get_or-map}
use Rattle.std.proofs.lemmas.Map.Entries.{length-keys_of}
use Rattle.std.proofs.lemmas.Map.Keys.{Less-from_sorted}
use Rattle.version_shelf.specs.Shelf.{IsInOrder, rows_below, rows_between, rows_from}
use Rattle.version_shelf.specs.Nodes.{IsSplitIndex, last_passes}
use Rattle.version_shelf.proofs.Ends.{ends_take, starts_drop}

-- ---- a list of which exactly the first i elements pass

module _ {X : Type 0} (p : X → Bool) where
  none_pass : (xs : List X) → AllWithin (λ x. p x ≡ false) xs 0 (length xs) → filter p xs ≡ []
  none_pass [] fail = refl
  none_pass (x ∷ xs) fail = rw (fail 0 x (omega arith) (omega arith)) (none_pass xs (λ k d low high. fail (suc k) d (omega arith) (omega arith)))

  pub filter_front : (xs : List X) (i : ℕ) → IsPartitionPoint (λ x. p x ≡ true) (λ x. p x ≡ false) xs i → filter p xs ≡ take i xs
  filter_front xs zero parts = none_pass xs parts.1
  filter_front [] (suc i) parts = refl
  filter_front (x ∷ xs) (suc i) parts = rw (parts.0 0 x (omega arith) (omega arith)) (ap (λ l. x ∷ l) (filter_front xs i (λ k d low high. parts.0 (suc k) d (omega arith) (omega arith), λ k d low high. parts.1 (suc k) d (omega arith) (omega arith))))

  all_pass : (xs : List X) → AllWithin (λ x. p x ≡ true) xs 0 (length xs) → filter p xs ≡ xs
  all_pass [] pass = refl
  all_pass (x ∷ xs) pass = rw (pass 0 x (omega arith) (omega arith)) (ap (λ l. x ∷ l) (all_pass xs (λ k d low high. pass (suc k) d (omega arith) (omega arith))))

  pub filter_back : (xs : List X) (i : ℕ) → IsPartitionPoint (λ x. p x ≡ false) (λ x. p x ≡ true) xs i → filter p xs ≡ drop i xs
  filter_back xs zero parts = all_pass xs parts.1
  filter_back [] (suc i) parts = refl
  filter_back (x ∷ xs) (suc i) parts = rw (parts.0 0 x (omega arith) (omega arith)) (filter_back xs i (λ k d low high. parts.0 (suc k) d (omega arith) (omega arith), λ k d low high. parts.1 (suc k) d (omega arith) (omega arith)))

-- ---- sorted rows

less_from : (a : Ordering) → is_lt a ≡ true → a ≡ Less
less_from Less is = refl
less_from Equal is = grind arith
less_from Greater is = grind arith

ge_from : (a : Ordering) → is_ge a ≡ not (is_lt a)
ge_from Less = refl
ge_from Equal = refl
ge_from Greater = refl

apart : true ≡ false → ⊥
apart same = cc

not_true : (b : Bool) → (b ≡ true → ⊥) → b ≡ false
not_true true not = absurd (not refl)
not_true false not = refl

module _ {K V : Type 0} {cmp : K → K → Ordering} (o : IsTotalOrder cmp) (rows : List (K × V)) (sorted : IsInOrder cmp rows) (key : K) where
  -- the keys ascend
  rises : (i j : ℕ) (d : K × V) → i < j → j < length rows → cmp (get_or rows i d).0 (get_or rows j d).0 ≡ Less
  rises i j d before inside =
      let less = Less-from_sorted cmp (keys_of rows) i j d.0 sorted before (rw (length-keys_of rows) inside) in
      rw (get_or-map (λ r. r.0) rows i d d.0 (omega arith), get_or-map (λ r. r.0) rows j d d.0 inside) at less

  -- all rows before a row below the key are below it, too
  pub is_partitioned : IsPartitionedBy (λ row. is_lt (cmp row.0 key)) rows
  is_partitioned i j d le inside below = elim (cases_lt i j) [
    | inl before ↦ ap is_lt (o.trans _ _ _ (rises i j d before inside) (less_from _ below))
    | inr after ↦ let same : i ≡ j = omega arith in rw same below
  ]

  -- the index is the number of the rows below the key
  pub point_is : (i : ℕ) → IsSplitIndex (λ row. is_lt (cmp row.0 key)) rows i → IsPartitionPoint (λ row. is_lt (cmp row.0 key) ≡ true) (λ row. is_lt (cmp row.0 key) ≡ false) rows i
  point_is i position = (
    λ k d low high.
        let last : i - 1 < length rows = omega (arith, position.inside) in
        let all : i - 1 + 1 ≡ i = omega arith in
        let passes = λ (row : K × V). is_lt (cmp row.0 key) in
        is_partitioned k (i - 1) d (omega arith) last (sym (ends_take passes rows (i - 1) d last) ∙ ap (λ n. last_passes passes (take n rows)) all ∙ position.before (omega arith)),
    λ k d low high. not_true _ (λ below.
        let passes = λ (row : K × V). is_lt (cmp row.0 key) in
        let here : i < length rows = omega arith in
        let first : passes (get_or rows i d) ≡ true = is_partitioned i k d low high below in
        apart (sym first ∙ sym (starts_drop passes rows i d here) ∙ position.behind)),
  )

  -- so the rows before the index are those below the key, and the others are those from the key on
  pub front_is : (i : ℕ) → IsPartitionPoint (λ row. is_lt (cmp row.0 key) ≡ true) (λ row. is_lt (cmp row.0 key) ≡ false) rows i → take i rows ≡ rows_below cmp rows key
  front_is i parts = sym (filter_front (λ row. is_lt (cmp row.0 key)) rows i parts)

  pub back_is : (i : ℕ) → IsPartitionPoint (λ row. is_lt (cmp row.0 key) ≡ true) (λ row. is_lt (cmp row.0 key) ≡ false) rows i → drop i rows ≡ rows_from cmp rows key
  back_is i parts = sym (filter_back (λ row. is_ge (cmp row.0 key)) rows i (λ k d low high. ge_from _ ∙ ap not (parts.0 k d low high), λ k d low high. ge_from _ ∙ ap not (parts.1 k d low high)))

-- the rows between lo and hi are, of the rows from lo on, those below hi
pub between_is : {K V : Type 0} (cmp : K → K → Ordering) (lo hi : K) (rows : List (K × V)) → rows_below cmp (rows_from cmp rows lo) hi ≡ rows_between cmp rows lo hi
between_is cmp lo hi [] = refl
between_is cmp lo hi (r ∷ rs) = elim (is_ge (cmp r.0 lo)) as (λ b. rows_below cmp (cond b (r ∷ rows_from cmp rs lo) (rows_from cmp rs lo)) hi ≡ cond (b && is_lt (cmp r.0 hi)) (r ∷ rows_between cmp rs lo hi) (rows_between cmp rs lo hi)) [
  | true ↦ rw (between_is cmp lo hi rs) refl
  | false ↦ between_is cmp lo hi rs
]

pub length_filter : {X : Type 0} (p : X → Bool) (xs : List X) → length (filter p xs) ≤ length xs
length_filter p xs = omega (arith, length-filter_both p (λ x. not (p x)) (λ x. refl) xs)
