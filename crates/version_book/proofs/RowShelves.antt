-- What does a shelf of rows represent if keys are ordered by their bytes?
use Rattle.std.proofs.Common.{◌≡◌, ◌+◌, ◌≤◌, ℕ, Bool, true, false, cond, List, [], ◌∷◌, ◌++◌, length, map, Option, Some, None, refl, sym, ap, subst, ◌∙◌, IfSome, option_map}
use Rattle.std.specs.Prelude.{filter, bytes_eq, option_to_list}
use Rattle.std.specs.List.{AllByRecursion}
use Rattle.std.specs.List.Sorted.{IsStrictlySortedBy}
use Rattle.std.specs.declared.cmp.Ordering.{Ordering}
use Rattle.std.specs.declared.cmp.Ordering.TheVariants.{Less}
use Rattle.std.specs.Ordering.{is_eq, is_lt, is_gt, nat_cmp}
use Rattle.std.specs.Cmp.Lexicographic.{slice_cmp}
use Rattle.std.specs.Map.{keys_of, values_of}
use Rattle.std.proofs.lemmas.List.{map-append, length-map}
use Rattle.version_shelf.specs.Shelf.{IsInOrder, get, rows_below, rows_above, without_key, most_rows}
use Rattle.entry_book.specs.Rows.{Bytes}
use Rattle.entry_book.specs.Order.{Ascending, first, with_row}
use Rattle.entry_book.proofs.Sets.{text_is}
use Rattle.version_book.specs.declared.committed_row.CommittedRow.{CommittedRow}
use Rattle.version_book.specs.CommittedRows.{numbered, of_row, row_of}
use Rattle.version_book.specs.Stores.{IsKeyed, by_bytes, shelf_after}
use Rattle.version_book.proofs.NamedRows.{filter-map}
use Rattle.version_book.proofs.Shelves.{in_order_ascending, keyed-after, room_for, row_at, values-after}

first_alone : {X : Type 0} (row : Option (CommittedRow X)) → first (map row_of (option_to_list row)) ≡ option_map row_of row
first_alone None = refl
first_alone (Some r) = refl

-- if a single row with its number passes, or none does, it is the first that passes among the rows without numbers
pub first_of : {X : Type 0} (p : X → Bool) (rows : List (CommittedRow X)) (row : Option (CommittedRow X)) → filter (of_row p) rows ≡ option_to_list row → option_map row_of row ≡ first (filter p (map row_of rows))
first_of p rows row e = sym (ap first (filter-map row_of p rows) ∙ (ap (λ l. first (map row_of l)) e ∙ first_alone row))

abbrev bytes_cmp : Bytes → Bytes → Ordering
bytes_cmp = slice_cmp nat_cmp

module _ {K : Type 0} (cmp : K → K → Ordering) (bytes : K → Bytes) (same : (k l : K) → cmp k l ≡ bytes_cmp (bytes k) (bytes l)) where
  -- ---- the same rows under the bytes of their keys

  values_same : {V : Type 0} (s : List (K × V)) → values_of (by_bytes bytes s) ≡ values_of s
  values_same [] = refl
  values_same (r ∷ s) = ap (λ l. r.1 ∷ l) (values_same s)

  all_later : {V : Type 0} (k : K) (s : List (K × V)) → AllByRecursion (λ l. cmp k l ≡ Less) (keys_of s) → AllByRecursion (λ l. bytes_cmp (bytes k) l ≡ Less) (keys_of (by_bytes bytes s))
  all_later k [] h = tt
  all_later k (r ∷ s) h = (sym (same k r.0) ∙ h.0, all_later k s h.1)

  in_order : {V : Type 0} (s : List (K × V)) → IsInOrder cmp s → IsInOrder bytes_cmp (by_bytes bytes s)
  unfolding IsStrictlySortedBy
  in_order [] o = tt
  in_order (r ∷ s) o = (all_later r.0 s o.0, in_order s o.1)

  get_same : {V : Type 0} (k : K) (s : List (K × V)) → get cmp s k ≡ get bytes_cmp (by_bytes bytes s) (bytes k)
  get_same k [] = refl
  get_same k (r ∷ s) = λ i. cond (is_eq (same r.0 k i)) (Some r.1) (get_same k s i)

  filter_same : {V : Type 0} (p : Ordering → Bool) (k : K) (s : List (K × V)) → by_bytes bytes (filter (λ r. p (cmp r.0 k)) s) ≡ filter (λ r. p (bytes_cmp r.0 (bytes k))) (by_bytes bytes s)
  filter_same p k [] = refl
  filter_same p k (r ∷ s) =
      let kept = filter (λ r. p (cmp r.0 k)) s in
      let others = filter (λ r. p (bytes_cmp r.0 (bytes k))) (by_bytes bytes s) in
      ap (λ o. by_bytes bytes (cond (p o) (r ∷ kept) kept)) (same r.0 k)
      ∙ elim (p (bytes_cmp (bytes r.0) (bytes k))) as (λ b. by_bytes bytes (cond b (r ∷ kept) kept) ≡ cond b ((bytes r.0, r.1) ∷ others) others) [
        | true ↦ ap (λ l. (bytes r.0, r.1) ∷ l) (filter_same p k s)
        | false ↦ filter_same p k s
      ]

  after_same : {V : Type 0} (k : K) (new : Option V) (s : List (K × V)) → by_bytes bytes (shelf_after cmp k new s) ≡ shelf_after bytes_cmp (bytes k) new (by_bytes bytes s)
  after_same k None s = map-append (λ r. (bytes r.0, r.1)) (rows_below cmp s k) (rows_above cmp s k) ∙ (λ i. filter_same is_lt k s i ++ filter_same is_gt k s i)
  after_same k (Some v) s = map-append (λ r. (bytes r.0, r.1)) (rows_below cmp s k) ((k, v) ∷ rows_above cmp s k) ∙ (λ i. filter_same is_lt k s i ++ (bytes k, v) ∷ filter_same is_gt k s i)

  module _ {X : Type 0} (key : X → Bytes) where
    abbrev Shelf : Type 0
    Shelf = List (K × CommittedRow X)

    abbrev AreKeyed : Shelf → Type 0
    AreKeyed s = IsKeyed key (by_bytes bytes s)

    pub ascending : (s : Shelf) → IsInOrder cmp s → AreKeyed s → Ascending (of_row key) (values_of s)
    ascending s o h = subst (Ascending (of_row key)) (values_same s) (in_order_ascending key (by_bytes bytes s) (in_order s o) h)

    -- ---- after a change of the row of a key

    pub values_after : (k : K) (new : Option (CommittedRow X)) (s : Shelf) → AreKeyed s → values_of (shelf_after cmp k new s) ≡ with_row (of_row key) (bytes k) new (values_of s)
    values_after k new s h = sym (values_same (shelf_after cmp k new s)) ∙ (ap values_of (after_same k new s) ∙ (values-after key (bytes k) new (by_bytes bytes s) h ∙ ap (with_row (of_row key) (bytes k) new) (values_same s)))

    pub keyed_after : (k : K) (n : ℕ) (new : Option X) (s : Shelf) → AreKeyed s → IfSome new (λ x. key x ≡ bytes k) → AreKeyed (shelf_after cmp k (option_map (numbered n) new) s)
    keyed_after k n new s h own = subst (IsKeyed key) (sym (after_same k (option_map (numbered n) new) s)) (keyed-after key (bytes k) (option_map (numbered n) new) (by_bytes bytes s) h (named new own))
      where
        named : (new : Option X) → IfSome new (λ x. key x ≡ bytes k) → IfSome (option_map (numbered n) new) (λ r. bytes k ≡ key r.row)
        named None e = tt
        named (Some x) e = sym e

    pub room_after : (k : K) (new : Option X) (s : Shelf) → AreKeyed s → IfSome new (λ x. length (with_row key (bytes k) new (map row_of (values_of s))) ≤ most_rows) → IfSome new (λ x. length (without_key cmp s k) + 1 ≤ most_rows)
    room_after k new s h room =
        let none : Option (CommittedRow X) = None in
        subst (λ n. IfSome new (λ x. n + 1 ≤ most_rows)) (sym (ap length (after_same k none s)) ∙ length-map (without_key cmp s k) (λ r. (bytes r.0, r.1)))
        (room_for key (bytes k) new (by_bytes bytes s) h (subst (λ rows. IfSome new (λ x. length (with_row key (bytes k) new (map row_of rows)) ≤ most_rows)) (sym (values_same s)) room))

    -- ---- the row with a given key

    module _ (k : K) (p : X → Bool) (names : (x : X) → p x ≡ bytes_eq (key x) (bytes k)) where
      pub named_row : (s : Shelf) → IsInOrder cmp s → AreKeyed s → (rows : List (CommittedRow X)) → values_of s ≡ rows → (row : Option (CommittedRow X)) → row ≡ get cmp s k → filter (of_row p) rows ≡ option_to_list row
      named_row s o h rows view row is =
          ap (λ q. filter (of_row q) rows) (λ i x. names x i)
          ∙ (ap (filter (λ r. bytes_eq (key r.row) (bytes k))) (sym (values_same s ∙ view))
          ∙ (row_at key (bytes k) (by_bytes bytes s) (in_order s o) h ∙ ap option_to_list (sym (is ∙ get_same k s))))

      -- it is the first of the rows with this key
      pub first_row : (s : Shelf) → IsInOrder cmp s → AreKeyed s → (rows : List (CommittedRow X)) → values_of s ≡ rows → (row : Option (CommittedRow X)) → row ≡ get cmp s k → option_map row_of row ≡ first (filter p (map row_of rows))
      first_row s o h rows view row is = first_of p rows row (named_row s o h rows view row is)

      pub one_key : (r s : CommittedRow X) → p r.row ≡ true → p s.row ≡ true → key r.row ≡ key s.row
      one_key r s e f = text_is (key r.row) (bytes k) (sym (names r.row) ∙ e) ∙ sym (text_is (key s.row) (bytes k) (sym (names s.row) ∙ f))
