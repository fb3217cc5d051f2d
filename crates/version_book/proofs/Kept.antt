-- Which rows remain after one is removed, and which are there after another is put?
use Rattle.std.proofs.Common.{◌≡◌, ◌+◌, ◌≤◌, true, false, List, [], ◌∷◌, ◌++◌, length, map, Some, None, refl, sym, ap, subst, ◌∙◌, inl, ⊎_elim, arith, length-append}
use Rattle.std.specs.Prelude.{filter, bytes_eq}
use Rattle.std.proofs.lemmas.List.Elements.{filter-append}
use Rattle.version_shelf.specs.Shelf.{most_rows}
use Rattle.entry_book.specs.Rows.{Bytes, Entry, entry_key}
use Rattle.entry_book.specs.Order.{Within, Ascending, is_before, with_row}
use Rattle.entry_book.proofs.Sets.{All-from_within, from_within_filter, within_filter, before-trans, before-irrefl, text_is, text_same}
use Rattle.entry_book.proofs.Keys.{from_with_row, without_none}
use Rattle.version_book.specs.declared.committed_row.CommittedRow.{CommittedRow}
use Rattle.version_book.specs.CommittedRows.{of_row, row_of}
use Rattle.version_book.specs.Room.{count_of_names}
use Rattle.version_book.specs.Stores.{IsAbsent}
use Rattle.version_book.proofs.Mapped.{within_map}
use Rattle.version_book.proofs.NamedRows.{map-with_row}
use Rattle.version_book.proofs.Shelves.{filter-twice, filter-apart}

-- ---- a removed row

module _ {X : Type 0} (key : X → Bytes) (k : Bytes) where
  below_not_above : (x : X) → is_before (key x) k ≡ true → is_before k (key x) ≡ false
  below_not_above x h = elim (is_before k (key x)) as (λ b. is_before k (key x) ≡ b → b ≡ false) [
    | true ↦ λ e. absurd (before-irrefl k (before-trans k (key x) k e h))
    | false ↦ λ e. refl
  ] refl

  above_not_below : (x : X) → is_before k (key x) ≡ true → is_before (key x) k ≡ false
  above_not_below x h = elim (is_before (key x) k) as (λ b. is_before (key x) k ≡ b → b ≡ false) [
    | true ↦ λ e. absurd (before-irrefl k (before-trans k (key x) k h e))
    | false ↦ λ e. refl
  ] refl

  append_none : (xs : List X) → xs ++ [] ≡ xs
  append_none [] = refl
  append_none (x ∷ xs) = ap (λ l. x ∷ l) (append_none xs)

  below_left : (rows : List X) → filter (λ x. is_before (key x) k) (with_row key k None rows) ≡ filter (λ x. is_before (key x) k) rows
  unfolding with_row
  below_left rows =
      let twice = filter-twice (λ x. is_before (key x) k) rows in
      let apart = filter-apart (λ x. is_before (key x) k) (λ x. is_before k (key x)) above_not_below rows in
      filter-append (λ x. is_before (key x) k) (filter (λ x. is_before (key x) k) rows) (filter (λ x. is_before k (key x)) rows)
      ∙ ((λ i. twice i ++ apart i) ∙ append_none (filter (λ x. is_before (key x) k) rows))

  above_left : (rows : List X) → filter (λ x. is_before k (key x)) (with_row key k None rows) ≡ filter (λ x. is_before k (key x)) rows
  unfolding with_row
  above_left rows =
      let apart = filter-apart (λ x. is_before k (key x)) (λ x. is_before (key x) k) below_not_above rows in
      let twice = filter-twice (λ x. is_before k (key x)) rows in
      filter-append (λ x. is_before k (key x)) (filter (λ x. is_before (key x) k) rows) (filter (λ x. is_before k (key x)) rows)
      ∙ (λ i. apart i ++ twice i)

  -- putting a row where its key was removed
  pub with_after_none : (n : X) (rows : List X) → with_row key k (Some n) (with_row key k None rows) ≡ with_row key k (Some n) rows
  unfolding with_row
  with_after_none n rows =
      let below = below_left rows in
      let above = above_left rows in
      λ i. below i ++ n ∷ above i

  -- it adds one row
  pub length-with_row : (n : X) (rows : List X) → length (with_row key k (Some n) rows) ≡ length (with_row key k None rows) + 1
  unfolding with_row
  length-with_row n rows =
      let one = length-append (filter (λ x. is_before (key x) k) rows) (n ∷ filter (λ x. is_before k (key x)) rows) in
      let none = length-append (filter (λ x. is_before (key x) k) rows) (filter (λ x. is_before k (key x)) rows) in
      omega (arith, one, none)

count-append : (xs ys : List Entry) → count_of_names (xs ++ ys) ≡ count_of_names xs + count_of_names ys
count-append [] ys = omega arith
count-append (x ∷ xs) ys = let rest = count-append xs ys in omega (arith, rest)

count-with_row : (k : Bytes) (n : Entry) (rows : List Entry) → count_of_names (with_row entry_key k (Some n) rows) ≡ count_of_names (with_row entry_key k None rows) + length n.domains
unfolding with_row
count-with_row k n rows =
    let one = count-append (filter (λ x. is_before (entry_key x) k) rows) (n ∷ filter (λ x. is_before k (entry_key x)) rows) in
    let none = count-append (filter (λ x. is_before (entry_key x) k) rows) (filter (λ x. is_before k (entry_key x)) rows) in
    omega (arith, one, none)

length-map : {X Y : Type 0} (f : X → Y) (xs : List X) → length (map f xs) ≡ length xs
length-map f [] = refl
length-map f (x ∷ xs) = let rest = length-map f xs in omega (arith, rest)

-- ---- the rows of a version after one is removed, and after another is put

module _ (k : Bytes) (rows : List (CommittedRow Entry)) where
  rows_without : map row_of (with_row (of_row entry_key) k None rows) ≡ with_row entry_key k None (map row_of rows)
  rows_without = map-with_row row_of entry_key k None rows

  pub room_after : (new : Entry) → length (with_row entry_key k (Some new) (map row_of rows)) ≤ most_rows → length (with_row (of_row entry_key) k None rows) + 1 ≤ most_rows
  room_after new room =
      let one = length-with_row entry_key k new (map row_of rows) in
      let same = ap length rows_without in
      let size = length-map {Y = Entry} row_of (with_row (of_row entry_key) k None rows) in
      omega (arith, one, same, size, room)

  pub names_after : (new : Entry) → count_of_names (with_row entry_key k (Some new) (map row_of rows)) ≤ most_rows → count_of_names (map row_of (with_row (of_row entry_key) k None rows)) + length new.domains ≤ most_rows
  names_after new room =
      let one = count-with_row k new (map row_of rows) in
      let same = ap count_of_names rows_without in
      omega (arith, one, same, room)

  pub absent_after : IsAbsent entry_key k (with_row (of_row entry_key) k None rows)
  absent_after = All-from_within (λ r. r.row.id ≡ k → ⊥) (with_row (of_row entry_key) k None rows)
      (λ r w. ⊎_elim (λ n. absurd n) (λ o. o.1) (from_with_row (of_row entry_key) k None rows r w))

-- the entry that was found at an id, and the rows without it if none was found
module _ (k : Bytes) (rows : List (CommittedRow Entry)) where
  pub one_found : (old : Entry) → filter (λ e. bytes_eq e.id k) (map row_of rows) ≡ old ∷ [] → Within (map row_of rows) old × (old.id ≡ k)
  one_found old alone =
      let there = from_within_filter (λ e. bytes_eq e.id k) (map row_of rows) old (subst (λ l. Within l old) (sym alone) (inl refl)) in
      (there.0, text_is old.id k there.1)

  pub none_found : Ascending (of_row entry_key) rows → filter (λ e. bytes_eq e.id k) (map row_of rows) ≡ [] → with_row (of_row entry_key) k None rows ≡ rows
  none_found ascending none = without_none (of_row entry_key) k rows ascending
      (λ r w q. subst (λ l. Within l r.row) none (within_filter (λ e. bytes_eq e.id k) (map row_of rows) r.row (within_map row_of rows r w) (text_same r.row.id k q)))
