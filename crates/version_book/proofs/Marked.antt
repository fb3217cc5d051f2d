-- Which entries does a mark without a range name?
use Rattle.std.proofs.Common.{◌≡◌, Bool, true, false, List, [], ◌∷◌, Option, refl, sym, ap, ◌∙◌}
use Rattle.std.specs.Prelude.{filter, bytes_eq, option_to_list}
use Rattle.std.specs.Ordering.{nat_cmp}
use Rattle.std.specs.Cmp.Lexicographic.{slice_cmp}
use Rattle.std.specs.Map.{values_of}
use Rattle.version_shelf.specs.Shelf.{IsInOrder, get}
use Rattle.entry_book.specs.Rows.{Bytes, Entry, entry_key}
use Rattle.entry_book.proofs.Sets.{text_is}
use Rattle.version_book.specs.declared.mark.MarkKind.{MarkKind}
use Rattle.version_book.specs.declared.mark.MarkKind.TheVariants as mark
use Rattle.version_book.specs.declared.mark.IndexRange.TheVariants.{SingleRow}
use Rattle.version_book.specs.declared.committed_row.CommittedRow.{CommittedRow}
use Rattle.version_book.specs.Index.{index_range_of}
use Rattle.version_book.specs.Marks.{names_entry}
use Rattle.version_book.specs.CommittedRows.{of_row}
use Rattle.version_book.specs.Stores.{IsKeyed}
use Rattle.version_book.proofs.Shelves.{row_at}

-- the mark of an id names the row with this id
pub marked_row : (m : MarkKind) (id : Bytes) → m ≡ mark.Entry id → (shelf : List (Bytes × CommittedRow Entry)) → IsInOrder (slice_cmp nat_cmp) shelf → IsKeyed entry_key shelf → (rows : List (CommittedRow Entry)) → values_of shelf ≡ rows → (row : Option (CommittedRow Entry)) → row ≡ get (slice_cmp nat_cmp) shelf id → filter (of_row (names_entry m)) rows ≡ option_to_list row
marked_row m id named shelf sorted keyed rows view row is =
    ap (λ n. filter (of_row (names_entry n)) rows) named
    ∙ (ap (filter (λ r. bytes_eq r.row.id id)) (sym view)
    ∙ (row_at entry_key id shelf sorted keyed ∙ ap option_to_list (sym is)))

-- it names no row with another id
pub alone : (m : MarkKind) (id : Bytes) → m ≡ mark.Entry id → (r s : CommittedRow Entry) → names_entry m r.row ≡ true → names_entry m s.row ≡ true → r.row.id ≡ s.row.id
alone m id named r s v w = text_is r.row.id id (ap (λ n. names_entry n r.row) (sym named) ∙ v) ∙ sym (text_is s.row.id id (ap (λ n. names_entry n s.row) (sym named) ∙ w))

-- a mark of an agent, a bundle or a token names no entry
names_none : (m : MarkKind) → index_range_of m ≡ SingleRow → ((id : Bytes) → m ≡ mark.Entry id → ⊥) → (e : Entry) → names_entry m e ≡ false
names_none (mark.Entry id) index_range other e = absurd (other id refl)
names_none (mark.Group parent identity) index_range other e = cc
names_none (mark.Children parent) index_range other e = cc
names_none (mark.Users domain) index_range other e = cc
names_none (mark.Expiring moment) index_range other e = cc
names_none mark.All index_range other e = cc
names_none m index_range other e = refl

pub all_fail : {X : Type 0} (p : X → Bool) → ((x : X) → p x ≡ false) → (xs : List X) → filter p xs ≡ []
all_fail p h [] = refl
all_fail p h (x ∷ xs) = rw (h x) (all_fail p h xs)

module _ (m : MarkKind) (index_range : index_range_of m ≡ SingleRow) (other : (id : Bytes) → m ≡ mark.Entry id → ⊥) where
  pub no_entries : (es : List Entry) → filter (names_entry m) es ≡ []
  no_entries es = all_fail (names_entry m) (names_none m index_range other) es

  pub no_rows : (rows : List (CommittedRow Entry)) → filter (of_row (names_entry m)) rows ≡ []
  no_rows rows = all_fail (of_row (names_entry m)) (λ r. names_none m index_range other r.row) rows
