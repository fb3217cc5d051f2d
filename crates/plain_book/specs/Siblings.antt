-- The list of all parents with their entries, an index of the entries of a book. For this crate's own contracts.
use Rattle.std.specs.Prelude.{◌≡◌, ◌<◌, List, [], filter, length, Option, Some, None, bytes_eq}
use Rattle.plain_book.specs.declared.siblings.Siblings.{Siblings}
use Rattle.entry_book.specs.Rows.{Bytes, Entry}
use Rattle.entry_book.specs.Order.{Ascending, Within, first}

-- the key of a row of the list: the parent
abbrev pub parent_key : Siblings → Bytes
parent_key s = s.parent

-- the entries of such a row; none if there is no row
abbrev pub entries_of : Option Siblings → List Entry
entries_of None = []
entries_of (Some s) = s.entries

-- the entries in the first row of this parent; none if it has no row
abbrev pub siblings_at : Bytes → List Siblings → List Entry
siblings_at p all = entries_of (first (filter (λ s. bytes_eq s.parent p) all))

-- each row of the list has an entry
abbrev pub HaveEntries : List Siblings → Type 0
HaveEntries all = (s : Siblings) → Within all s → 0 < length s.entries

-- The list is in the order of parents, and has for each parent its entries, in the order of the entries. It has no row for a parent
-- without entries.
pub record IsByParent (entries : List Entry) (all : List Siblings) : Type 0 where
  pub order : Ascending parent_key all
  pub each : (p : Bytes) → siblings_at p all ≡ filter (λ e. bytes_eq e.parent p) entries
  pub filled : HaveEntries all

-- The new list is in the order of parents. It has these entries for this parent, and those of the old list for each other parent. If
-- each row of the old list has an entry, so has each row of the new one.
pub record ChangesAt (parent : Bytes) (entries : List Entry) (old new : List Siblings) : Type 0 where
  pub order : Ascending parent_key new
  pub here : siblings_at parent new ≡ entries
  pub others : (p : Bytes) → (p ≡ parent → ⊥) → siblings_at p new ≡ siblings_at p old
  pub filled : HaveEntries old → HaveEntries new
