-- What the shelves of a version represent, for this crate's own contracts.
use Rattle.std.specs.Prelude.{◌≡◌, ◌+◌, ℕ, List, [], ◌∷◌, map, length, Option, Some, None}
use Rattle.std.specs.declared.cmp.Ordering.{Ordering}
use Rattle.std.specs.List.{AllByRecursion}
use Rattle.version_shelf.specs.Shelf.{with_key, without_key}
use Rattle.entry_book.specs.Rows.{Bytes, Entry, entry_key, agent_key, bundle_key}
use Rattle.entry_book.specs.Tokens.{token_key}
use Rattle.entry_book.specs.Order.{Within}
use Rattle.version_book.specs.declared.committed_row.CommittedRow.{CommittedRow}
use Rattle.version_book.specs.CommittedRows.{CommittedRows}

-- each row is stored under its own key
abbrev pub IsKeyed : {X : Type 0} → (X → Bytes) → List (Bytes × CommittedRow X) → Type 0
IsKeyed key shelf = AllByRecursion (λ row. row.0 ≡ key row.1.row) shelf

-- the same values under the bytes of their keys
abbrev pub by_bytes : {K V : Type 0} → (K → Bytes) → List (K × V) → List (Bytes × V)
by_bytes bytes shelf = map (λ row. (bytes row.0, row.1)) shelf

-- what `unchanged` compares for each row of a range: the entry's id, and the commit that last wrote it
abbrev pub stamp : {K : Type 0} → K × CommittedRow Entry → Bytes × ℕ
stamp row = (row.1.row.id, row.1.commit)

-- the stamps of the rows of a range
abbrev pub stamps : {K : Type 0} → List (K × CommittedRow Entry) → List (Bytes × ℕ)
stamps rows = map stamp rows

-- the total number of keys of the rows
abbrev pub count_of_keys : {K : Type 0} → (Entry → List K) → List (CommittedRow Entry) → ℕ
count_of_keys keys [] = 0
count_of_keys keys (r ∷ rs) = length (keys r.row) + count_of_keys keys rs

-- no row has this key
abbrev pub IsAbsent : {X : Type 0} → (X → Bytes) → Bytes → List (CommittedRow X) → Type 0
IsAbsent key k rows = AllByRecursion (λ r. key r.row ≡ k → ⊥) rows

-- the rows of a shelf after a write at this key: with the new row, if there is one, in place of the old one
abbrev pub shelf_after : {K V : Type 0} → (K → K → Ordering) → K → Option V → List (K × V) → List (K × V)
shelf_after cmp key None shelf = without_key cmp shelf key
shelf_after cmp key (Some value) shelf = with_key cmp shelf key value

-- ---- what equal numbers imply for an older and a newer version of one history

-- an older and a newer row with the same key and the same number are equal
abbrev pub IdentifyRows : {X : Type 0} → (X → Bytes) → List (CommittedRow X) → List (CommittedRow X) → Type 0
IdentifyRows key older newer = (r s : _) → Within older r → Within newer s → key r.row ≡ key s.row → r.commit ≡ s.commit → r ≡ s

-- In all four sets, an older and a newer row with the same key and the same number are equal.
pub record NumbersIdentify (older newer : CommittedRows) : Type 0 where
  pub entries : IdentifyRows entry_key older.entries newer.entries
  pub agents : IdentifyRows agent_key older.agents newer.agents
  pub bundles : IdentifyRows bundle_key older.bundles newer.bundles
  pub tokens : IdentifyRows token_key older.tokens newer.tokens
