-- The rows of a version, each with the number of the commit that last wrote it.
use Rattle.std.specs.Prelude.{ℕ, ◌+◌, ◌≤◌, List, [], ◌∷◌, filter, map, option_map}
use Rattle.std.specs.List.{AllByRecursion}
use Rattle.entry_book.specs.declared.agent.Agent.{Agent}
use Rattle.entry_book.specs.declared.bundle.Bundle.{Bundle}
use Rattle.entry_book.specs.declared.kept.KeptBatch.{KeptBatch}
use Rattle.entry_book.specs.Rows.{Bytes, Entry, entry_key, agent_key, bundle_key}
use Rattle.entry_book.specs.Tokens.{token_key}
use Rattle.entry_book.specs.Order.{with_row}
use Rattle.entry_book.specs.Book.{Book}
use Rattle.entry_book.specs.Writes.{RowWrite, wrote_entry, wrote_agent, wrote_bundle, wrote_token}
use Rattle.version_book.specs.declared.mark.MarkKind.{MarkKind}
use Rattle.version_book.specs.declared.committed_row.CommittedRow.{CommittedRow}
use Rattle.version_book.specs.Marks.{names_entry, names_agent, names_bundle, names_token}

-- the row without its number
abbrev pub row_of : {X : Type 0} → CommittedRow X → X
row_of r = r.row

-- the row, last written by commit n
abbrev pub numbered : {X : Type 0} → ℕ → X → CommittedRow X
numbered n x = record { row = x; commit = n }

-- applies a function to the row of a row with its number
abbrev pub of_row : {X Y : Type 0} → (X → Y) → CommittedRow X → Y
of_row f r = f r.row

-- The four sets of rows of a version, each row with the number of the commit that last wrote it.
pub record CommittedRows : Type 0 where
  pub entries : List (CommittedRow Entry)
  pub agents : List (CommittedRow Agent)
  pub bundles : List (CommittedRow Bundle)
  pub tokens : List (CommittedRow KeptBatch)

-- the rows of the first version
abbrev pub no_rows : CommittedRows
no_rows = record { entries = []; agents = []; bundles = []; tokens = [] }

-- the book of these rows, without their numbers
abbrev pub book_of : CommittedRows → Book
book_of rows = record { entries = map row_of rows.entries; agents = map row_of rows.agents; bundles = map row_of rows.bundles; tokens = map row_of rows.tokens }

-- the rows that a mark names, with their numbers, in the same order
abbrev pub marked : MarkKind → CommittedRows → CommittedRows
marked m rows = record { entries = filter (of_row (names_entry m)) rows.entries; agents = filter (of_row (names_agent m)) rows.agents; bundles = filter (of_row (names_bundle m)) rows.bundles; tokens = filter (of_row (names_token m)) rows.tokens }

-- no row has a number above n
pub record AllUpTo (n : ℕ) (rows : CommittedRows) : Type 0 where
  pub entries : AllByRecursion (λ r. r.commit ≤ n) rows.entries
  pub agents : AllByRecursion (λ r. r.commit ≤ n) rows.agents
  pub bundles : AllByRecursion (λ r. r.commit ≤ n) rows.bundles
  pub tokens : AllByRecursion (λ r. r.commit ≤ n) rows.tokens

-- ---- writes of a commit

-- the rows after one write: a new row gets the number n
abbrev pub rows_after_write : ℕ → RowWrite → CommittedRows → CommittedRows
rows_after_write n (wrote_entry c) rows = record rows { entries = with_row (of_row entry_key) c.key (option_map (numbered n) c.new) rows.entries }
rows_after_write n (wrote_agent c) rows = record rows { agents = with_row (of_row agent_key) c.key (option_map (numbered n) c.new) rows.agents }
rows_after_write n (wrote_bundle c) rows = record rows { bundles = with_row (of_row bundle_key) c.key (option_map (numbered n) c.new) rows.bundles }
rows_after_write n (wrote_token c) rows = record rows { tokens = with_row (of_row token_key) c.key (option_map (numbered n) c.new) rows.tokens }

-- the rows after these writes, one after another
abbrev pub rows_after : ℕ → List RowWrite → CommittedRows → CommittedRows
rows_after n [] rows = rows
rows_after n (w ∷ ws) rows = rows_after n ws (rows_after_write n w rows)

-- ---- a version

-- A version as contracts see it: the server's trust domain, the number of its book in the history, and its rows.
pub record VersionState : Type 0 where
  pub domain : Bytes
  pub number : ℕ
  pub rows : CommittedRows

-- the next version, after these writes of one commit
abbrev pub next_state : List RowWrite → VersionState → VersionState
next_state writes s = record s { number = s.number + 1; rows = rows_after (s.number + 1) writes s.rows }
