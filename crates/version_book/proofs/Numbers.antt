-- What do the numbers of a version's rows imply?
use Rattle.std.proofs.Common.{◌≡◌, ℕ, ◌+◌, ◌<◌, ◌≤◌, true, List, [], ◌∷◌, Option, Some, None, sym, ap, subst, ⊎_elim, arith, option_map}
use Rattle.std.specs.Prelude.{map, option_to_list}
use Rattle.std.specs.List.{AllByRecursion}
use Rattle.entry_book.proofs.Keys.{from_with_row, same_key}
use Rattle.entry_book.proofs.Sets.{All-within, All-from_within}
use Rattle.entry_book.specs.Rows.{Bytes, entry_key, agent_key, bundle_key}
use Rattle.entry_book.specs.Tokens.{token_key}
use Rattle.entry_book.specs.Order.{Within, Ascending, is_before, with_row}
use Rattle.entry_book.specs.Book.{AscendingBook}
use Rattle.entry_book.specs.Writes.{RowWrite, wrote_entry, wrote_agent, wrote_bundle, wrote_token}
use Rattle.entry_book.specs.Batches.{Batch}
use Rattle.version_book.specs.declared.committed_row.CommittedRow.{CommittedRow}
use Rattle.version_book.specs.CommittedRows.{CommittedRows, VersionState, AllUpTo, row_of, numbered, of_row, book_of, next_state, rows_after, rows_after_write}
use Rattle.version_book.specs.History.{Follows, version_with, writes_at}
use Rattle.version_book.specs.Stores.{NumbersIdentify, IdentifyRows}

-- newer rows whose numbers aren't above n are also among the older rows
abbrev WereThere : {X : Type 0} → ℕ → List (CommittedRow X) → List (CommittedRow X) → Type 0
WereThere n older newer = (r : _) → Within newer r → r.commit ≤ n → Within older r

module _ {X : Type 0} (key : X → Bytes) where
  -- a property of all rows is one of all rows with numbers
  all_rows : (P : X → Type 0) (rows : List (CommittedRow X)) → AllByRecursion P (map row_of rows) → AllByRecursion (λ r. P r.row) rows
  all_rows P [] h = tt
  all_rows P (r ∷ rs) h = (h.0, all_rows P rs h.1)

  pub ascending_rows : (rows : List (CommittedRow X)) → Ascending key (map row_of rows) → Ascending (of_row key) rows
  ascending_rows [] a = tt
  ascending_rows (r ∷ rs) a = (all_rows (λ y. is_before (key r.row) (key y) ≡ true) rs a.0, ascending_rows rs a.1)

  -- a row that a write puts has the write's number
  number_of_new : (n : ℕ) (new : Option X) (r : CommittedRow X) → Within (option_to_list (option_map (numbered n) new)) r → r.commit ≡ n
  number_of_new n None r w = absurd w
  number_of_new n (Some x) r w = ⊎_elim (λ e. ap (λ r. r.commit) (sym e)) (λ v. absurd v) w

  -- ---- no number is above the version's

  up_to_with_row : (n : ℕ) (k : Bytes) (new : Option X) (rows : List (CommittedRow X)) → AllByRecursion (λ r. r.commit ≤ n) rows → AllByRecursion (λ r. r.commit ≤ n) (with_row (of_row key) k (option_map (numbered n) new) rows)
  up_to_with_row n k new rows h = All-from_within (λ r. r.commit ≤ n) (with_row (of_row key) k (option_map (numbered n) new) rows)
      (λ r w. ⊎_elim
      (λ v. let e = number_of_new n new r v in omega arith)
      (λ v. All-within (λ r. r.commit ≤ n) rows r h v.0)
      (from_with_row (of_row key) k (option_map (numbered n) new) rows r w))

  -- ---- rows whose numbers aren't above n were there before

  were_there_with_row : (n m : ℕ) (k : Bytes) (new : Option X) (older newer : List (CommittedRow X)) → n < m → WereThere n older newer → WereThere n older (with_row (of_row key) k (option_map (numbered m) new) newer)
  were_there_with_row n m k new older newer l h r w u = ⊎_elim
      (λ v. let e = number_of_new m new r v in absurd (omega arith))
      (λ v. h r v.0 u)
      (from_with_row (of_row key) k (option_map (numbered m) new) newer r w)

  identify : (n : ℕ) (older newer : List (CommittedRow X)) → Ascending key (map row_of older) → AllByRecursion (λ r. r.commit ≤ n) older → WereThere n older newer → IdentifyRows key older newer
  identify n older newer a u h r s v w e f =
      let l = All-within (λ r. r.commit ≤ n) older r u v in
      same_key (of_row key) older (ascending_rows older a) r s v (h s w (omega arith)) e

-- ---- no number is above the version's

up_to_more : {X : Type 0} (n : ℕ) (rows : List (CommittedRow X)) → AllByRecursion (λ r. r.commit ≤ n) rows → AllByRecursion (λ r. r.commit ≤ n + 1) rows
up_to_more n [] h = tt
up_to_more n (r ∷ rs) h = let l = h.0 in (omega arith, up_to_more n rs h.1)

up_to_write : (n : ℕ) (w : RowWrite) (rows : CommittedRows) → AllUpTo n rows → AllUpTo n (rows_after_write n w rows)
up_to_write n (wrote_entry c) rows h = record { entries = up_to_with_row entry_key n c.key c.new rows.entries h.entries; agents = h.agents; bundles = h.bundles; tokens = h.tokens }
up_to_write n (wrote_agent c) rows h = record { entries = h.entries; agents = up_to_with_row agent_key n c.key c.new rows.agents h.agents; bundles = h.bundles; tokens = h.tokens }
up_to_write n (wrote_bundle c) rows h = record { entries = h.entries; agents = h.agents; bundles = up_to_with_row bundle_key n c.key c.new rows.bundles h.bundles; tokens = h.tokens }
up_to_write n (wrote_token c) rows h = record { entries = h.entries; agents = h.agents; bundles = h.bundles; tokens = up_to_with_row token_key n c.key c.new rows.tokens h.tokens }

up_to_writes : (n : ℕ) (ws : List RowWrite) (rows : CommittedRows) → AllUpTo n rows → AllUpTo n (rows_after n ws rows)
up_to_writes n [] rows h = h
up_to_writes n (w ∷ ws) rows h = up_to_writes n ws (rows_after_write n w rows) (up_to_write n w rows h)

pub all_up_to_next : (ws : List RowWrite) (s : VersionState) → AllUpTo s.number s.rows → AllUpTo (s.number + 1) (next_state ws s).rows
all_up_to_next ws s h = up_to_writes (s.number + 1) ws s.rows (record { entries = up_to_more s.number s.rows.entries h.entries; agents = up_to_more s.number s.rows.agents h.agents; bundles = up_to_more s.number s.rows.bundles h.bundles; tokens = up_to_more s.number s.rows.tokens h.tokens })

-- ---- rows whose numbers aren't above n were there before

record AllWereThere (n : ℕ) (older newer : CommittedRows) : Type 0 where
  entries : WereThere n older.entries newer.entries
  agents : WereThere n older.agents newer.agents
  bundles : WereThere n older.bundles newer.bundles
  tokens : WereThere n older.tokens newer.tokens

there_after_write : (n m : ℕ) (w : RowWrite) (older newer : CommittedRows) → n < m → AllWereThere n older newer → AllWereThere n older (rows_after_write m w newer)
there_after_write n m (wrote_entry c) older newer l h = record { entries = were_there_with_row entry_key n m c.key c.new older.entries newer.entries l h.entries; agents = h.agents; bundles = h.bundles; tokens = h.tokens }
there_after_write n m (wrote_agent c) older newer l h = record { entries = h.entries; agents = were_there_with_row agent_key n m c.key c.new older.agents newer.agents l h.agents; bundles = h.bundles; tokens = h.tokens }
there_after_write n m (wrote_bundle c) older newer l h = record { entries = h.entries; agents = h.agents; bundles = were_there_with_row bundle_key n m c.key c.new older.bundles newer.bundles l h.bundles; tokens = h.tokens }
there_after_write n m (wrote_token c) older newer l h = record { entries = h.entries; agents = h.agents; bundles = h.bundles; tokens = were_there_with_row token_key n m c.key c.new older.tokens newer.tokens l h.tokens }

there_after : (n m : ℕ) (ws : List RowWrite) (older newer : CommittedRows) → n < m → AllWereThere n older newer → AllWereThere n older (rows_after m ws newer)
there_after n m [] older newer l h = h
there_after n m (w ∷ ws) older newer l h = there_after n m ws older (rows_after_write m w newer) l (there_after_write n m w older newer l h)

there_since : (n : ℕ) (older : CommittedRows) (batches : List Batch) (s newer : VersionState) → n ≤ s.number → AllWereThere n older s.rows → Follows s batches newer → AllWereThere n older newer.rows
there_since n older [] s newer l h f = subst (λ t. AllWereThere n older t.rows) f h
there_since n older (batch ∷ batches) s newer l h f = there_since n older batches (version_with batch s) newer (omega arith) (there_after n (s.number + 1) (writes_at batch s) older s.rows (omega arith) h) f.1

pub numbers_identify : (batches : List Batch) (older newer : VersionState) → AscendingBook (book_of older.rows) → AllUpTo older.number older.rows → Follows older batches newer → NumbersIdentify older.rows newer.rows
numbers_identify batches older newer a u f =
    let h = there_since older.number older.rows batches older newer (omega arith) (record { entries = λ r w l. w; agents = λ r w l. w; bundles = λ r w l. w; tokens = λ r w l. w }) f in
    record {
      entries = identify entry_key older.number older.rows.entries newer.rows.entries a.entries u.entries h.entries;
      agents = identify agent_key older.number older.rows.agents newer.rows.agents a.agents u.agents h.agents;
      bundles = identify bundle_key older.number older.rows.bundles newer.rows.bundles a.bundles u.bundles h.bundles;
      tokens = identify token_key older.number older.rows.tokens newer.rows.tokens a.tokens u.tokens h.tokens;
    }
