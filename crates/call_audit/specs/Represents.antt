-- What an auditor stores about the records so far.
use Rattle.std.specs.Prelude.{◌≡◌, ℕ, List, map}
use Rattle.entry_book.specs.History.{PlainState, RepresentsBooks, books_of}
use Rattle.line_reading.specs.Records.{AuditRecord}
use Rattle.call_audit.specs.Audits.{batches_of_records, is_late, is_past}

-- The book, the numbers of the calls in the order of their records, and the largest number of an invoke, 0 if there is none.
pub record AuditState : Type 0 where
  pub book : PlainState
  pub calls : List ℕ
  pub latest : ℕ

-- it represents these records
pub record RepresentsRecords (state : AuditState) (records : List AuditRecord) : Type 0 where
  pub books : RepresentsBooks state.book (books_of (batches_of_records records))
  pub calls : state.calls ≡ map (λ r. r.call) records
  pub latest : (r : AuditRecord) → is_past r.replied state.latest ≡ is_late r records
