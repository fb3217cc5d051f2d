-- What records without a fault guarantee, in the words of their readers: nothing here mentions an auditor.
use Rattle.std.specs.Prelude.{◌≡◌, ◌<◌, ◌≤◌, ℕ, false, List, [], take, slice_get, codes, Option, None, Some}
use Rattle.serde_json.specs.Data.{string}
use Rattle.serde_json.specs.Find.{get}
use Rattle.serde_json.specs.Written.{compact_text, has_float}
use Rattle.entry_book.specs.History.{books_of, reply_to}
use Rattle.line_reading.specs.Records.{AuditRecord}
use Rattle.reg_lines.specs.Replies.{reply_json}
use Rattle.call_audit.specs.Audits.{AreFaultlessRecords, batches_of_records}

-- record i, counted from 0
abbrev pub RecordAt : List AuditRecord → ℕ → AuditRecord → Type 0
RecordAt records i r = slice_get records i ≡ Some r

-- each number is the call of at most one record
abbrev pub AreOnce : List AuditRecord → Type 0
AreOnce records = (i j : ℕ) (a b : AuditRecord) → RecordAt records i a → RecordAt records j b → a.call ≡ b.call → i ≡ j

-- a call that has replied did so after its invoke, and one that hasn't is committed
abbrev pub HasEnded : AuditRecord → Option ℕ → Type 0
HasEnded r (Some n) = r.invoked < n
HasEnded r None = get (codes "result") r.reply ≡ Some (string (codes "committed"))

abbrev pub HaveEnded : List AuditRecord → Type 0
HaveEnded records = (i : ℕ) (r : AuditRecord) → RecordAt records i r → HasEnded r r.replied

-- no call replied before the invoke of a record that is earlier in the list: what ended before another was invoked comes before it
abbrev pub AreStrict : List AuditRecord → Type 0
AreStrict records = (i j : ℕ) (a b : AuditRecord) (n : ℕ) → i < j → RecordAt records i a → RecordAt records j b → b.replied ≡ Some n → a.invoked ≤ n

-- each reply is printed as the one that the plain book gives under the call's number, after the batches of the records before
pub record IsReplyTo (r : AuditRecord) (before : List AuditRecord) : Type 0 where
  pub whole : has_float r.reply ≡ false
  pub text : compact_text r.reply ≡ reply_json r.call (reply_to r.batch (books_of (batches_of_records before)))

abbrev pub AreLegalRecords : List AuditRecord → Type 0
AreLegalRecords records = (i : ℕ) (r : AuditRecord) → RecordAt records i r → IsReplyTo r (take i records)

-- The records are a serial order of their calls: legal, and strict by their stamps.
pub record AreHistory (records : List AuditRecord) : Type 0 where
  pub once : AreOnce records
  pub ended : HaveEnded records
  pub strict : AreStrict records
  pub legal : AreLegalRecords records

-- ---- the theorems

abbrev pub FaultlessAreHistory : Type 0
FaultlessAreHistory = (records : List AuditRecord) → AreFaultlessRecords [] records → AreHistory records

-- and a history has no fault
abbrev pub HistoryIsFaultless : Type 0
HistoryIsFaultless = (records : List AuditRecord) → AreHistory records → AreFaultlessRecords [] records
