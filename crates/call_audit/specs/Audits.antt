-- Which record is valid after others, and why a line is not valid: the first cause that applies, in their order.
use Rattle.std.specs.Prelude.{◌≡◌, ℕ, Bool, false, not, ◌&&◌, ◌==◌, ⊤, List, [], ◌∷◌, ◌++◌, map, codes, nat_lt, Option, None, Some, Result, Ok, Err, if◌then◌else◌, option_and_then}
use Rattle.std.specs.List.{list_any}
use Rattle.std.specs.Str.{bytes_eq}
use Rattle.serde_json.specs.Data.{Data}
use Rattle.serde_json.specs.Find.{as_str, get}
use Rattle.serde_json.specs.Written.{compact_text, has_float}
use Rattle.entry_book.specs.Batches.{Batch}
use Rattle.entry_book.specs.History.{books_of, reply_to}
use Rattle.line_reading.specs.Records.{AuditRecord, spelled_record}
use Rattle.reg_lines.specs.Replies.{reply_json}
use Rattle.line_reading.specs.declared.fault.Fault.{Fault}
use Rattle.call_audit.specs.declared.cause.Cause.{Cause}
use Rattle.call_audit.specs.declared.cause.Cause.TheVariants.{Call, Order, Reply, Spelling, Stamps}

-- ---- the conditions on a record, after those before it

-- an earlier record is of this call
abbrev pub has_call : ℕ → List AuditRecord → Bool
has_call call before = list_any (λ r. call == r.call) before

-- the reply is that of a committed batch
abbrev pub is_word_of_commit : Option (List ℕ) → Bool
is_word_of_commit None = false
is_word_of_commit (Some word) = bytes_eq word (codes "committed")

abbrev pub is_commit : Data → Bool
is_commit reply = is_word_of_commit (option_and_then as_str (get (codes "result") reply))

-- it replied after its invoke, or it hasn't replied and its reply is that of a commit
abbrev pub is_ended : Option ℕ → ℕ → Data → Bool
is_ended (Some n) invoked reply = nat_lt invoked n
is_ended None invoked reply = is_commit reply

abbrev pub is_stamped : AuditRecord → Bool
is_stamped r = is_ended r.replied r.invoked r.reply

-- a reply at this number comes before this invoke
abbrev pub is_past : Option ℕ → ℕ → Bool
is_past None invoked = false
is_past (Some n) invoked = nat_lt n invoked

-- the call replied before the call of an earlier record was invoked
abbrev pub is_late : AuditRecord → List AuditRecord → Bool
is_late r before = list_any (λ e. is_past r.replied e.invoked) before

-- the value has this compact text, and has no float
abbrev pub is_text_of : Data → List ℕ → Bool
is_text_of d text = not (has_float d) && bytes_eq (compact_text d) text

abbrev pub batches_of_records : List AuditRecord → List Batch
batches_of_records before = map (λ r. r.batch) before

-- the plain book, after the batches of the records before, gives this reply
abbrev pub is_reply_right : AuditRecord → List AuditRecord → Bool
is_reply_right r before = is_text_of r.reply (reply_json r.call (reply_to r.batch (books_of (batches_of_records before))))

-- ---- the first cause

unfoldable pub cause_of : List AuditRecord → AuditRecord → Option Cause
cause_of before r =
    if has_call r.call before then Some Call else
    (if not (is_stamped r) then Some Stamps else
    (if is_late r before then Some Order else
    (if not (is_reply_right r before) then Some Reply else
    None)))

-- ---- a line

-- The result for a line: its record, if that has no cause, and otherwise the first cause.
abbrev pub judged_when : List AuditRecord → AuditRecord → Option Cause → Result AuditRecord Cause
judged_when before r None = Ok r
judged_when before r (Some cause) = Err cause

abbrev pub judged_spelled : List AuditRecord → Result AuditRecord Fault → Result AuditRecord Cause
judged_spelled before (Err fault) = Err (Spelling fault.code)
judged_spelled before (Ok r) = judged_when before r (cause_of before r)

-- the result for a line in a trust domain, after these records: its record, or the first cause
unfoldable pub judged : List ℕ → List AuditRecord → List ℕ → Result AuditRecord Cause
judged domain before line = judged_spelled before (spelled_record domain line)

-- ---- what an auditor returns

-- None if the line has a valid record, which together with those before it satisfies `Keeps`; otherwise the line's first cause
abbrev pub Judges : List ℕ → List AuditRecord → List ℕ → (List AuditRecord → Type 0) → Option Cause → Type 0
Judges domain before line Keeps None = (r : AuditRecord) × (judged domain before line ≡ Ok r) × Keeps (before ++ r ∷ [])
Judges domain before line Keeps (Some cause) = judged domain before line ≡ Err cause

-- ---- many records

-- none has a cause, each after those before it
abbrev pub AreFaultlessRecords : List AuditRecord → List AuditRecord → Type 0
AreFaultlessRecords before [] = ⊤
AreFaultlessRecords before (r ∷ rs) = (cause_of before r ≡ None) × AreFaultlessRecords (before ++ r ∷ []) rs
