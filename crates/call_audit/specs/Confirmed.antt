-- Calls with replies that the plain book confirms: an audit of the lines of their records says yes.
use Rattle.std.specs.Prelude.{◌≡◌, ◌<◌, ◌≤◌, ◌++◌, ℕ, true, List, map, take, length, slice_get, codes, Option, None, Some}
use Rattle.std.specs.List.{flat_map}
use Rattle.entry_book.specs.Batches.{Batch}
use Rattle.entry_book.specs.History.{books_of, is_committed, reply_to}
use Rattle.entry_book.specs.declared.reply.Reply.{Reply}
use Rattle.line_devices.specs.Lines.{lines_of}
use Rattle.reg_lines.specs.RecordLines.{record_json}
use Rattle.reg_lines.specs.Spelled.{FitsInLine, IsWrittenBatch, IsWrittenCall}
use Rattle.call_audit.specs.declared.verdict.AuditVerdict.TheVariants.{Yes}
use Rattle.call_audit.specs.Verdicts.{verdict_of_lines}

-- ---- a call

-- Its batch and its number, the numbers of its invoke and of its reply, and its reply.
pub record RecordedCall : Type 0 where
  pub batch : Batch
  pub call : ℕ
  pub invoked : ℕ
  pub replied : Option ℕ
  pub reply : Reply

abbrev pub text_of_call : RecordedCall → List ℕ
text_of_call c = record_json c.batch c.call c.invoked c.replied c.reply

-- the line of its record
abbrev pub line_of_call : RecordedCall → List ℕ
line_of_call c = text_of_call c ++ codes "\n"

-- its batch is of the trust domain, batch and call satisfy the invariants of their types, and its record fits into a line
pub record IsReadableCall (domain : List ℕ) (c : RecordedCall) : Type 0 where
  pub domain_is : c.batch.domain ≡ domain
  pub batch : IsWrittenBatch c.batch
  pub call : IsWrittenCall c.call c.invoked c.replied c.reply
  pub fits : FitsInLine (text_of_call c)

-- ---- many calls

-- call i, counted from 0
abbrev pub CallAt : List RecordedCall → ℕ → RecordedCall → Type 0
CallAt calls i c = slice_get calls i ≡ Some c

-- each number is that of at most one call
abbrev pub CallsAreOnce : List RecordedCall → Type 0
CallsAreOnce calls = (i j : ℕ) (a b : RecordedCall) → CallAt calls i a → CallAt calls j b → a.call ≡ b.call → i ≡ j

-- it replied after its invoke, or it hasn't replied and is committed
abbrev pub CallHasEnded : RecordedCall → Option ℕ → Type 0
CallHasEnded c (Some n) = c.invoked < n
CallHasEnded c None = is_committed c.reply.outcome ≡ true

abbrev pub CallsHaveEnded : List RecordedCall → Type 0
CallsHaveEnded calls = (i : ℕ) (c : RecordedCall) → CallAt calls i c → CallHasEnded c c.replied

-- no call replied before the invoke of a call that is earlier in the list
abbrev pub CallsAreStrict : List RecordedCall → Type 0
CallsAreStrict calls = (i j : ℕ) (a b : RecordedCall) (n : ℕ) → i < j → CallAt calls i a → CallAt calls j b → b.replied ≡ Some n → a.invoked ≤ n

-- the plain book, run through the batches in this order, gives each call its reply
abbrev pub CallsAreLegal : List RecordedCall → Type 0
CallsAreLegal calls = (i : ℕ) (c : RecordedCall) → CallAt calls i c → c.reply ≡ reply_to c.batch (books_of (map (λ e. e.batch) (take i calls)))

-- The calls are in a serial order: legal, and strict by their numbers.
pub record AreConfirmed (calls : List RecordedCall) : Type 0 where
  pub once : CallsAreOnce calls
  pub ended : CallsHaveEnded calls
  pub strict : CallsAreStrict calls
  pub legal : CallsAreLegal calls

-- ---- the theorem, about the lines of the bytes that are printed for the calls

abbrev pub ConfirmedAreAudited : Type 0
ConfirmedAreAudited = (domain : List ℕ) (calls : List RecordedCall) → AreConfirmed calls → ((i : ℕ) (c : RecordedCall) → CallAt calls i c → IsReadableCall domain c)
    → verdict_of_lines domain (lines_of (flat_map line_of_call calls)) ≡ Yes (length calls)
