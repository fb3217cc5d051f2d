-- The record of a call of a machine.
use Rattle.std.specs.Prelude.{◌≡◌, ℕ, Option, Some, None}
use Rattle.std.specs.Option.{option_copied}
use Rattle.entry_book.specs.declared.reply.Reply.{Reply}
use Rattle.entry_book.specs.declared.reply.CallAnswer.{CallAnswer}
use Rattle.entry_book.specs.declared.reply.CallAnswer.TheVariants.{Replied, Conflict}
use Rattle.call_answers.specs.declared.call.KnownCall.{KnownCall}
use Rattle.reg_lines.specs.declared.printing.records.CallRecord.{CallRecord}

-- The record has the known values of the call of this number, and this reply.
pub record Records (call : ℕ) (known : KnownCall) (reply : Reply) (r : CallRecord) : Type 0 where
  pub batch : r.batch ≡ known.batch
  pub call_is : r.call ≡ call
  pub invoked : r.invoked ≡ known.invoked
  pub replied : r.replied ≡ known.replied
  pub reply_is : r.reply.now ≡ reply

-- a call with a reply has a record; a call with a conflict, or without an answer, has none
abbrev pub HasRecordWith : ℕ → KnownCall → Option CallAnswer → Option CallRecord → Type 0
HasRecordWith call known None r = r ≡ None
HasRecordWith call known (Some (Conflict place)) r = r ≡ None
HasRecordWith call known (Some (Replied reply)) None = ⊥
HasRecordWith call known (Some (Replied reply)) (Some r) = Records call known reply r

-- the record of the call of this number, from what is known of it
abbrev pub HasRecord : ℕ → KnownCall → Option CallRecord → Type 0
HasRecord call known r = HasRecordWith call known (option_copied known.answer) r
