-- Each printed line is one line: its text contains no line feed, and `print_line` adds one at its end.
use Rattle.std.specs.Prelude.{◌≡◌, ℕ, false, List, Option, decimal}
use Rattle.call_answers.specs.declared.answer.Done.{Done}
use Rattle.call_events.specs.declared.event.EventRefusal.{EventRefusal}
use Rattle.entry_book.specs.Batches.{Batch}
use Rattle.entry_book.specs.declared.reply.Reply.{Reply}
use Rattle.line_devices.specs.Lines.{has_lf}
use Rattle.line_reading.specs.declared.refusal.LineRefusal.{LineRefusal}
use Rattle.reg_lines.specs.declared.printing.seats.SeatRefusal.{SeatRefusal}
use Rattle.reg_lines.specs.EventAnswers.{event_json, event_refusal_json, order_json}
use Rattle.reg_lines.specs.Json.{text_json}
use Rattle.reg_lines.specs.RecordLines.{record_json}
use Rattle.reg_lines.specs.Refusals.{refusal_json}
use Rattle.reg_lines.specs.Replies.{conflict_json, reply_json}
use Rattle.reg_lines.specs.SeatLines.{seat_refusal_json}

-- ---- replies, and refused lines

abbrev pub RepliesHaveNoLf : Type 0
RepliesHaveNoLf = (call : ℕ) (reply : Reply) → has_lf (reply_json call reply) ≡ false

abbrev pub ConflictsHaveNoLf : Type 0
ConflictsHaveNoLf = (call place : ℕ) → has_lf (conflict_json call place) ≡ false

-- including that of out of memory
abbrev pub RefusalsHaveNoLf : Type 0
RefusalsHaveNoLf = (r : LineRefusal) → has_lf (refusal_json r) ≡ false

abbrev pub SeatRefusalsHaveNoLf : Type 0
SeatRefusalsHaveNoLf = (line : ℕ) (r : SeatRefusal) → has_lf (seat_refusal_json line r) ≡ false

-- ---- the lines of a schedule

abbrev pub EventsHaveNoLf : Type 0
EventsHaveNoLf = (done : Done) → has_lf (event_json done) ≡ false

abbrev pub EventRefusalsHaveNoLf : Type 0
EventRefusalsHaveNoLf = (line : ℕ) (r : EventRefusal) → has_lf (event_refusal_json line r) ≡ false

abbrev pub OrdersHaveNoLf : Type 0
OrdersHaveNoLf = (calls : List ℕ) → has_lf (order_json calls) ≡ false

-- ---- records

abbrev pub RecordsHaveNoLf : Type 0
RecordsHaveNoLf = (batch : Batch) (call invoked : ℕ) (replied : Option ℕ) (reply : Reply) → has_lf (record_json batch call invoked replied reply) ≡ false

-- ---- parts of lines, for lines that other crates print

abbrev pub TextsHaveNoLf : Type 0
TextsHaveNoLf = (text : List ℕ) → has_lf (text_json text) ≡ false

abbrev pub NumbersHaveNoLf : Type 0
NumbersHaveNoLf = (n : ℕ) → has_lf (decimal n) ≡ false
