-- What the engine `session` replies, line by line.
use Rattle.std.specs.Prelude.{◌≡◌, ◌≤◌, ◌^◌, ℕ, ◌+◌, true, false, List, [], Result, Ok, Err}
use Rattle.rand_chacha.specs.ChaCha.{ChaCha}
use Rattle.entry_book.specs.Batches.{is_query}
use Rattle.entry_book.specs.Book.{Book}
use Rattle.entry_book.specs.History.{books_from, reply_to}
use Rattle.entry_book.specs.Rows.{Bytes}
use mathlib.Core.List.{IsPrefix}
use Rattle.commit_head.specs.Journals.{IsLawfulJournal, batches_of}
use Rattle.reg_lines.specs.Refusals.{fault_json, no_memory_json}
use Rattle.reg_lines.specs.Replies.{conflict_json, reply_json}
use Rattle.line_reading.specs.Requests.{spelled}
use Rattle.line_devices.specs.Runs.{IsRun}
use Rattle.reg_lines.specs.SeatLines.{seat_refusal_json}
use Rattle.line_devices.specs.Stream.{InputState, OutputState}
use Rattle.line_reading.specs.declared.fault.Fault.{Fault}
use Rattle.reg_lines.specs.declared.printing.seats.SeatRefusal.TheVariants.{Spent, NoEntry as NotAdmitted}
use Rattle.line_reading.specs.declared.request.Request.{Request}
use Rattle.shared_registry.specs.Outcomes.{HasSeenLearnt, IsSubmitted}
use Rattle.shared_registry.specs.Seated.{AfterCall, CaughtUp, Seated, SawNothingNew}
use Rattle.shared_registry.specs.declared.outcome.Outcome.{Outcome}
use Rattle.shared_registry.specs.declared.outcome.Outcome.TheVariants.{Committed, Repeated, Refused, Conflict, NoMemory, NoEntry}
use Rattle.shared_registry.specs.declared.seat.NoAnswer.{NoAnswer}
use Rattle.shared_registry.specs.declared.seat.NoAnswer.TheVariants as no
use Rattle.line_engines.specs.Answers.{as_line}
use Rattle.line_engines.specs.Driver.{RunsOver}
use Rattle.line_engines.specs.declared.fault.RunFault.{RunFault}

-- The state of a session: the seat, with its number of calls and the lists that it has seen and learnt of; the ids that are left
-- to draw; and the number of lines that were read.
pub record Session : Type 0 where
  pub seat : Seated
  pub ids : ChaCha
  pub lines : ℕ

-- before the first line
abbrev pub session_start : Seated → ChaCha → Session
session_start seat ids = record { seat = seat; ids = ids; lines = 0 }

-- after a line without a request
abbrev pub session_skips : Session → Session
session_skips now = record now { lines = now.lines + 1 }

-- after a line with a request that left this seat and these ids
abbrev pub asked : Session → Seated → ChaCha → Session
asked now seat ids = record { seat = seat; ids = ids; lines = now.lines + 1 }

-- ---- the printed answer to a call of the seat: to the call of this number, in the line of this number

abbrev pub no_answer_json : ℕ → NoAnswer → List ℕ
no_answer_json line no.NoMemory = no_memory_json line
no_answer_json line no.NoEntry = seat_refusal_json line NotAdmitted

abbrev pub submit_json : ℕ → ℕ → Outcome → List ℕ
submit_json call line (Committed reply) = reply_json call reply
submit_json call line (Repeated reply) = reply_json call reply
submit_json call line (Refused reply) = reply_json call reply
submit_json call line (Conflict n) = conflict_json call n
submit_json call line NoMemory = no_memory_json line
submit_json call line NoEntry = seat_refusal_json line NotAdmitted

-- ---- a call of the seat, and its answer

-- The printed answer to a request, and the seat after it. A query gets the reply of the plain book on the books of the journal
-- that the seat has then seen. A batch of changes gets an outcome that the registry allows, with the number of tries of the
-- request.
pub data AnswersCall (first : List Book) (domain : Bytes) (s : Seated) (request : Request) (line : ℕ) (t : Seated) (text : List ℕ) : Type 0 where
  replied : is_query request.batch.ops ≡ true → CaughtUp first domain s t → t.own ≡ s.own → text ≡ reply_json t.calls (reply_to request.batch (books_from first (batches_of t.seen))) → AnswersCall first domain s request line t text
  no_reply : (why : NoAnswer) → is_query request.batch.ops ≡ true → SawNothingNew first domain s t → t.own ≡ s.own → text ≡ no_answer_json line why → AnswersCall first domain s request line t text
  submitted : (outcome : Outcome) → is_query request.batch.ops ≡ false → AfterCall first domain s t → HasSeenLearnt s t outcome → IsSubmitted first s t request.batch request.tries outcome → text ≡ submit_json t.calls line outcome → AnswersCall first domain s request line t text

-- ---- a line, and its reply

-- The reply that a line may get in a session, and the state after it. A line that represents a request makes one call of the
-- seat, and draws the ids of its creates, whatever its answer; a seat without a call number left makes none. If memory runs out
-- while a line is read, the reply says so, and the line changes nothing.
pub data AnswersRequest (first : List Book) (domain : Bytes) (now : Session) (line : List ℕ) (next : Session) (reply : List ℕ) : Type 0 where
  refused : (fault : Fault) → spelled domain now.ids line ≡ Err fault → next ≡ session_skips now → reply ≡ as_line (fault_json (now.lines + 1) fault) → AnswersRequest first domain now line next reply
  not_read : next ≡ session_skips now → reply ≡ as_line (no_memory_json (now.lines + 1)) → AnswersRequest first domain now line next reply
  spent : (request : Request) (ids : ChaCha) → spelled domain now.ids line ≡ Ok (request, ids) → 2 ^ 48 ≤ now.seat.calls → next ≡ asked now now.seat ids → reply ≡ as_line (seat_refusal_json (now.lines + 1) Spent) → AnswersRequest first domain now line next reply
  answered : (request : Request) (ids : ChaCha) (seat : Seated) (text : List ℕ) → spelled domain now.ids line ≡ Ok (request, ids) → AnswersCall first domain now.seat request (now.lines + 1) seat text → next ≡ asked now seat ids → reply ≡ as_line text → AnswersRequest first domain now line next reply

-- ---- a run

-- no text follows the last reply, and this is the seat at the end
abbrev pub LeavesSeat : Seated → Session → List ℕ → Type 0
LeavesSeat left last end = (end ≡ []) × (last.seat ≡ left)

-- The result of a run of the engine over an input and an output: it is a run of lines, and if it succeeded, this is the seat at
-- the end.
abbrev pub RunsSession : {T : Type 0} → List Book → Bytes → Seated → ChaCha → InputState → InputState → OutputState → OutputState → Seated → Result T RunFault → Type 0
RunsSession first domain seat ids input rest output out left result = RunsOver (AnswersRequest first domain) (LeavesSeat left) ⊥ (session_start seat ids) input rest output out result

-- ---- a theorem: what the seat of a session has seen only grows

-- The seat is the same, has made no fewer calls, and has learnt of nothing else. What it has seen extends what it had seen, and
-- is a lawful journal if that was one.
pub record Grew (first : List Book) (domain : Bytes) (s t : Seated) : Type 0 where
  pub number : t.number ≡ s.number
  pub calls : s.calls ≤ t.calls
  pub seen : IsPrefix s.seen t.seen
  pub lawful : IsLawfulJournal first domain s.seen → IsLawfulJournal first domain t.seen
  pub learnt : t.learnt ≡ s.learnt

-- So, if the journal is lawful, a session is answered on the books of its prefixes: of what the seat has seen at the end.
abbrev pub SessionsGrow : Type 0
SessionsGrow = (first : List Book) (domain : Bytes) (lines : List (List ℕ)) (start last : Session) (text : List ℕ) → IsRun (AnswersRequest first domain) start lines last text → Grew first domain start.seat last.seat
