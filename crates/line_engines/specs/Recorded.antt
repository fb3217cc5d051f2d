-- What the engine `record_schedule` writes: nothing line by line, and at the end the records of the machine's calls.
use Rattle.std.specs.Prelude.{◌≡◌, ◌↔◌, ◌+◌, ◌<◌, ◌≤◌, ℕ, true, false, ⊤, List, [], ◌∷◌, Option, None, Some, Result, Ok, Err, IfOk, IfSome}
use Rattle.std.specs.Io.KnownBytes.{Appends}
use Rattle.std.specs.List.{AllByRecursion, flat_map}
use Rattle.rand_chacha.specs.ChaCha.{ChaCha}
use Rattle.entry_book.specs.declared.reply.Reply.{Reply}
use Rattle.entry_book.specs.Batches.{Batch}
use Rattle.entry_book.specs.Book.{Book}
use Rattle.entry_book.specs.History.{books_after, first_books, is_committed, reply_to}
use Rattle.call_machine.specs.Calls.{Call, call_at, first_machine, answer_of}
use Rattle.call_machine.specs.Laws.{IsOrder}
use Rattle.call_machine.specs.Machine.{Runs}
use Rattle.call_machine.specs.Schedules.{EventAt, Happened, Headline, accepted}
use Rattle.call_answers.specs.declared.answer.Done.{Done}
use Rattle.call_answers.specs.declared.answer.Done.TheVariants.{Answered}
use Rattle.call_events.specs.declared.event.Event.{Event}
use Rattle.call_events.specs.declared.event.Event.TheVariants.{Invoke}
use Rattle.call_events.specs.declared.event.Event.TheVariants as on
use Rattle.entry_book.specs.declared.reply.CallAnswer.TheVariants.{Replied}
use Rattle.line_reading.specs.declared.fault.Fault.{Fault}
use Rattle.line_reading.specs.Events.{spelled_event}
use Rattle.line_reading.specs.Ids.{first_ids}
use Rattle.line_devices.specs.Lines.{most_lines}
use Rattle.reg_lines.specs.RecordLines.{record_json}
use Rattle.line_devices.specs.Runs.{IsRun, first_lines}
use Rattle.reg_lines.specs.Spelled.{IsWrittenBatch, IsWrittenCall}
use Rattle.line_devices.specs.Stream.{InputState, OutputState}
use Rattle.line_engines.specs.Answers.{as_line}
use Rattle.line_engines.specs.Driver.{RunsOver}
use Rattle.line_engines.specs.Schedules.{LosesLine, Scheduled, TakesEvent, lacks_memory, schedule_start}
use Rattle.line_engines.specs.declared.fault.RunFault.{RunFault}

-- ---- a record, and properties of a list of records that mention no machine

-- The record of a call: its batch and its number; the numbers of its invoke and, if it has replied, of its reply among the
-- accepted events; and its reply, whether the call has replied or not.
pub record Recorded : Type 0 where
  pub batch : Batch
  pub call : ℕ
  pub invoked : ℕ
  pub replied : Option ℕ
  pub reply : Reply

-- the line of a record
abbrev pub record_line : Recorded → List ℕ
record_line r = as_line (record_json r.batch r.call r.invoked r.replied r.reply)

-- the plain book, run through the batches of the records, gives each of them its reply
abbrev pub RecordedAreLegal : List Book → List Recorded → Type 0
RecordedAreLegal books [] = ⊤
RecordedAreLegal books (r ∷ rs) = (r.reply ≡ reply_to r.batch books) × RecordedAreLegal (books_after r.batch books) rs

-- the second call did not reply before the first one was invoked
abbrev pub IsNotPast : Recorded → Recorded → Type 0
IsNotPast first second = (n : ℕ) → second.replied ≡ Some n → first.invoked ≤ n

-- no call replied before the call of an earlier record was invoked
abbrev pub StampsInOrder : List Recorded → Type 0
StampsInOrder [] = ⊤
StampsInOrder (r ∷ rs) = AllByRecursion (IsNotPast r) rs × StampsInOrder rs

-- The call replied after its invoke; or it hasn't replied, and its reply is that of a committed batch.
abbrev pub IsEndedAt : Option ℕ → ℕ → Reply → Type 0
IsEndedAt None invoked reply = is_committed reply.outcome ≡ true
IsEndedAt (Some n) invoked reply = invoked < n

abbrev pub IsEnded : Recorded → Type 0
IsEnded r = IsEndedAt r.replied r.invoked r.reply

-- The batch has no fault, and the numbers and the reply satisfy the invariants of their types.
abbrev pub IsWritten : Recorded → Type 0
IsWritten r = IsWrittenBatch r.batch × IsWrittenCall r.call r.invoked r.replied r.reply

-- ---- records of a machine's calls

-- The stamps are numbers of accepted events: that of the invoke of the batch, and, exactly if there is one, that of the event
-- that returned this reply.
pub record HasStamps (log : List Happened) (r : Recorded) : Type 0 where
  pub invoked : (done : Done) × EventAt log r.invoked (Invoke r.call r.batch) done
  pub replied : (n : ℕ) → (r.replied ≡ Some n) ↔ EventAt log n (on.Reply r.call) (Answered r.call (Replied r.reply))

-- the call of this number has this record; the call holds the reply
pub record IsRecordOf (calls : List Call) (number : ℕ) (r : Recorded) : Type 0 where
  pub call : Call
  pub found : call_at number calls ≡ Some call
  pub number_is : r.call ≡ number
  pub batch_is : r.batch ≡ call.batch
  pub invoked_is : r.invoked ≡ call.invoked
  pub replied_is : r.replied ≡ call.replied
  pub holds : answer_of call.stage ≡ Some (Replied r.reply)

-- the calls of these numbers have these records, one each, in the same order
abbrev pub AreRecords : List Call → List ℕ → List Recorded → Type 0
AreRecords calls [] [] = ⊤
AreRecords calls [] (r ∷ rs) = ⊥
AreRecords calls (n ∷ ns) [] = ⊥
AreRecords calls (n ∷ ns) (r ∷ rs) = IsRecordOf calls n r × AreRecords calls ns rs

-- ---- the effect of the engine

-- The state of a run: the state of `schedule` after the same lines, and how many of them were lost for lack of memory.
pub record Recording : Type 0 where
  pub scheduled : Scheduled
  pub lost : ℕ

-- before the first line
abbrev pub first_recording : List ℕ → List ℕ → Recording
first_recording domain seed = record { scheduled = schedule_start domain seed; lost = 0 }

-- A line is taken, or it is lost and counted. Its answer isn't written.
pub data RecordsLine (domain : List ℕ) (now : Recording) (line : List ℕ) (next : Recording) (reply : List ℕ) : Type 0 where
  was_taken : TakesEvent domain now.scheduled line next.scheduled → next.lost ≡ now.lost → reply ≡ [] → RecordsLine domain now line next reply
  was_lost : LosesLine domain now.scheduled line next.scheduled → next.lost ≡ now.lost + 1 → reply ≡ [] → RecordsLine domain now line next reply

-- The last text is the records of the machine's calls, a line each, in an order for which the headline (main theorem) holds with
-- the events and their answers. The stamps of the records are those of the events. Each call replied after its invoke, or was
-- committed. The plain book gives them their replies in this order, which is strict by the stamps alone. The batches are of the
-- trust domain.
pub record WritesRecords (domain : List ℕ) (last : Scheduled) (order : List ℕ) (recorded : List Recorded) (end : List ℕ) : Type 0 where
  pub is_order : IsOrder last.machine order
  pub headline : Headline (accepted last.events last.answers) order
  pub records : AreRecords last.machine.calls order recorded
  pub stamped : AllByRecursion (HasStamps (accepted last.events last.answers)) recorded
  pub ended : AllByRecursion IsEnded recorded
  pub legal : RecordedAreLegal first_books recorded
  pub in_order : StampsInOrder recorded
  pub made_for : AllByRecursion (λ r. r.batch.domain ≡ domain) recorded
  pub written : AllByRecursion IsWritten recorded
  pub end_is : end ≡ flat_map record_line recorded

-- the last text is the records in some order of the calls
abbrev pub ClosesWithRecords : List ℕ → Scheduled → List ℕ → Type 0
ClosesWithRecords domain last end = (order : List ℕ) × (recorded : List Recorded) × WritesRecords domain last order recorded end

abbrev pub ClosesRecording : List ℕ → Recording → List ℕ → Type 0
ClosesRecording domain last end = ClosesWithRecords domain last.scheduled end

-- The lines were taken or lost, in order, and `lost` of them were lost. Known bytes grow by the records alone.
abbrev pub AppendsRecords : List ℕ → List ℕ → List (List ℕ) → ℕ → Option (List ℕ) → Option (List ℕ) → Type 0
AppendsRecords domain seed lines lost old new = (last : Recording) × (end : List ℕ) × IsRun (RecordsLine domain) (first_recording domain seed) lines last [] × (last.lost ≡ lost) × ClosesRecording domain last end × Appends old new end

-- ---- a run that lost no line

-- the first continuation with the event of a line, or the second one if the line represents none
abbrev pub events_by : Result (Event × ChaCha) Fault → (Event → ChaCha → List Event) → List Event → List Event
events_by (Ok p) with_it without = with_it p.0 p.1
events_by (Err fault) with_it without = without

-- the events that the lines represent, in order; an event draws the ids of its creates, whatever its answer
abbrev pub events_of : List ℕ → ChaCha → List (List ℕ) → List Event
events_of domain ids [] = []
events_of domain ids (line ∷ lines) = events_by (spelled_event domain ids line) (λ event left. event ∷ events_of domain left lines) (events_of domain ids lines)

-- The records are those of all events that the lines represent: the machine was run through these events and refused none of them
-- for lack of memory, and known bytes grow by the records of its calls.
pub record AppendsAllRecords (domain seed : List ℕ) (lines : List (List ℕ)) (old new : Option (List ℕ)) : Type 0 where
  pub last : Scheduled
  pub text : List ℕ
  pub events : last.events ≡ events_of domain (first_ids seed) lines
  pub runs : Runs (first_machine domain) last.events last.answers last.machine
  pub memory : AllByRecursion (λ answer. lacks_memory answer ≡ false) last.answers
  pub closes : ClosesWithRecords domain last text
  pub appends : Appends old new text

-- The result of a run of the engine over an input and an output: it is a run of lines, and if it succeeded, the records and
-- nothing else were written. It returns how many lines were lost: if none was, the records are those of all events.
pub record RunsRecord (domain seed : List ℕ) (input rest : InputState) (output out : OutputState) (result : Result ℕ RunFault) : Type 0 where
  pub run : RunsOver (RecordsLine domain) (ClosesRecording domain) ⊤ (first_recording domain seed) input rest output out result
  pub alone : IfOk result (λ lost. IfSome input.left (λ bytes. AppendsRecords domain seed (first_lines most_lines bytes) lost output.written out.written))
  pub all : IfOk result (λ lost. lost ≡ 0 → IfSome input.left (λ bytes. AppendsAllRecords domain seed (first_lines most_lines bytes) output.written out.written))
