-- What the engine `schedule` replies, line by line, and what it writes at the end.
use Rattle.std.specs.Prelude.{◌≡◌, ℕ, ◌+◌, ⊤, Bool, true, false, List, [], ◌∷◌, ◌++◌, Result, Ok, Err}
use Rattle.rand_chacha.specs.ChaCha.{ChaCha}
use Rattle.call_machine.specs.Calls.{MachineState, first_machine}
use Rattle.call_machine.specs.Laws.{IsOrder}
use Rattle.call_machine.specs.Machine.{Applies}
use Rattle.call_machine.specs.Schedules.{EventAnswer, Headline, accepted}
use Rattle.call_events.specs.declared.event.Event.{Event}
use Rattle.call_events.specs.declared.event.EventRefusal.{EventRefusal}
use Rattle.call_events.specs.declared.event.EventRefusal.TheVariants as why
use Rattle.reg_lines.specs.EventAnswers.{event_json, event_refusal_json, order_json}
use Rattle.line_reading.specs.Events.{spelled_event}
use Rattle.line_reading.specs.Ids.{first_ids}
use Rattle.reg_lines.specs.Refusals.{fault_json, no_memory_json}
use Rattle.line_devices.specs.Stream.{InputState, OutputState}
use Rattle.line_reading.specs.declared.fault.Fault.{Fault}
use Rattle.line_engines.specs.Answers.{as_line}
use Rattle.line_engines.specs.Driver.{RunsOver}
use Rattle.line_engines.specs.declared.fault.RunFault.{RunFault}

-- The state of a run: the events of the lines and their answers, the machine's state after them, the ids that are left to draw,
-- and the number of lines that were read.
pub record Scheduled : Type 0 where
  pub events : List Event
  pub answers : List EventAnswer
  pub machine : MachineState
  pub ids : ChaCha
  pub lines : ℕ

-- before the first line
abbrev pub schedule_start : List ℕ → List ℕ → Scheduled
schedule_start domain seed = record { events = []; answers = []; machine = first_machine domain; ids = first_ids seed; lines = 0 }

-- after a line without an event
abbrev pub schedule_skips : Scheduled → Scheduled
schedule_skips now = record now { lines = now.lines + 1 }

-- after a line with an event that got this answer and left this machine and these ids
abbrev pub stepped : Scheduled → Event → EventAnswer → MachineState → ChaCha → Scheduled
stepped now event answer machine ids = record { events = now.events ++ event ∷ []; answers = now.answers ++ answer ∷ []; machine = machine; ids = ids; lines = now.lines + 1 }

-- the answer to the event of the line of this number, as it is printed
abbrev pub event_answer_json : ℕ → EventAnswer → List ℕ
event_answer_json line (Ok done) = event_json done
event_answer_json line (Err refused) = event_refusal_json line refused.refusal

-- The reply that a line may get in a run, and the state after it. A line that represents an event gets the machine's answer to
-- it, even if that is a refusal, and draws the ids of its creates in any case. If memory runs out while a line is read, the reply
-- says so, and the line changes nothing.
pub data AnswersEvent (domain : List ℕ) (now : Scheduled) (line : List ℕ) (next : Scheduled) (reply : List ℕ) : Type 0 where
  refused : (fault : Fault) → spelled_event domain now.ids line ≡ Err fault → next ≡ schedule_skips now → reply ≡ as_line (fault_json (now.lines + 1) fault) → AnswersEvent domain now line next reply
  applied : (event : Event) (ids : ChaCha) (answer : EventAnswer) (machine : MachineState) → spelled_event domain now.ids line ≡ Ok (event, ids) → Applies now.machine event answer machine → next ≡ stepped now event answer machine ids → reply ≡ as_line (event_answer_json (now.lines + 1) answer) → AnswersEvent domain now line next reply
  not_read : next ≡ schedule_skips now → reply ≡ as_line (no_memory_json (now.lines + 1)) → AnswersEvent domain now line next reply

-- ---- whether there was enough memory for a line

-- the machine refused the event for lack of memory, E5
abbrev pub is_no_memory : EventRefusal → Bool
is_no_memory why.CallTaken = false
is_no_memory why.UnknownCall = false
is_no_memory why.NotNow = false
is_no_memory why.TooManyCalls = false
is_no_memory why.NoMemory = true

abbrev pub lacks_memory : EventAnswer → Bool
lacks_memory (Ok done) = false
lacks_memory (Err r) = is_no_memory r.refusal

-- The line was read. If it represents an event, the machine didn't answer E5.
pub data TakesEvent (domain : List ℕ) (now : Scheduled) (line : List ℕ) (next : Scheduled) : Type 0 where
  took_none : (fault : Fault) → spelled_event domain now.ids line ≡ Err fault → next ≡ schedule_skips now → TakesEvent domain now line next
  took : (event : Event) (ids : ChaCha) (answer : EventAnswer) (machine : MachineState) → spelled_event domain now.ids line ≡ Ok (event, ids) → Applies now.machine event answer machine → lacks_memory answer ≡ false → next ≡ stepped now event answer machine ids → TakesEvent domain now line next

-- The line was lost for lack of memory: it wasn't read, L6, or its event was refused for that, E5.
pub data LosesLine (domain : List ℕ) (now : Scheduled) (line : List ℕ) (next : Scheduled) : Type 0 where
  unread : next ≡ schedule_skips now → LosesLine domain now line next
  unapplied : (event : Event) (ids : ChaCha) (answer : EventAnswer) (machine : MachineState) → spelled_event domain now.ids line ≡ Ok (event, ids) → Applies now.machine event answer machine → lacks_memory answer ≡ true → next ≡ stepped now event answer machine ids → LosesLine domain now line next

-- The last line is the order line: it gives an order of the machine's calls, for which the headline (main theorem) holds with the
-- events and their answers.
pub record WritesOrder (last : Scheduled) (order : List ℕ) (end : List ℕ) : Type 0 where
  pub is_order : IsOrder last.machine order
  pub headline : Headline (accepted last.events last.answers) order
  pub end_is : end ≡ as_line (order_json order)

-- the last text is the line of some order of the calls
abbrev pub ClosesWithOrder : Scheduled → List ℕ → Type 0
ClosesWithOrder last end = (order : List ℕ) × WritesOrder last order end

-- the result of a run of the engine over an input and an output
abbrev pub RunsSchedule : {T : Type 0} → List ℕ → List ℕ → InputState → InputState → OutputState → OutputState → Result T RunFault → Type 0
RunsSchedule domain seed input rest output out result = RunsOver (AnswersEvent domain) ClosesWithOrder ⊤ (schedule_start domain seed) input rest output out result
