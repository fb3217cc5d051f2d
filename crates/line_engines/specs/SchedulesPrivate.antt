-- The state that the engine `schedule` stores, and the answer to one line in terms of it. For this crate's own contracts.
use Rattle.std.specs.Prelude.{◌≡◌, ℕ, ◌+◌, Bool, true, false, MatchBool, List, refl}
use Rattle.rand_chacha.specs.ChaCha.{ChaCha}
use Rattle.call_machine.specs.Calls.{MachineState, first_machine}
use Rattle.call_machine.specs.Machine.{Applies, AreFor, Runs}
use Rattle.call_machine.specs.Schedules.{EventAnswer}
use Rattle.call_events.specs.declared.event.Event.{Event}
use Rattle.reg_lines.specs.EventAnswers.{event_json, event_refusal_json}
use Rattle.reg_lines.specs.Refusals.{no_memory_json, refusal_json}
use Rattle.line_devices.specs.Runs.{StepsKept}
use Rattle.spiffe_name.specs.declared.refusals.Failure.{Failure}
use Rattle.spiffe_name.specs.declared.refusals.Failure.TheVariants as failed
use Rattle.line_reading.specs.declared.fault.Fault.{Fault}
use Rattle.line_engines.specs.Answers.{as_line}
use Rattle.line_engines.specs.declared.schedule_engine.LineAnswer.{LineAnswer}
use Rattle.line_engines.specs.declared.schedule_engine.LineAnswer.TheVariants.{Done, Refused, NotRead}
use Rattle.line_engines.specs.Schedules.{Scheduled, schedule_skips, event_answer_json, AnswersEvent, not_read, is_no_memory, lacks_memory, TakesEvent, LosesLine}

abbrev pub LosesOrTakes : Bool → List ℕ → Scheduled → List ℕ → Scheduled → Type 0
LosesOrTakes lost domain now line next = MatchBool lost (LosesLine domain now line next) (TakesEvent domain now line next)

-- Each line has a reply in every state: at least the one for out of memory.
pub an_event_answer : (domain : List ℕ) (now : Scheduled) (line : List ℕ) → (next : Scheduled) × (reply : List ℕ) × AnswersEvent domain now line next reply
an_event_answer domain now line = (schedule_skips now, as_line (no_memory_json (now.lines + 1)), not_read refl refl)

-- the state that the engine `schedule` stores
pub record ScheduleKept : Type 0 where
  pub machine : MachineState
  pub ids : ChaCha

-- it represents this state of a run after this number of lines
pub record ScheduleRepresents (kept : ScheduleKept) (count : ℕ) (now : Scheduled) : Type 0 where
  pub runs : Runs (first_machine kept.machine.domain) now.events now.answers now.machine
  -- each batch is of the machine's trust domain
  pub made : AreFor kept.machine.domain now.events
  pub machine : now.machine ≡ kept.machine
  pub ids : now.ids ≡ kept.ids
  pub lines : now.lines ≡ count

-- the answer to a line, as it is printed
abbrev pub line_answer_json : LineAnswer → List ℕ
line_answer_json (Done done) = event_json done
line_answer_json (Refused event) = event_refusal_json event.line event.refusal
line_answer_json (NotRead refusal) = refusal_json refusal

-- whether memory ran out while a line was read
abbrev pub is_unread : Failure Fault → Bool
is_unread failed.NoMemory = true
is_unread (failed.Refused fault) = false

-- whether the line was lost for lack of memory
abbrev pub is_lost : LineAnswer → Bool
is_lost (Done done) = false
is_lost (Refused event) = is_no_memory event.refusal
is_lost (NotRead refusal) = is_unread refusal.failure

-- One event was applied. Its answer is printed as this text, and `lost` is whether the machine ran out of memory.
abbrev pub Applied : MachineState → Event → ℕ → List ℕ → Bool → MachineState → Type 0
Applied machine event line text lost after = (answer : EventAnswer) × Applies machine event answer after × (text ≡ event_answer_json line answer) × (lost ≡ lacks_memory answer)

-- One line was taken, or lost: its reply has this text, and it left this machine and these ids. A run of the machine continues
-- with it.
pub record TakesEventLine (domain : List ℕ) (now : Scheduled) (line : List ℕ) (text : List ℕ) (lost : Bool) (machine : MachineState) (ids : ChaCha) : Type 0 where
  pub next : Scheduled
  pub answers : AnswersEvent domain now line next (as_line text)
  pub loses : LosesOrTakes lost domain now line next
  pub machine_is : next.machine ≡ machine
  pub ids_is : next.ids ≡ ids
  pub lines_is : next.lines ≡ now.lines + 1
  pub domain_is : machine.domain ≡ now.machine.domain
  pub runs : (first : MachineState) → Runs first now.events now.answers now.machine → Runs first next.events next.answers next.machine
  pub made : AreFor domain now.events → AreFor domain next.events

-- a line got this reply, and was lost or wasn't
abbrev pub AnswersOrLoses : Bool → List ℕ → Scheduled → List ℕ → Scheduled → List ℕ → Type 0
AnswersOrLoses lost domain now line next reply = AnswersEvent domain now line next reply × LosesOrTakes lost domain now line next

-- every line of which these bytes are kept may be taken or lost like this, and the new value represents the state after it, which
-- is the line of this number
abbrev pub TakesKept : List ℕ → ScheduleKept → ℕ → Scheduled → List ℕ → List ℕ → Bool → Type 0
TakesKept domain kept number now bytes text lost = (next : Scheduled) × StepsKept (AnswersOrLoses lost domain) now bytes next (as_line text) × ScheduleRepresents kept number next
