-- The effect of one event on a machine, and of a list of events.
use Rattle.std.specs.Prelude.{◌≡◌, ℕ, ◌+◌, ◌<◌, Bool, true, false, ◌&&◌, ◌⊎◌, List, [], ◌∷◌, ◌++◌, length, take, slice_get, nat_lt, Option, Some, None, is_some, is_none, Ok, Err, if◌then◌else◌}
use Rattle.std.specs.List.{AllByRecursion}
use Rattle.entry_book.specs.declared.limit.Limit.{Limit}
use Rattle.entry_book.specs.declared.reply.ReplyOutcome.TheVariants.{Refused}
use Rattle.entry_book.specs.declared.reply.Refusal.TheVariants.{Full}
use Rattle.entry_book.specs.Rows.{Bytes}
use Rattle.entry_book.specs.Batches.{Batch}
use Rattle.entry_book.specs.History.{books_of, reply_to, commits}
use Rattle.version_book.specs.declared.mark.MarkKind.{MarkKind}
use Rattle.batch_work.specs.Reads.{footprint_of}
use Rattle.call_events.specs.Events.{IsFor}
use Rattle.call_events.specs.declared.event.Event.{Event}
use Rattle.call_events.specs.declared.event.Event.TheVariants.{Invoke, Begin, Step, Commit}
use Rattle.call_events.specs.declared.event.Event.TheVariants as on
use Rattle.call_answers.specs.declared.answer.Decision.TheVariants as is
use Rattle.call_answers.specs.declared.answer.Done.{Done}
use Rattle.call_answers.specs.declared.answer.Done.TheVariants.{Invoked, Begun, Stepped, Decided, Answered}
use Rattle.entry_book.specs.declared.reply.CallAnswer.{CallAnswer}
use Rattle.call_events.specs.declared.event.EventRefusal.{EventRefusal}
use Rattle.call_events.specs.declared.event.EventRefusal.TheVariants.{CallTaken, UnknownCall, NotNow, TooManyCalls, NoMemory}
use Rattle.call_events.specs.declared.event.RefusedEvent.{RefusedEvent}
use Rattle.call_machine.specs.Schedules.{EventAnswer, IsDue, IsValidated}
use Rattle.call_machine.specs.Calls.{CallStage, waiting, running, ready, answered, committed, conflict, Call, MachineState, answer_of, call_at, moved, status_at, stage_after}

-- each of the events may be submitted for this trust domain
abbrev pub AreFor : Bytes → List Event → Type 0
AreFor own_domain events = AllByRecursion (IsFor own_domain) events

-- ---- accepted events

-- In state s the invoke of call n with this batch is accepted with the answer `done`, and the next state is t. The following
-- records say the same of the other events.
pub record Invokes (s : MachineState) (n : ℕ) (batch : Batch) (done : Done) (t : MachineState) : Type 0 where
  pub unknown : call_at n s.calls ≡ None
  pub room : length s.calls < 4096
  pub answer : done ≡ Invoked n
  pub after : t ≡ record s { count = s.count + 1; calls = s.calls ++ record { number = n; batch = batch; stage = waiting; invoked = s.count + 1; turn = 0; replied = None } ∷ [] }

-- the begin of call n, on the newest book
pub record Begins (s : MachineState) (n : ℕ) (done : Done) (t : MachineState) : Type 0 where
  pub call : Call
  pub found : call_at n s.calls ≡ Some call
  pub in_turn : call.stage ≡ waiting
  pub stage : CallStage
  pub stage_is : stage ≡ stage_after call.batch s.journal (length s.journal) 0
  pub answer : done ≡ Begun n (length s.journal) (status_at stage)
  pub after : t ≡ moved (record call { stage = stage; turn = s.count + 1 }) s

-- the next read of call n, that of `mark`
pub record Steps (s : MachineState) (n : ℕ) (done : Done) (t : MachineState) : Type 0 where
  pub call : Call
  pub found : call_at n s.calls ≡ Some call
  pub base : ℕ
  pub made : ℕ
  pub in_turn : call.stage ≡ running base made
  pub mark : MarkKind
  pub mark_is : slice_get (footprint_of call.batch (books_of (take base s.journal))) made ≡ Some mark
  pub stage : CallStage
  pub stage_is : stage ≡ stage_after call.batch s.journal base (made + 1)
  pub answer : done ≡ Stepped n mark (status_at stage)
  pub after : t ≡ moved (record call { stage = stage }) s

-- Without a conflict, the decision is that of the plain book on the newest books: the batch is committed, or a limit refuses it. A
-- batch is committed only if it reads the same on the newest book as on that of its begin.
pub record CommitsNow (s : MachineState) (call : Call) (base : ℕ) (done : Done) (t : MachineState) : Type 0 where
  pub validated : IsValidated s.journal call.batch base
  pub commits : commits call.batch (books_of s.journal) ≡ true
  pub answer : done ≡ Decided call.number is.Committed (length s.journal + 1)
  pub after : t ≡ record (moved (record call { stage = committed (reply_to call.batch (books_of s.journal)); turn = s.count + 1 }) s) { journal = s.journal ++ call.batch ∷ [] }

-- a limit refuses the batch, so the call is answered, and nothing is committed
pub record IsFull (s : MachineState) (call : Call) (done : Done) (t : MachineState) : Type 0 where
  pub limit : Limit
  pub full : reply_to call.batch (books_of s.journal) ≡ record { place = length s.journal; outcome = Refused (Full limit) }
  pub answer : done ≡ Decided call.number (is.Full limit) (length s.journal)
  pub after : t ≡ moved (record call { stage = answered (reply_to call.batch (books_of s.journal)); turn = s.count + 1 }) s

-- a conflict is decided only if it is due, and changes only the call, apart from the count
pub record Conflicts (s : MachineState) (call : Call) (base : ℕ) (done : Done) (t : MachineState) : Type 0 where
  pub due : IsDue s.journal call.batch base
  pub answer : done ≡ Decided call.number is.Conflict (length s.journal)
  pub after : t ≡ moved (record call { stage = conflict (length s.journal); turn = s.count + 1 }) s

-- the commit of call n, with one of the three decisions
pub record Commits (s : MachineState) (n : ℕ) (done : Done) (t : MachineState) : Type 0 where
  pub call : Call
  pub found : call_at n s.calls ≡ Some call
  pub base : ℕ
  pub in_turn : call.stage ≡ ready base
  pub decision : CommitsNow s call base done t ⊎ (IsFull s call done t ⊎ Conflicts s call base done t)

-- the reply of call n, once
pub record Replies (s : MachineState) (n : ℕ) (done : Done) (t : MachineState) : Type 0 where
  pub call : Call
  pub found : call_at n s.calls ≡ Some call
  pub once : call.replied ≡ None
  pub given : CallAnswer
  pub in_turn : answer_of call.stage ≡ Some given
  pub answer : done ≡ Answered n given
  pub after : t ≡ moved (record call { replied = Some (s.count + 1) }) s

-- in state s the event may be accepted with this answer, and the next state is t
abbrev pub Accepts : MachineState → Event → Done → MachineState → Type 0
Accepts s (Invoke n batch) done t = Invokes s n batch done t
Accepts s (Begin n) done t = Begins s n done t
Accepts s (Step n) done t = Steps s n done t
Accepts s (Commit n) done t = Commits s n done t
Accepts s (on.Reply n) done t = Replies s n done t

-- ---- refused events

-- the call has an answer
abbrev pub is_over : CallStage → Bool
is_over stage = is_some (answer_of stage)

abbrev pub is_waiting : CallStage → Bool
is_waiting waiting = true
is_waiting (running base made) = false
is_waiting (ready base) = false
is_waiting (answered r) = false
is_waiting (committed r) = false
is_waiting (conflict n) = false

abbrev pub is_running : CallStage → Bool
is_running waiting = false
is_running (running base made) = true
is_running (ready base) = false
is_running (answered r) = false
is_running (committed r) = false
is_running (conflict n) = false

abbrev pub is_ready : CallStage → Bool
is_ready waiting = false
is_ready (running base made) = false
is_ready (ready base) = true
is_ready (answered r) = false
is_ready (committed r) = false
is_ready (conflict n) = false

-- the call is unknown, or it is not in turn
abbrev pub refusal_at : Option Call → (Call → Bool) → Option EventRefusal
refusal_at None in_turn = Some UnknownCall
refusal_at (Some c) in_turn = if in_turn c then None else Some NotNow

-- the refusal that is due, if there is one
abbrev pub refusal_of : MachineState → Event → Option EventRefusal
refusal_of s (Invoke n batch) = if is_some (call_at n s.calls) then Some CallTaken else (if nat_lt (length s.calls) 4096 then None else Some TooManyCalls)
refusal_of s (Begin n) = refusal_at (call_at n s.calls) (λ c. is_waiting c.stage)
refusal_of s (Step n) = refusal_at (call_at n s.calls) (λ c. is_running c.stage)
refusal_of s (Commit n) = refusal_at (call_at n s.calls) (λ c. is_ready c.stage)
refusal_of s (on.Reply n) = refusal_at (call_at n s.calls) (λ c. is_none c.replied && is_over c.stage)

-- the event is handed back; out of memory only if no other refusal is due
pub record Refuses (s : MachineState) (event : Event) (r : RefusedEvent) : Type 0 where
  pub back : r.event ≡ event
  pub due : (refusal_of s event ≡ Some r.refusal) ⊎ ((refusal_of s event ≡ None) × (r.refusal ≡ NoMemory))

-- ---- runs

-- the event is accepted; or it is refused, and changes nothing
abbrev pub Applies : MachineState → Event → EventAnswer → MachineState → Type 0
Applies s event (Ok done) t = Accepts s event done t
Applies s event (Err r) t = Refuses s event r × (t ≡ s)

-- the events, one after another, get these answers and lead to state t
abbrev pub Runs : MachineState → List Event → List EventAnswer → MachineState → Type 0
Runs s [] [] t = s ≡ t
Runs s [] (a ∷ answers) t = ⊥
Runs s (e ∷ es) [] t = ⊥
Runs s (e ∷ es) (a ∷ answers) t = (u : MachineState) × Applies s e a u × Runs u es answers t
