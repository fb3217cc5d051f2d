-- The order that a machine returns, and the theorems on it and on runs. Each theorem is a clause of a function of the module
-- `laws`.
use Rattle.std.specs.Prelude.{◌≡◌, ◌↔◌, ◌⊎◌, ℕ, ◌+◌, ◌≤◌, ◌<◌, Bool, true, false, ⊤, List, [], ◌∷◌, ◌++◌, filter, map, Option, Some, None, Err, is_some}
use Rattle.std.specs.List.Sorted.{IsPermutation, IsNonDecreasingBy}
use Rattle.entry_book.specs.declared.limit.Limit.{Limit}
use Rattle.entry_book.specs.declared.reply.ReplyOutcome.TheVariants.{Refused}
use Rattle.entry_book.specs.declared.reply.Refusal.TheVariants.{Full as TooMuch}
use Rattle.entry_book.specs.declared.reply.Reply.{Reply}
use Rattle.entry_book.specs.Rows.{Bytes}
use Rattle.entry_book.specs.Book.{Book}
use Rattle.entry_book.specs.Batches.{Batch}
use Rattle.entry_book.specs.History.{books_after, first_books, reply_to}
use Rattle.call_events.specs.declared.event.Event.{Event}
use Rattle.call_events.specs.declared.event.Event.TheVariants.{Invoke, Begin, Commit}
use Rattle.call_events.specs.declared.event.Event.TheVariants as on
use Rattle.call_events.specs.declared.event.EventRefusal.{EventRefusal}
use Rattle.call_events.specs.declared.event.EventRefusal.TheVariants.{NoMemory}
use Rattle.batch_work.specs.declared.status.Status.{Status}
use Rattle.call_answers.specs.declared.answer.Decision.TheVariants as is
use Rattle.call_answers.specs.declared.answer.Done.{Done}
use Rattle.call_answers.specs.declared.answer.Done.TheVariants.{Begun, Decided, Answered}
use Rattle.entry_book.specs.declared.reply.CallAnswer.{CallAnswer}
use Rattle.entry_book.specs.declared.reply.CallAnswer.TheVariants.{Replied}
use Rattle.call_machine.specs.Schedules.{EventAnswer, EventAt, Happened, Headline, accepted}
use Rattle.call_machine.specs.Calls.{CallStage, waiting, running, ready, answered, committed, conflict, Call, MachineState, answer_of, call_at, first_machine}
use Rattle.call_machine.specs.Known.{decided_of}
use Rattle.call_machine.specs.Machine.{Accepts, Applies, Runs, refusal_of}

-- committed, or replied with something other than a conflict
abbrev pub is_listed_at : CallStage → Option ℕ → Bool
is_listed_at waiting r = false
is_listed_at (running base made) r = false
is_listed_at (ready base) r = false
is_listed_at (answered reply) r = is_some r
is_listed_at (committed reply) r = true
is_listed_at (conflict n) r = false

abbrev pub is_listed : Call → Bool
is_listed c = is_listed_at c.stage c.replied

-- the accepted number of its deciding event, with its own number
abbrev pub turn_of : Call → ℕ × ℕ
turn_of c = (c.turn, c.number)

-- the two parts of such a pair
abbrev pub turn_in : ℕ × ℕ → ℕ
turn_in p = p.0

abbrev pub number_of_turn : ℕ × ℕ → ℕ
number_of_turn p = p.1

-- The numbers of the listed calls, in the order of their deciding events.
pub record IsOrder (s : MachineState) (order : List ℕ) : Type 0 where
  pub turns : List (ℕ × ℕ)
  pub listed : IsPermutation (map turn_of (filter is_listed s.calls)) turns
  pub by_turn : IsNonDecreasingBy turn_in turns
  pub numbers : order ≡ map number_of_turn turns

-- after every run, the main theorem holds for the events, their answers, and the machine's order
abbrev pub HeadlineHolds : Type 0
HeadlineHolds = (own_domain : Bytes) (events : List Event) (answers : List EventAnswer) (s : MachineState) (order : List ℕ) → Runs (first_machine own_domain) events answers s → IsOrder s order → Headline (accepted events answers) order

-- ---- the accepted numbers that calls hold

-- Event n is the call's begin, and the reply is not a refusal by a limit. Or event n is the call's commit, decided as full by the
-- limit that the reply names, at the reply's place.
abbrev pub SettledAt : List Happened → ℕ → ℕ → Reply → Type 0
SettledAt log n c r = ((base : ℕ) × (status : Status) × ((limit : Limit) → r.outcome ≡ Refused (TooMuch limit) → ⊥) × EventAt log n (Begin c) (Begun c base status)) ⊎ ((limit : Limit) × (r.outcome ≡ Refused (TooMuch limit)) × EventAt log n (Commit c) (Decided c (is.Full limit) r.place))

-- event n is the one that decided the call
abbrev pub DecidedAt : List Happened → ℕ → ℕ → CallStage → Type 0
DecidedAt log n c (answered r) = SettledAt log n c r
DecidedAt log n c (committed r) = EventAt log n (Commit c) (Decided c is.Committed r.place)
DecidedAt log n c stage = ⊥

-- The call's numbers are exactly those of its events among the accepted ones: `invoked` for an invoke with its batch,
-- `decided_of` for the event that decided it, and `replied` for its reply. A reply event has the answer that the call holds.
pub record IsStamped (log : List Happened) (call : Call) : Type 0 where
  pub invoked : (n : ℕ) (batch : Batch) → ((n ≡ call.invoked) × (batch ≡ call.batch)) ↔ ((done : Done) × EventAt log n (Invoke call.number batch) done)
  pub decided : (n : ℕ) → (decided_of call.stage call.turn ≡ Some n) ↔ DecidedAt log n call.number call.stage
  pub replied : (n : ℕ) → (call.replied ≡ Some n) ↔ ((done : Done) × EventAt log n (on.Reply call.number) done)
  pub logged : (n : ℕ) (done : Done) → EventAt log n (on.Reply call.number) done → (answer : CallAnswer) × (answer_of call.stage ≡ Some answer) × (done ≡ Answered call.number answer)

-- after every run, each call has exactly the numbers of its events
abbrev pub CallsAreStamped : Type 0
CallsAreStamped = (own_domain : Bytes) (events : List Event) (answers : List EventAnswer) (s : MachineState) (c : ℕ) (call : Call) → Runs (first_machine own_domain) events answers s → call_at c s.calls ≡ Some call → IsStamped (accepted events answers) call

-- a call that is found under a number has this number
abbrev pub FoundUnderNumber : Type 0
FoundUnderNumber = (calls : List Call) (n : ℕ) (call : Call) → call_at n calls ≡ Some call → call.number ≡ n

-- The call's invoke has a smaller accepted number than the event that decided it, and that event a smaller one than its reply.
pub record HasEventsInOrder (call : Call) : Type 0 where
  pub decided : (n : ℕ) → decided_of call.stage call.turn ≡ Some n → call.invoked < n
  pub replied : (n m : ℕ) → decided_of call.stage call.turn ≡ Some n → call.replied ≡ Some m → n < m

-- after every run, so it is with each call
abbrev pub CallsAreInOrder : Type 0
CallsAreInOrder = (own_domain : Bytes) (events : List Event) (answers : List EventAnswer) (s : MachineState) (c : ℕ) (call : Call) → Runs (first_machine own_domain) events answers s → call_at c s.calls ≡ Some call → HasEventsInOrder call

-- ---- how a run continues

-- one more event: its answer is the last
abbrev pub RunsExtend : Type 0
RunsExtend = (events : List Event) (answers : List EventAnswer) (s t u : MachineState) (event : Event) (answer : EventAnswer) → Runs s events answers t → Applies t event answer u → Runs s (events ++ event ∷ []) (answers ++ answer ∷ []) u

-- After one event the trust domain is the same, and the count is at most one more.
pub record AreLeft (s t : MachineState) : Type 0 where
  pub domain : t.domain ≡ s.domain
  pub count : t.count ≤ s.count + 1

abbrev pub EventLeaves : Type 0
EventLeaves = (s : MachineState) (event : Event) (answer : EventAnswer) (t : MachineState) → Applies s event answer t → AreLeft s t

-- ---- which events are refused

-- an event is accepted only if no refusal is due
abbrev pub AcceptedUnrefused : Type 0
AcceptedUnrefused = (s : MachineState) (event : Event) (done : Done) (t : MachineState) → Accepts s event done t → refusal_of s event ≡ None

-- a refusal other than out of memory is due exactly if the event is handed back with it
abbrev pub RefusedWhereDue : Type 0
RefusedWhereDue = (s : MachineState) (event : Event) (answer : EventAnswer) (t : MachineState) (r : EventRefusal) → Applies s event answer t → (r ≡ NoMemory → ⊥) → (refusal_of s event ≡ Some r) ↔ (answer ≡ Err (record { refusal = r; event = event }))

-- ---- the replies that calls hold

-- the plain book, run through these calls' batches, gives each the reply that the machine holds for it, returned to the caller or
-- not
abbrev pub HoldReplies : List Call → List Book → List ℕ → Type 0
HoldReplies calls books [] = ⊤
HoldReplies calls books (c ∷ cs) = (call : Call) × (call_at c calls ≡ Some call) × (answer_of call.stage ≡ Some (Replied (reply_to call.batch books))) × HoldReplies calls (books_after call.batch books) cs

-- after every run, the calls of the machine's order hold these replies
abbrev pub RepliesHeld : Type 0
RepliesHeld = (own_domain : Bytes) (events : List Event) (answers : List EventAnswer) (s : MachineState) (order : List ℕ) → Runs (first_machine own_domain) events answers s → IsOrder s order → HoldReplies s.calls first_books order
