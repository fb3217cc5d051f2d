-- The state that a machine's fields represent, and the effect of an event on one call. For this crate's own contracts.
use Rattle.std.specs.Prelude.{◌≡◌, ℕ, ◌+◌, ◌≤◌, ◌^◌, Bool, true, false, ◌&&◌, ◌||◌, ⊤, ◌⊎◌, List, ◌∷◌, ◌++◌, [], map, length, take, slice_get, nat_lt, Option, Some, None, Result, Ok, Err, is_none, is_some, if◌then◌else◌, ◌<◌}
use Rattle.std.specs.List.{AllByRecursion}
use Rattle.entry_book.specs.declared.limit.Limit.{Limit}
use Rattle.entry_book.specs.declared.reply.ReplyOutcome.TheVariants.{Refused}
use Rattle.entry_book.specs.declared.reply.Refusal.TheVariants.{Full}
use Rattle.entry_book.specs.Rows.{Bytes}
use Rattle.entry_book.specs.Book.{Book}
use Rattle.entry_book.specs.Batches.{Batch, IsMadeFor}
use Rattle.entry_book.specs.declared.reply.Reply.{Reply}
use Rattle.entry_book.specs.History.{books_of, commits, first_books, is_committed, reply_to}
use Rattle.version_book.specs.declared.mark.MarkKind.{MarkKind}
use Rattle.batch_work.specs.declared.status.Status.{Status}
use Rattle.batch_work.specs.declared.status.Status.TheVariants.{Settled}
use Rattle.batch_work.specs.Reads.{footprint_of, awaits_commit}
use Rattle.batch_work.specs.Working.{Base, Work, footprint_there, awaits_there, reply_there, status_of}
use Rattle.commit_head.specs.declared.commit.Commit.{Commit}
use Rattle.commit_head.specs.declared.commit.Commit.TheVariants as commit_is
use Rattle.commit_head.specs.declared.item.Item.{Item}
use Rattle.commit_head.specs.Heads.{Head, IsJournal}
use Rattle.commit_head.specs.Journals.{Leads, batches_of, empty_version}
use Rattle.entry_book.specs.declared.reply.CallAnswer.{CallAnswer}
use Rattle.entry_book.specs.declared.reply.CallAnswer.TheVariants.{Replied, Conflict}
use Rattle.call_answers.specs.declared.answer.Decision.{Decision}
use Rattle.call_answers.specs.declared.answer.Decision.TheVariants as to
use Rattle.call_answers.specs.declared.answer.Done.{Done}
use Rattle.call_events.specs.declared.event.Event.{Event}
use Rattle.call_events.specs.declared.event.EventRefusal.{EventRefusal}
use Rattle.call_events.specs.declared.event.EventRefusal.TheVariants.{NotNow, NoMemory}
use Rattle.call_machine.specs.declared.slot.Slot.{Slot}
use Rattle.call_machine.specs.declared.slot.SlotState.{SlotState}
use Rattle.call_machine.specs.declared.slot.SlotState.TheVariants.{Open, Over}
use Rattle.call_machine.specs.Schedules.{EventAnswer, IsDue, IsValidated}
use Rattle.call_machine.specs.Calls.{CallStage, waiting, running, ready, answered, committed, conflict, Call, MachineState, stage_settled, stage_after, status_at}
use Rattle.call_machine.specs.Machine.{is_waiting, is_ready, is_running, is_over}

-- ---- a call

-- the stage of a work with this base after n reads
abbrev pub stage_from : Option Base → Batch → ℕ → CallStage
stage_from None batch n = waiting
stage_from (Some base) batch n = if nat_lt n (length (footprint_there batch base)) then running base.newest.number n else stage_settled (awaits_there batch base) base.newest.number (reply_there batch base)

abbrev pub stage_replied : Bool → Reply → CallStage
stage_replied true r = committed r
stage_replied false r = answered r

-- the stage of a call with this answer
abbrev pub stage_over : CallAnswer → CallStage
stage_over (Replied r) = stage_replied (is_committed r.outcome) r
stage_over (Conflict n) = conflict n

abbrev pub stage_kept : SlotState → CallStage
stage_kept (Open w) = stage_from w.base w.batch w.steps
stage_kept (Over a) = stage_over a

abbrev pub stage_of_slot : Slot → CallStage
stage_of_slot slot = stage_kept slot.state

abbrev pub IsOverSlot : SlotState → Type 0
IsOverSlot (Open w) = ⊥
IsOverSlot (Over a) = ⊤

abbrev pub IsSettledSlot : SlotState → Type 0
IsSettledSlot (Open w) = status_of w ≡ Settled
IsSettledSlot (Over a) = ⊥

-- an open call has a work that isn't settled
abbrev pub AnsweredWhenSettled : SlotState → Type 0
AnsweredWhenSettled (Open w) = status_of w ≡ Settled → ⊥
AnsweredWhenSettled (Over a) = ⊤

abbrev pub new_slot : Batch → ℕ → Slot
new_slot batch invoked = record { batch = batch; state = Open (record { batch = batch; base = None; steps = 0 }); invoked = invoked; turn = 0; replied = None }

abbrev pub call_kept : ℕ → Slot → Call
call_kept n slot = record { number = n; batch = slot.batch; stage = stage_of_slot slot; invoked = slot.invoked; turn = slot.turn; replied = slot.replied }

abbrev pub calls_kept : List (ℕ × Slot) → List Call
calls_kept es = map (λ e. call_kept e.0 e.1) es

-- it is committed, or has replied with something other than a conflict
abbrev pub is_listed_answer : CallAnswer → Option ℕ → Bool
is_listed_answer (Replied r) replied = is_committed r.outcome || is_some replied
is_listed_answer (Conflict n) replied = false

abbrev pub is_listed_state : SlotState → Option ℕ → Bool
is_listed_state (Open w) replied = false
is_listed_state (Over a) replied = is_listed_answer a replied

abbrev pub is_listed_slot : Slot → Bool
is_listed_slot slot = is_listed_state slot.state slot.replied

abbrev pub is_listed_entry : ℕ × Slot → Bool
is_listed_entry e = is_listed_slot e.1

abbrev pub turn_of_entry : ℕ × Slot → ℕ × ℕ
turn_of_entry e = (e.1.turn, e.0)

-- ---- works and the journal

-- On this base, the batch has the same reads and reply as on these books, and has changes to commit on both or on neither.
pub record IsOn (batch : Batch) (base : Base) (books : List Book) : Type 0 where
  pub reads : footprint_there batch base ≡ footprint_of batch books
  pub wait : awaits_there batch base ≡ awaits_commit batch books
  pub reply : reply_there batch base ≡ reply_to batch books

-- The base is the version to which the first items of the journal lead.
pub record BaseIsInJournal (own_domain : Bytes) (items : List Item) (batch : Batch) (base : Base) : Type 0 where
  pub low : base.newest.number ≤ length items
  pub leads : Leads (empty_version own_domain) (take base.newest.number items) base.newest
  pub is_on : IsOn batch base (books_of (take base.newest.number (batches_of items)))

abbrev pub BeganWithin : Bytes → List Item → Batch → ℕ → Option Base → Type 0
BeganWithin own_domain items batch steps None = steps ≡ 0
BeganWithin own_domain items batch steps (Some base) = BaseIsInJournal own_domain items batch base

-- The work's batch was made for the trust domain. The work has not begun and has read nothing, or its base is inside the journal.
pub record RestsOn (own_domain : Bytes) (items : List Item) (w : Work) : Type 0 where
  pub made : IsMadeFor own_domain w.batch
  pub began : BeganWithin own_domain items w.batch w.steps w.base

-- the work of an open call is as above, and has the call's batch
abbrev pub StateRests : Bytes → List Item → Batch → SlotState → Type 0
StateRests own_domain items batch (Open w) = RestsOn own_domain items w × (w.batch ≡ batch)
StateRests own_domain items batch (Over a) = ⊤

pub record SlotRests (own_domain : Bytes) (items : List Item) (slot : Slot) : Type 0 where
  pub made : IsMadeFor own_domain slot.batch
  pub state : StateRests own_domain items slot.batch slot.state
  pub answered : AnsweredWhenSettled slot.state

abbrev pub AllRest : Bytes → List Item → List (ℕ × Slot) → Type 0
AllRest own_domain items es = AllByRecursion (λ e. SlotRests own_domain items e.1) es

-- the head stores its whole journal
abbrev pub HasWholeJournal : Head → Type 0
HasWholeJournal h = IsJournal first_books h.kept h

abbrev pub head_domain : Head → Bytes
head_domain h = h.window.newest.domain

abbrev pub journal_of : Head → List Batch
journal_of h = batches_of h.kept

abbrev pub state_of : Head → ℕ → List (ℕ × Slot) → MachineState
state_of h count es = record { domain = head_domain h; journal = journal_of h; count = count; calls = calls_kept es }

-- the maximum number of accepted events of a call at this stage, without its reply: its invoke, its begin, a step for each read,
-- its commit
abbrev pub stage_events : CallStage → ℕ
stage_events waiting = 1
stage_events (running base made) = 2 + made
stage_events (ready base) = 2 + 2 ^ 21
stage_events (answered r) = 3 + 2 ^ 21
stage_events (committed r) = 3 + 2 ^ 21
stage_events (conflict n) = 3 + 2 ^ 21

abbrev pub reply_events : Option ℕ → ℕ
reply_events None = 0
reply_events (Some n) = 1

abbrev pub slot_events : Slot → ℕ
slot_events slot = stage_events (stage_of_slot slot) + reply_events slot.replied

abbrev pub all_events : List (ℕ × Slot) → ℕ
all_events [] = 0
all_events (e ∷ es) = slot_events e.1 + all_events es

-- The invariant of a machine's fields. As the calls are few and so are the events of each, the count stays far below 2^64.
pub record MachineInvariant (h : Head) (count : ℕ) (es : List (ℕ × Slot)) : Type 0 where
  pub whole : HasWholeJournal h
  pub rest : AllRest (head_domain h) h.kept es
  pub few : length es ≤ 4096
  pub counted : count ≤ all_events es

-- the refusal that is due, or out of memory if none is due
abbrev pub IsRefusalOr : Option EventRefusal → EventRefusal → Type 0
IsRefusalOr due r = (due ≡ Some r) ⊎ ((due ≡ None) × (r ≡ NoMemory))

-- ---- one call's events

abbrev pub is_waiting_slot : Slot → Bool
is_waiting_slot slot = is_waiting (stage_of_slot slot)

abbrev pub is_running_slot : Slot → Bool
is_running_slot slot = is_running (stage_of_slot slot)

abbrev pub is_ready_slot : Slot → Bool
is_ready_slot slot = is_ready (stage_of_slot slot)

abbrev pub may_reply : Slot → Bool
may_reply slot = is_none slot.replied && is_over (stage_of_slot slot)

abbrev pub SlotRefuses : Bool → EventRefusal → Type 0
SlotRefuses in_turn r = ((r ≡ NotNow) × (in_turn ≡ false)) ⊎ ((r ≡ NoMemory) × (in_turn ≡ true))

pub record SlotBegins (h : Head) (old : Slot) (turn : ℕ) (status : Status) (later : Slot) : Type 0 where
  pub in_turn : stage_of_slot old ≡ waiting
  pub stage : stage_of_slot later ≡ stage_after old.batch (journal_of h) (length (journal_of h)) 0
  pub status_is : status ≡ status_at (stage_of_slot later)
  pub batch : later.batch ≡ old.batch
  pub invoked : later.invoked ≡ old.invoked
  pub turn_is : later.turn ≡ turn
  pub replied : later.replied ≡ old.replied
  pub rests : SlotRests (head_domain h) h.kept later

pub record SlotSteps (own_domain : Bytes) (items : List Item) (old : Slot) (mark : MarkKind) (status : Status) (later : Slot) : Type 0 where
  pub base : ℕ
  pub made : ℕ
  pub in_turn : stage_of_slot old ≡ running base made
  pub mark_is : slice_get (footprint_of old.batch (books_of (take base (batches_of items)))) made ≡ Some mark
  pub stage : stage_of_slot later ≡ stage_after old.batch (batches_of items) base (made + 1)
  pub status_is : status ≡ status_at (stage_of_slot later)
  pub batch : later.batch ≡ old.batch
  pub invoked : later.invoked ≡ old.invoked
  pub turn : later.turn ≡ old.turn
  pub replied : later.replied ≡ old.replied
  pub rests : SlotRests own_domain items later

-- ---- a commit

-- the effect of each decision on the machine's journal, and on the call's stage
pub record DecidesCommitted (journal : List Batch) (batch : Batch) (base : ℕ) (decision : Decision) (place : ℕ) (stage : CallStage) (after : List Batch) : Type 0 where
  pub validated : IsValidated journal batch base
  pub commits : commits batch (books_of journal) ≡ true
  pub stage_is : stage ≡ committed (reply_to batch (books_of journal))
  pub decision_is : decision ≡ to.Committed
  pub place_is : place ≡ length journal + 1
  pub journal_is : after ≡ journal ++ batch ∷ []

pub record DecidesFull (journal : List Batch) (batch : Batch) (decision : Decision) (place : ℕ) (stage : CallStage) (after : List Batch) : Type 0 where
  pub limit : Limit
  pub full : reply_to batch (books_of journal) ≡ record { place = length journal; outcome = Refused (Full limit) }
  pub stage_is : stage ≡ answered (reply_to batch (books_of journal))
  pub decision_is : decision ≡ to.Full limit
  pub place_is : place ≡ length journal
  pub journal_is : after ≡ journal

pub record DecidesConflict (journal : List Batch) (batch : Batch) (base : ℕ) (decision : Decision) (place : ℕ) (stage : CallStage) (after : List Batch) : Type 0 where
  pub due : IsDue journal batch base
  pub stage_is : stage ≡ conflict (length journal)
  pub decision_is : decision ≡ to.Conflict
  pub place_is : place ≡ length journal
  pub journal_is : after ≡ journal

abbrev pub Decides : List Batch → Batch → ℕ → Decision → ℕ → CallStage → List Batch → Type 0
Decides journal batch base decision place stage after = DecidesCommitted journal batch base decision place stage after ⊎ (DecidesFull journal batch decision place stage after ⊎ DecidesConflict journal batch base decision place stage after)

-- The new head has the same trust domain, and its whole journal: the old one's, perhaps with more items.
pub record ExtendsJournal (old new : Head) : Type 0 where
  pub domain : head_domain new ≡ head_domain old
  pub more : List Item
  pub kept : new.kept ≡ old.kept ++ more
  pub whole : HasWholeJournal new

-- the decision of a commit, with its place; none if memory ran out
abbrev pub decision_at : Commit → Option (Decision × ℕ)
decision_at (commit_is.Committed n) = Some (to.Committed, n)
decision_at (commit_is.Conflict n) = Some (to.Conflict, n)
decision_at (commit_is.Full limit n) = Some (to.Full limit, n)
decision_at commit_is.NoMemory = None

pub record IsDecided (old : Head) (w : Work) (answer : CallAnswer) (decision : Decision) (place : ℕ) (new : Head) : Type 0 where
  pub base : ℕ
  pub in_turn : stage_kept (Open w) ≡ ready base
  pub decided : Decides (journal_of old) w.batch base decision place (stage_over answer) (journal_of new)
  pub extends : ExtendsJournal old new

pub record SlotDecides (old_head : Head) (old : Slot) (turn : ℕ) (decision : Decision) (place : ℕ) (later : Slot) (head : Head) : Type 0 where
  pub base : ℕ
  pub in_turn : stage_of_slot old ≡ ready base
  pub decided : Decides (journal_of old_head) old.batch base decision place (stage_of_slot later) (journal_of head)
  pub extends : ExtendsJournal old_head head
  pub over : IsOverSlot later.state
  pub batch : later.batch ≡ old.batch
  pub invoked : later.invoked ≡ old.invoked
  pub turn_is : later.turn ≡ turn
  pub replied : later.replied ≡ old.replied

abbrev pub with_event : Result Done EventRefusal → Event → EventAnswer
with_event (Ok done) event = Ok done
with_event (Err refusal) event = Err (record { refusal = refusal; event = event })

-- ---- the turns of calls

-- the turn of each call is less than those of all later ones
abbrev pub AscendingTurns : List Call → Type 0
AscendingTurns [] = ⊤
AscendingTurns (c ∷ cs) = AllByRecursion (λ d. c.turn < d.turn) cs × AscendingTurns cs

abbrev pub number_of : Call → ℕ
number_of c = c.number
