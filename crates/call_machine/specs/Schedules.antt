-- The guarantees about a schedule, in terms of what a client sees: the events, the answer to each of them, and the order that is
-- returned at the end. Nothing here depends on how a machine works: a reader needs only the plain book, and what a batch reads
-- and writes.
use Rattle.std.specs.Prelude.{◌≡◌, ◌↔◌, ℕ, ◌+◌, ◌<◌, true, ⊤, ◌⊎◌, List, [], ◌∷◌, ◌++◌, length, take, slice_get, Some, Result, Ok, Err}
use Rattle.std.specs.List.{AllByRecursion}
use Rattle.entry_book.specs.declared.reply.Reply.{Reply}
use Rattle.entry_book.specs.Order.{Within}
use Rattle.entry_book.specs.Book.{Book}
use Rattle.entry_book.specs.Batches.{Batch}
use Rattle.entry_book.specs.History.{first_books, books_of, books_after, reply_to, is_committed}
use Rattle.batch_work.specs.Reads.{footprint_of}
use Rattle.commit_head.specs.Outcomes.{IsHitSince, IsUnchangedSince}
use Rattle.batch_work.specs.declared.status.Status.{Status}
use Rattle.call_events.specs.declared.event.Event.{Event}
use Rattle.call_events.specs.declared.event.Event.TheVariants.{Invoke, Begin, Commit}
use Rattle.call_events.specs.declared.event.Event.TheVariants as on
use Rattle.call_answers.specs.declared.answer.Decision.TheVariants as is
use Rattle.call_answers.specs.declared.answer.Done.{Done}
use Rattle.call_answers.specs.declared.answer.Done.TheVariants.{Invoked, Begun, Stepped, Decided, Answered}
use Rattle.entry_book.specs.declared.reply.CallAnswer.TheVariants.{Replied, Conflict}
use Rattle.call_events.specs.declared.event.RefusedEvent.{RefusedEvent}

-- ---- a schedule

-- the answer to an event
abbrev pub EventAnswer : Type 0
EventAnswer = Result Done RefusedEvent

-- An event that was accepted, with its answer.
pub record Happened : Type 0 where
  pub event : Event
  pub done : Done

-- the accepted events, in order: those that weren't refused
abbrev pub accepted : List Event → List EventAnswer → List Happened
accepted [] answers = []
accepted (e ∷ es) [] = []
accepted (e ∷ es) (Ok d ∷ answers) = record { event = e; done = d } ∷ accepted es answers
accepted (e ∷ es) (Err r ∷ answers) = accepted es answers

-- accepted events are numbered from 1; this is the one of number n
abbrev pub EventAt : List Happened → ℕ → Event → Done → Type 0
EventAt log n event done = (k : ℕ) × (n ≡ k + 1) × (slice_get log k ≡ Some (record { event = event; done = done }))

-- ---- the outcome of a call

-- it was invoked with this batch
abbrev pub HandedIn : List Happened → ℕ → Batch → Type 0
HandedIn log c batch = (n : ℕ) × (done : Done) × EventAt log n (Invoke c batch) done

-- it began at this place
abbrev pub BeganOnBook : List Happened → ℕ → ℕ → Type 0
BeganOnBook log c base = (n : ℕ) × (status : Status) × EventAt log n (Begin c) (Begun c base status)

-- its commit was decided as committed, at this place
abbrev pub CommittedAsBook : List Happened → ℕ → ℕ → Type 0
CommittedAsBook log c place = (n : ℕ) × EventAt log n (Commit c) (Decided c is.Committed place)

-- it replied with this reply
abbrev pub GaveOut : List Happened → ℕ → Reply → Type 0
GaveOut log c reply = (n : ℕ) × EventAt log n (on.Reply c) (Answered c (Replied reply))

-- a committed call, replied or not, or a call that has replied with something other than a conflict
abbrev pub IsListed : List Happened → ℕ → Type 0
IsListed log c = ((place : ℕ) × CommittedAsBook log c place) ⊎ ((reply : Reply) × GaveOut log c reply)

-- The reply of the first call has a smaller accepted number than the invoke of the second.
pub record EndedBefore (log : List Happened) (first second : ℕ) : Type 0 where
  pub reply_number : ℕ
  pub invoke_number : ℕ
  pub reply_done : Done
  pub batch : Batch
  pub done : Done
  pub reply : EventAt log reply_number (on.Reply first) reply_done
  pub invoke : EventAt log invoke_number (Invoke second batch) done
  pub earlier : reply_number < invoke_number

-- ---- serial

-- no number occurs twice
abbrev pub Different : List ℕ → Type 0
Different [] = ⊤
Different (c ∷ cs) = AllByRecursion (λ d. c ≡ d → ⊥) cs × Different cs

-- The order has each listed call once, and no other call.
pub record IsSerial (log : List Happened) (order : List ℕ) : Type 0 where
  pub listed : (c : ℕ) → Within order c ↔ IsListed log c
  pub once : Different order

-- ---- legal

-- Each reply of the call is this one. If its commit was decided as committed, this reply is that of a committed batch, at the
-- same place.
pub record IsReplyOf (log : List Happened) (c : ℕ) (reply : Reply) : Type 0 where
  pub given : (out : Reply) → GaveOut log c out → out ≡ reply
  pub committed : (place : ℕ) → CommittedAsBook log c place → (place ≡ reply.place) × (is_committed reply.outcome ≡ true)

-- the plain book, run through these calls' batches, gives each of them the reply that it returned, with its place; of a committed
-- call that hasn't replied, the events show only the place, and `HoldReplies` in `Laws` says the rest
abbrev pub RunsFrom : List Happened → List Book → List ℕ → Type 0
RunsFrom log books [] = ⊤
RunsFrom log books (c ∷ cs) = (batch : Batch) × HandedIn log c batch × IsReplyOf log c (reply_to batch books) × RunsFrom log (books_after batch books) cs

-- the same from the empty book on
abbrev pub IsLegal : List Happened → List ℕ → Type 0
IsLegal log order = RunsFrom log first_books order

-- ---- strict

-- in this order, call a comes before call b
abbrev pub IsListedBefore : List ℕ → ℕ → ℕ → Type 0
IsListedBefore [] a b = ⊥
IsListedBefore (c ∷ cs) a b = ((c ≡ a) × Within cs b) ⊎ IsListedBefore cs a b

-- of two listed calls, one that ended before the other was invoked comes first in the order
abbrev pub IsStrict : List Happened → List ℕ → Type 0
IsStrict log order = (a b : ℕ) → IsListed log a → IsListed log b → EndedBefore log a b → IsListedBefore order a b

-- ---- begins

-- the call that this answer reports as committed; an empty list for any other answer
abbrev pub commit_of : Done → List ℕ
commit_of (Invoked c) = []
commit_of (Begun c place status) = []
commit_of (Stepped c mark status) = []
commit_of (Decided c is.Committed place) = c ∷ []
commit_of (Decided c is.Conflict place) = []
commit_of (Decided c (is.Full limit) place) = []
commit_of (Answered c answer) = []

-- the calls whose commit was decided as committed, in the order of their commits
abbrev pub commits_in : List Happened → List ℕ
commits_in [] = []
commits_in (h ∷ hs) = commit_of h.done ++ commits_in hs

-- this answer is that to the begin of the call, with the number of commits among these accepted events as its place
abbrev pub CountsCommits : List Happened → ℕ → Done → Type 0
CountsCommits log c done = (status : Status) × (done ≡ Begun c (length (commits_in log)) status)

-- the answer to each begin has the number of batches committed before it
abbrev pub BeginsCountCommits : List Happened → Type 0
BeginsCountCommits log = (k c : ℕ) (done : Done) → slice_get log k ≡ Some (record { event = Begin c; done = done }) → CountsCommits (take k log) c done

-- ---- conflicts and commits

-- these are the batches of these calls, in the same order
abbrev pub BatchesOf : List Happened → List ℕ → List Batch → Type 0
BatchesOf log [] [] = ⊤
BatchesOf log [] (batch ∷ batches) = ⊥
BatchesOf log (c ∷ cs) [] = ⊥
BatchesOf log (c ∷ cs) (batch ∷ batches) = HandedIn log c batch × BatchesOf log cs batches

-- Of these committed batches, one that was committed after book `base` has a write that hits a mark of the footprint of `batch`
-- on `base`.
abbrev pub IsDue : List Batch → Batch → ℕ → Type 0
IsDue journal batch base = IsHitSince first_books journal base (footprint_of batch (books_of (take base journal)))

-- After these accepted events, a conflict at this place is due for the call's commit. The journal has the batches of the calls
-- committed so far.
pub record IsDueConflict (log : List Happened) (c place : ℕ) : Type 0 where
  pub journal : List Batch
  pub journal_is : BatchesOf log (commits_in log) journal
  pub batch : Batch
  pub handed_in : HandedIn log c batch
  pub base : ℕ
  pub began : BeganOnBook log c base
  pub place_is : place ≡ length journal
  pub due : IsDue journal batch base

-- each conflict is due after the events before it
abbrev pub ConflictsAreDue : List Happened → Type 0
ConflictsAreDue log = (k c place : ℕ) → slice_get log k ≡ Some (record { event = Commit c; done = Decided c is.Conflict place }) → IsDueConflict (take k log) c place

-- After these committed batches, the last book reads the same as book `base` at each mark of the footprint of `batch` on `base`.
abbrev pub IsValidated : List Batch → Batch → ℕ → Type 0
IsValidated journal batch base = IsUnchangedSince first_books journal base (footprint_of batch (books_of (take base journal)))

-- After these accepted events, all that the call's batch read on the book on which the call began is unchanged, and the call may be
-- committed at this place. The journal has the batches of the calls committed so far.
pub record IsValidatedCommit (log : List Happened) (c place : ℕ) : Type 0 where
  pub journal : List Batch
  pub journal_is : BatchesOf log (commits_in log) journal
  pub batch : Batch
  pub handed_in : HandedIn log c batch
  pub base : ℕ
  pub began : BeganOnBook log c base
  pub place_is : place ≡ length journal + 1
  pub validated : IsValidated journal batch base

-- what each committed batch read is unchanged after the events before its commit
abbrev pub CommitsAreValidated : List Happened → Type 0
CommitsAreValidated log = (k c place : ℕ) → slice_get log k ≡ Some (record { event = Commit c; done = Decided c is.Committed place }) → IsValidatedCommit (take k log) c place

-- a call whose commit was a conflict is not listed
abbrev pub ConflictsAreOver : List Happened → Type 0
ConflictsAreOver log = (n c place : ℕ) → EventAt log n (Commit c) (Decided c is.Conflict place) → IsListed log c → ⊥

-- a call replies with a conflict only if its commit was decided as that conflict
abbrev pub ConflictsWereMet : List Happened → Type 0
ConflictsWereMet log = (n c place : ℕ) → EventAt log n (on.Reply c) (Answered c (Conflict place)) → (m : ℕ) × EventAt log m (Commit c) (Decided c is.Conflict place)

-- ---- the main theorem

-- a call has one batch
abbrev pub OneBatch : List Happened → Type 0
OneBatch log = (c : ℕ) (batch other : Batch) → HandedIn log c batch → HandedIn log c other → batch ≡ other

-- Each call has one batch. The order is serial, legal and strict. The answer to each begin has the number of batches committed
-- before it. A committed batch reads the same on the last book before its commit as on the book on which its call began. Each
-- conflict is due since the begin of its call, and that call is not listed. A call replies with a conflict only if its commit was one.
pub record Headline (log : List Happened) (order : List ℕ) : Type 0 where
  pub one_batch : OneBatch log
  pub serial : IsSerial log order
  pub legal : IsLegal log order
  pub strict : IsStrict log order
  pub begins : BeginsCountCommits log
  pub validated : CommitsAreValidated log
  pub conflicts : ConflictsAreDue log
  pub over : ConflictsAreOver log
  pub met : ConflictsWereMet log
