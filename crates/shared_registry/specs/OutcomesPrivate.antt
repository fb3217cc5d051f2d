-- One try of a batch of changes, and what its commit does under the lock. For this crate's own contracts.
use Rattle.std.specs.Prelude.{◌≡◌, ◌≢◌, ℕ, ◌-◌, ◌≤◌, List, [], ◌∷◌, ◌++◌, length, Option, IsSome, Result, Ok, Err}
use mathlib.Core.List.{IsPrefix}
use Rattle.entry_book.specs.declared.reply.Reply.{Reply}
use Rattle.entry_book.specs.declared.reply.ReplyOutcome.{ReplyOutcome}
use Rattle.entry_book.specs.declared.reply.ReplyOutcome.TheVariants as became
use Rattle.entry_book.specs.declared.reply.Refusal.TheVariants.{Full}
use Rattle.entry_book.specs.Batches.{Batch}
use Rattle.entry_book.specs.Book.{Book}
use Rattle.entry_book.specs.History.{books_from, place_of, reply_to}
use Rattle.batch_work.specs.Working.{Work, HasReplies}
use Rattle.commit_head.specs.declared.commit.Commit.{Commit}
use Rattle.commit_head.specs.declared.commit.Commit.TheVariants as is
use Rattle.commit_head.specs.declared.item.Item.{Item}
use Rattle.commit_head.specs.Journals.{batches_of, place_after}
use Rattle.shared_registry.specs.declared.outcome.Outcome.{Outcome}
use Rattle.shared_registry.specs.declared.outcome.Outcome.TheVariants.{Committed, Repeated, Refused, Conflict}
use Rattle.shared_registry.specs.declared.seat.NoEntry.{NoEntry as NotAdmitted}
use Rattle.shared_registry.specs.Seated.{Seated}
use Rattle.shared_registry.specs.SeatCalls.{calls_of}
use Rattle.shared_registry.specs.Outcomes.{IsOvertaken, IsSubmitted, HasSeenLearnt}

-- the outcome of a batch of changes with this reply; such a batch never has the reply of a query
abbrev pub outcome_by : ReplyOutcome → Reply → Outcome
outcome_by (became.Committed replies) reply = Committed reply
outcome_by (became.Repeated replies) reply = Repeated reply
outcome_by (became.Refused why) reply = Refused reply
outcome_by (became.Answered replies) reply = Refused reply

abbrev pub outcome_with : Reply → Outcome
outcome_with reply = outcome_by reply.outcome reply

-- the outcome is not a conflict
abbrev pub IsNotConflict : Outcome → Type 0
IsNotConflict o = (n : ℕ) → o ≡ Conflict n → ⊥

-- The try began at or after what the seat had seen and learnt of, and met a conflict. The seat has then seen all that it had
-- learnt of, and has no more calls of its own.
pub record IsOvertakenOnce (first : List Book) (s t : Seated) (batch : Batch) (n : ℕ) : Type 0 where
  pub base : ℕ
  pub since_seen : length s.seen ≤ base
  pub since_learnt : length s.learnt ≤ base
  pub overtaken : IsOvertaken first (batches_of t.seen) batch base (n - place_of first)
  pub place : n ≡ place_after first t.seen
  pub seen_learnt : IsPrefix s.learnt t.seen
  pub own : t.own ≡ s.own

-- the batch has its outcome, or the try met a conflict and hands the batch back
abbrev pub IsTry : List Book → Seated → Seated → Batch → Result Outcome (ℕ × Batch) → Type 0
IsTry first s t batch (Ok o) = IsNotConflict o × HasSeenLearnt s t o × IsSubmitted first s t batch 0 o
IsTry first s t batch (Err back) = (back.1 ≡ batch) × IsOvertakenOnce first s t batch back.0

-- Nothing is added; the seat has seen all items so far, and has no more calls of its own.
pub record HasLooked (log next : List Item) (s t : Seated) : Type 0 where
  pub same : next ≡ log
  pub seen : t.seen ≡ log
  pub own : t.own ≡ s.own

-- The call's item is added to the journal, and the seat has seen and found all of it.
pub record HasAdded (first : List Book) (log next : List Item) (s t : Seated) (w : Work) (n : ℕ) : Type 0 where
  pub item : Item
  pub whole : next ≡ log ++ item ∷ []
  pub seat : item.seat ≡ s.number
  pub call : item.call ≡ s.calls
  pub batch_is : item.batch ≡ w.batch
  pub replies : HasReplies w item.replies
  pub place : n ≡ place_after first next
  pub seen : t.seen ≡ next
  pub own : t.own ≡ s.own ++ s.calls ∷ []
  pub found : t.found ≡ next

abbrev pub IsCommitThere : List Book → List Item → List Item → Seated → Seated → Work → Commit → Type 0
IsCommitThere first log next s t w (is.Committed n) = HasAdded first log next s t w n
IsCommitThere first log next s t w (is.Conflict n) = HasLooked log next s t × (n ≡ place_after first log) × IsOvertaken first (batches_of log) w.batch (length s.seen) (n - place_of first)
IsCommitThere first log next s t w (is.Full limit n) = HasLooked log next s t × (n ≡ place_after first log) × (reply_to w.batch (books_from first (batches_of log)) ≡ record { place = n; outcome = became.Refused (Full limit) })
IsCommitThere first log next s t w is.NoMemory = HasLooked log next s t

abbrev pub IsCommitOutcome : List Book → List Item → List Item → Seated → Seated → Work → Result Commit NotAdmitted → Type 0
IsCommitOutcome first log next s t w (Ok commit) = IsCommitThere first log next s t w commit
IsCommitOutcome first log next s t w (Err e) = (next ≡ log) × (t.seen ≡ s.seen) × (t.own ≡ s.own)

-- the journal has items under the number of the seat that aren't the seat's own calls
abbrev pub IsMisnumbered : List Item → Seated → Type 0
IsMisnumbered journal s = calls_of s.number journal ≢ s.own

-- for some journal before the commit and some journal after it
pub record WasDecided (first : List Book) (s t : Seated) (w : Work) (decided : Result Commit NotAdmitted) : Type 0 where
  pub log : List Item
  pub next : List Item
  pub outcome : IsCommitOutcome first log next s t w decided

-- a commit hands out what it has replaced, to be dropped without the lock
abbrev pub HandsOut : {A : Type 0} → Result Commit NotAdmitted → Option A → Type 0
HandsOut decided replaced = (n : ℕ) → decided ≡ Ok (is.Committed n) → IsSome replaced
