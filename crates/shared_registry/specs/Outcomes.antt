-- The outcome of a batch of changes, in terms of its seat's lists and of the plain book.
use Rattle.std.specs.Prelude.{◌≡◌, ◌⊎◌, ⊤, ℕ, ◌+◌, ◌-◌, ◌≤◌, List, [], ◌∷◌, ◌++◌, length, take, IsSome, Result, Some, Ok, Err}
use mathlib.Core.List.{IsPrefix}
use Rattle.entry_book.specs.declared.kept.KeptBatch.{KeptBatch}
use Rattle.entry_book.specs.declared.reply.CallAnswer.{CallAnswer}
use Rattle.entry_book.specs.declared.reply.CallAnswer.TheVariants as gave
use Rattle.entry_book.specs.declared.reply.ReplyOutcome.TheVariants as became
use Rattle.entry_book.specs.declared.reply.Refusal.{Refusal}
use Rattle.entry_book.specs.declared.reply.Reply.{Reply}
use Rattle.entry_book.specs.Batches.{Batch}
use Rattle.entry_book.specs.Book.{Book}
use Rattle.entry_book.specs.History.{books_from, books_of, first_books, last_book, place_of, reply_to}
use Rattle.entry_book.specs.Order.{Within}
use Rattle.entry_book.specs.Rows.{Bytes}
use Rattle.batch_work.specs.Reads.{footprint_of}
use Rattle.commit_head.specs.declared.item.Item.{Item}
use Rattle.commit_head.specs.Journals.{batches_of, place_after}
use Rattle.commit_head.specs.Outcomes.{IsHitAfter, IsHitSince}
use Rattle.shared_registry.specs.declared.outcome.Outcome.{Outcome}
use Rattle.shared_registry.specs.declared.outcome.Outcome.TheVariants.{Committed, Repeated, Refused, Conflict, NoMemory, NoEntry}
use Rattle.shared_registry.specs.declared.seat.NoAnswer.{NoAnswer}
use Rattle.shared_registry.specs.declared.seat.NoAnswer.TheVariants as no
use Rattle.shared_registry.specs.Seated.{AfterCall, MaySeeFound, Seated}

-- the answer to the call of a batch of changes with this outcome, or why it has none
abbrev pub answer_given : Outcome → Result CallAnswer NoAnswer
answer_given (Committed reply) = Ok (gave.Replied reply)
answer_given (Repeated reply) = Ok (gave.Replied reply)
answer_given (Refused reply) = Ok (gave.Replied reply)
answer_given (Conflict n) = Ok (gave.Conflict n)
answer_given NoMemory = Err no.NoMemory
answer_given NoEntry = Err no.NoEntry

-- ---- tries with a conflict

-- Among the first `upto` of these batches, committed on the first books, one was committed after the first `base` of them. It has
-- a write that hits a mark of the footprint of `batch` on the book that these left.
abbrev pub IsOvertaken : List Book → List Batch → Batch → ℕ → ℕ → Type 0
IsOvertaken first journal batch base upto = IsHitSince first (take upto journal) (base + place_of first) (footprint_of batch (books_from first (take base journal)))

-- The tries began after these numbers of batches, the last one first, and none after fewer than `least`. Each met a conflict with
-- a batch committed no later than the begin of the next try. For the last try, the batch is among the first `upto`.
abbrev pub AreOvertaken : List Book → List Batch → Batch → ℕ → ℕ → List ℕ → Type 0
AreOvertaken first journal batch least upto [] = ⊤
AreOvertaken first journal batch least upto (base ∷ bases) = (least ≤ base) × IsOvertaken first journal batch base upto × AreOvertaken first journal batch least base bases

-- This number of tries met a conflict, and none began before what the seat had seen and learnt of.
pub record WasOvertaken (first : List Book) (s t : Seated) (batch : Batch) (tries upto : ℕ) : Type 0 where
  pub bases : List ℕ
  pub count : length bases ≡ tries
  pub since_seen : AreOvertaken first (batches_of t.seen) batch (length s.seen) upto bases
  pub since_learnt : AreOvertaken first (batches_of t.seen) batch (length s.learnt) upto bases

-- A conflict after this many tries took at least as many commits: what the seat has then seen has so many items more than what it had
-- seen before.
abbrev pub TookCommits : Seated → Seated → ℕ → Outcome → Type 0
TookCommits s t tries o = (n : ℕ) → o ≡ Conflict n → length s.seen + tries ≤ length t.seen

-- ---- the outcomes of a batch of changes

-- The item of the call is the last one seen. The reply is that it was committed, with the item's replies, at the item's number.
-- The seat has one more call of its own. Its snapshot, on which it answers queries until it finds another one, shows all that it
-- has seen.
pub record IsAdded (first : List Book) (s t : Seated) (batch : Batch) (reply : Reply) : Type 0 where
  pub log : List Item
  pub item : Item
  pub seen : t.seen ≡ log ++ item ∷ []
  pub reply_is : reply ≡ record { place = place_after first t.seen; outcome = became.Committed item.replies }
  pub seat : item.seat ≡ t.number
  pub call : item.call ≡ t.calls
  pub batch_is : item.batch ≡ batch
  pub own : t.own ≡ s.own ++ t.calls ∷ []
  pub found : t.found ≡ t.seen

-- The reply is that of the plain book on the books of what was seen. It repeats the replies of an item that was seen, at that
-- item's number; the item has the batch's token, which there is, and its operations.
pub record RepeatsItem (first : List Book) (t : Seated) (batch : Batch) (reply : Reply) : Type 0 where
  pub reply_is : reply ≡ reply_to batch (books_from first (batches_of t.seen))
  pub before : List Item
  pub item : Item
  pub later : List Item
  pub split : t.seen ≡ before ++ item ∷ later
  pub repeats : reply ≡ record { place = place_after first before + 1; outcome = became.Repeated item.replies }
  pub with_token : IsSome batch.token
  pub token : item.batch.token ≡ batch.token
  pub ops : item.batch.ops ≡ batch.ops

-- The reply is that of the plain book on the books of what was seen. It repeats the replies of a batch that is older than what can
-- be seen: the last of the first books stores it under the batch's token, with the batch's operations and this place.
pub record RepeatsRow (first : List Book) (t : Seated) (batch : Batch) (reply : Reply) : Type 0 where
  pub reply_is : reply ≡ reply_to batch (books_from first (batches_of t.seen))
  pub row : KeptBatch
  pub stored : Within (last_book first).tokens row
  pub repeats : reply ≡ record { place = row.place; outcome = became.Repeated row.replies }
  pub token : batch.token ≡ Some row.token
  pub ops : row.ops ≡ batch.ops

-- the reply repeats an item that was seen, or a batch that the first books store; the empty book stores none
abbrev pub RepeatsBatch : List Book → Seated → Batch → Reply → Type 0
RepeatsBatch first t batch reply = RepeatsItem first t batch reply ⊎ RepeatsRow first t batch reply

-- The reply is that of the plain book on the books of what was seen, and a refusal at their place.
pub record IsRefusedThere (first : List Book) (t : Seated) (batch : Batch) (reply : Reply) : Type 0 where
  pub reply_is : reply ≡ reply_to batch (books_from first (batches_of t.seen))
  pub why : Refusal
  pub refused : reply ≡ record { place = place_after first t.seen; outcome = became.Refused why }

-- this is the outcome of a batch of changes, with this number of tries
abbrev pub IsSubmitted : List Book → Seated → Seated → Batch → ℕ → Outcome → Type 0
IsSubmitted first s t batch tries (Committed reply) = IsAdded first s t batch reply
IsSubmitted first s t batch tries (Repeated reply) = RepeatsBatch first t batch reply × (t.own ≡ s.own)
IsSubmitted first s t batch tries (Refused reply) = IsRefusedThere first t batch reply × (t.own ≡ s.own)
IsSubmitted first s t batch tries (Conflict n) = WasOvertaken first s t batch tries (n - place_of first) × (n ≡ place_after first t.seen) × (t.own ≡ s.own)
IsSubmitted first s t batch tries NoMemory = t.own ≡ s.own
IsSubmitted first s t batch tries NoEntry = t.own ≡ s.own

-- unless the outcome is `NoMemory` or `NoEntry`, the seat has then seen all that it had learnt of
abbrev pub HasSeenLearnt : Seated → Seated → Outcome → Type 0
HasSeenLearnt s t (Committed reply) = IsPrefix s.learnt t.seen
HasSeenLearnt s t (Repeated reply) = IsPrefix s.learnt t.seen
HasSeenLearnt s t (Refused reply) = IsPrefix s.learnt t.seen
HasSeenLearnt s t (Conflict n) = IsPrefix s.learnt t.seen
HasSeenLearnt s t NoMemory = ⊤
HasSeenLearnt s t NoEntry = ⊤

-- ---- the theorem: a seat may see what it has found by its commit, without a look

abbrev pub CommitsMayBeSeen : Type 0
CommitsMayBeSeen = (first : List Book) (domain : Bytes) (s t : Seated) (batch : Batch) (reply : Reply) → AfterCall first domain s t → HasSeenLearnt s t (Committed reply) → IsAdded first s t batch reply → MaySeeFound first domain t

-- ---- the theorem: a conflict takes commits

abbrev pub ConflictsTakeCommits : Type 0
ConflictsTakeCommits = (first : List Book) (domain : Bytes) (s t : Seated) (batch : Batch) (tries : ℕ) (o : Outcome) → AfterCall first domain s t → IsSubmitted first s t batch tries o → TookCommits s t tries o

-- ---- the theorems: if the history begins with the empty book, a batch that overtook a try was committed after the first `base`
-- ones, where the try began, and it is among the first `upto`

abbrev pub OvertakenAreHit : Type 0
OvertakenAreHit = (journal : List Batch) (batch : Batch) (base upto : ℕ) → IsOvertaken first_books journal batch base (upto - place_of first_books) → IsHitAfter (take upto journal) base (footprint_of batch (books_of (take base journal)))

-- and each repeat is of an item that was seen

abbrev pub RepeatsAreSeen : Type 0
RepeatsAreSeen = (t : Seated) (batch : Batch) (reply : Reply) → RepeatsBatch first_books t batch reply → RepeatsItem first_books t batch reply
