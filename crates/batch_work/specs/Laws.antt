-- Theorems about what batches read. Each is a clause of a function of the module `laws`.
use Rattle.std.specs.Prelude.{◌≡◌, ◌↔◌, ◌+◌, ◌*◌, ◌≤◌, true, false, List, [], ◌∷◌, ◌++◌, Option, Some, None, Ok, ℕ, take}
use Rattle.std.specs.List.{AllByRecursion}
use Rattle.entry_book.specs.declared.limit.Limit.{Limit}
use Rattle.entry_book.specs.declared.op.Op.{Op}
use Rattle.entry_book.specs.declared.reply.OpReply.{OpReply}
use Rattle.entry_book.specs.declared.reply.ReplyOutcome.TheVariants.{Refused}
use Rattle.entry_book.specs.declared.reply.Refusal.TheVariants.{Full}
use Rattle.entry_book.specs.Rows.{Bytes}
use Rattle.entry_book.specs.Book.{Book, AscendingBook}
use Rattle.entry_book.specs.Writes.{RowWrite, after}
use Rattle.entry_book.specs.Runs.{RunEffect, run}
use Rattle.entry_book.specs.Batches.{Batch, IsMadeFor, is_query, past_place}
use Rattle.entry_book.specs.Limits.{limit_passed, IsWithinLimits}
use Rattle.entry_book.specs.Lawful.{Lawful}
use Rattle.entry_book.specs.History.{batch_writes, kept_under, verdict, adds, adds_within, refuses, is_committed, last_book, place_of, reply_to, commits}
use Rattle.version_book.specs.Applying.{MayApply}
use Rattle.version_book.specs.Marks.{Agree}
use Rattle.version_book.specs.CommittedRows.{VersionState, book_of, next_state}
use Rattle.version_book.specs.History.{CommitsOn, IsLast, version_with}
use Rattle.version_book.specs.Written.{placed}
use Rattle.batch_work.specs.Reads.{Case, runs, marks_of_ops, case_on, case_at, footprint_in, awaits_in, verdict_in, footprint_of, awaits_commit}
use Rattle.batch_work.specs.Windows.{Window, IsNextVersion, WindowRepresents, book_in, pushed}
use Rattle.batch_work.specs.declared.status.Status.TheVariants.{Ready, Running}
use Rattle.batch_work.specs.Working.{Base, HasReplies, HasWrites, Work, base_in, footprint_there, awaits_there, marks_so_far, reply_there, status_of, status_on}

-- ---- case by case

-- the specification's verdict is that of the case
abbrev pub VerdictByCase : Type 0
VerdictByCase = (batch : Batch) (place : ℕ) (b : Option Book) → verdict batch place b ≡ verdict_in batch place (case_at batch place b)

-- in this case the batch runs on a book, isn't read-only, and its operations are accepted
abbrev pub Waits : Batch → Case → Type 0
Waits batch c = (b : Book) × (c ≡ runs b) × (is_query batch.ops ≡ false) × (t : RunEffect) × (run batch.domain batch.ops b ≡ Ok t)

-- these are the only cases in which a batch awaits its commit
abbrev pub AwaitsInCase : Type 0
AwaitsInCase = (batch : Batch) (c : Case) → awaits_in batch c ≡ true → Waits batch c

-- ---- the reads decide the outcome

-- Let two books read the same at each mark that operations read on the first. Then the operations have the same run and the
-- same reads on both.
abbrev pub ReadsDecide : Type 0
ReadsDecide = (own_domain : Bytes) (ops : List Op) (b c : Book) → AscendingBook b → AscendingBook c → AllByRecursion (Agree b c) (marks_of_ops own_domain ops b) → (run own_domain ops b ≡ run own_domain ops c) × (marks_of_ops own_domain ops b ≡ marks_of_ops own_domain ops c)

-- The two books are the same for a batch. They store the same under its token, and it has the same reads on both. If nothing is
-- stored, its operations have the same run. It awaits a commit on both or on neither.
pub record AreSameFor (batch : Batch) (b c : Book) : Type 0 where
  pub kept : kept_under batch.token b ≡ kept_under batch.token c
  pub marks : footprint_in batch (case_on batch b) ≡ footprint_in batch (case_on batch c)
  pub runs : kept_under batch.token b ≡ None → run batch.domain batch.ops b ≡ run batch.domain batch.ops c
  pub wait : awaits_in batch (case_on batch b) ≡ awaits_in batch (case_on batch c)

-- if two books read the same at each mark that a batch reads on the first, they are the same for the batch
abbrev pub BatchReadsDecide : Type 0
BatchReadsDecide = (batch : Batch) (b c : Book) → AscendingBook b → AscendingBook c → AllByRecursion (Agree b c) (footprint_in batch (case_on batch b)) → AreSameFor batch b c

-- ---- the commit check

-- The outcome of a batch of changes with this run on the newest version: its writes may be applied; and the specification adds
-- the book of the version after it, or refuses the batch for the first limit that is passed.
pub record ResultsIn (batch : Batch) (s : VersionState) (t : RunEffect) : Type 0 where
  pub ran : run batch.domain batch.ops (book_of s.rows) ≡ Ok t
  pub may : MayApply (batch_writes batch (s.number + 1) t) (s.number + 1) s
  pub commits : limit_passed s.number (after (batch_writes batch (s.number + 1) t) (book_of s.rows)) ≡ None → CommitsOn batch s × (version_with batch s ≡ next_state (batch_writes batch (s.number + 1) t) s) × (verdict batch s.number (Some (book_of s.rows)) ≡ adds t.replies (book_of (version_with batch s).rows))
  pub is_full : (limit : Limit) → limit_passed s.number (after (batch_writes batch (s.number + 1) t) (book_of s.rows)) ≡ Some limit → verdict batch s.number (Some (book_of s.rows)) ≡ refuses (Full limit)

-- Let a batch await its commit on `base`. Let `newest` be lawful, within the limits and not too early for the batch, and read
-- the same at each mark of its footprint. Then the batch has the same run on `newest`, with this outcome.
abbrev pub CommitCheck : Type 0
CommitCheck = (batch : Batch) (base newest : VersionState) (t : RunEffect) → IsMadeFor newest.domain batch → batch.after ≤ newest.number → Lawful newest.domain (64 * newest.number) (book_of newest.rows) → IsWithinLimits (book_of newest.rows) → AscendingBook (book_of base.rows) → AllByRecursion (Agree (book_of base.rows) (book_of newest.rows)) (footprint_in batch (case_on batch (book_of base.rows))) → awaits_in batch (case_on batch (book_of base.rows)) ≡ true → run batch.domain batch.ops (book_of base.rows) ≡ Ok t → ResultsIn batch newest t

-- The batch has changes that await their commit: it may run, and runs on the last book; its token isn't in use there; it isn't
-- read-only; and its operations are accepted.
pub record HasChanges (batch : Batch) (books : List Book) : Type 0 where
  pub in_time : batch.after ≤ place_of books
  pub newest : past_place batch.ops ≡ None
  pub unkept : kept_under batch.token (last_book books) ≡ None
  pub changes : is_query batch.ops ≡ false
  pub effect : RunEffect
  pub ran : run batch.domain batch.ops (last_book books) ≡ Ok effect

-- a batch awaits its commit exactly if it has such changes
abbrev pub AwaitsAsSaid : Type 0
AwaitsAsSaid = (own_domain : Bytes) (batch : Batch) (books : List Book) → IsMadeFor own_domain batch → (awaits_commit batch books ≡ true) ↔ HasChanges batch books

-- a batch that doesn't await its commit isn't committed, and no limit refuses it
abbrev pub OthersDontCommit : Type 0
OthersDontCommit = (batch : Batch) (books : List Book) → awaits_commit batch books ≡ false → (commits batch books ≡ false) × ((limit : Limit) → (reply_to batch books).outcome ≡ Refused (Full limit) → ⊥)

-- nor does the reply of a work commit it, if the work doesn't await its commit on what it began on
abbrev pub AnswersDontCommit : Type 0
AnswersDontCommit = (batch : Batch) (base : Base) → awaits_there batch base ≡ false → is_committed (reply_there batch base).outcome ≡ false

-- ---- windows

-- A work that begins on a window represents its batch on these books: it has the same reads and the same reply, and awaits its
-- commit exactly if the batch does.
pub record OnBooks (batch : Batch) (w : Window) (books : List Book) : Type 0 where
  pub reads : footprint_there batch (base_in batch w) ≡ footprint_of batch books
  pub wait : awaits_there batch (base_in batch w) ≡ awaits_commit batch books
  pub reply : reply_there batch (base_in batch w) ≡ reply_to batch books

-- so it is on each list of books that the window represents
abbrev pub WindowRepresentsBooks : Type 0
WindowRepresentsBooks = (batch : Batch) (w : Window) (books : List Book) → WindowRepresents w books → OnBooks batch w books

-- A history that begins with the empty book does so with one version, with the number 0. The window of this version alone
-- represents the list of its book.
abbrev pub WindowBegins : Type 0
WindowBegins = (s : VersionState) → s.number ≡ 0 → WindowRepresents (record { older = []; newest = s }) (book_in s ∷ [])

-- If a window represents a list of books, then with the next version pushed it represents the list followed by that version's
-- book.
abbrev pub WindowExtends : Type 0
WindowExtends = (w : Window) (s : VersionState) (books : List Book) → WindowRepresents w books → IsNextVersion w.newest s → WindowRepresents (pushed s w) (books ++ book_in s ∷ [])

-- its newest version has the last book, and its number
abbrev pub WindowLast : Type 0
WindowLast = (w : Window) (books : List Book) → WindowRepresents w books → IsLast w.newest books

-- ---- works

-- What holds of a ready work: it began on this; it has read its whole footprint, which is that on the newest version; and its
-- batch may run there, and awaits its commit.
pub record HasRead (w : Work) : Type 0 where
  pub base : Base
  pub base_is : w.base ≡ Some base
  pub all_read : marks_so_far w ≡ footprint_there w.batch base
  pub newest_read : footprint_there w.batch base ≡ footprint_in w.batch (case_on w.batch (book_in base.newest))
  pub in_time : w.batch.after ≤ base.newest.number
  pub awaits : awaits_in w.batch (case_on w.batch (book_in base.newest)) ≡ true

-- this holds of each ready work
abbrev pub ReadyHasRead : Type 0
ReadyHasRead = (own_domain : Bytes) (w : Work) → IsMadeFor own_domain w.batch → status_of w ≡ Ready → HasRead w

-- A ready work's changes, with their place set, turn the book on which the work began into `next`. The specification commits
-- the batch with the work's replies as this book, or refuses it for the first limit that the book passes.
pub record TurnsBook (w : Work) (s : VersionState) (writes : List RowWrite) : Type 0 where
  pub replies : List OpReply
  pub of_work : HasReplies w replies
  pub next : Book
  pub next_is : next ≡ after (placed (s.number + 1) writes) (book_in s)
  pub verdict_is : verdict w.batch s.number (Some (book_in s)) ≡ adds_within (limit_passed s.number next) replies next

-- this holds of each ready work that began on this version
abbrev pub ReadyTurns : Type 0
ReadyTurns = (own_domain : Bytes) (w : Work) (base : Base) (writes : List RowWrite) → IsMadeFor own_domain w.batch → status_of w ≡ Ready → w.base ≡ Some base → HasWrites w writes → TurnsBook w base.newest writes

-- if a batch has no more to read after n reads, these are its whole footprint
abbrev pub EndHasRead : Type 0
EndHasRead = (batch : Batch) (base : Base) (n : ℕ) → (status_on batch base n ≡ Running → ⊥) → take n (footprint_there batch base) ≡ footprint_there batch base

-- a work has one list of replies
abbrev pub OneListOfReplies : Type 0
OneListOfReplies = (w : Work) (xs ys : List OpReply) → HasReplies w xs → HasReplies w ys → xs ≡ ys
