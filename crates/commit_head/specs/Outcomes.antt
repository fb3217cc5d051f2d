-- The outcome of a commit, in terms of the specification.
use Rattle.std.specs.Prelude.{◌≡◌, ◌↔◌, ℕ, ◌+◌, ◌-◌, ◌<◌, ◌≤◌, true, List, [], ◌∷◌, ◌++◌, length, take, Option, Some, None}
use Rattle.std.specs.List.{AllByRecursion}
use Rattle.entry_book.specs.declared.reply.CallAnswer.{CallAnswer}
use Rattle.entry_book.specs.declared.reply.CallAnswer.TheVariants as gave
use Rattle.entry_book.specs.declared.reply.OpReply.{OpReply}
use Rattle.entry_book.specs.declared.reply.ReplyOutcome.TheVariants.{Committed as WasCommitted, Refused as WasRefused}
use Rattle.entry_book.specs.declared.reply.Refusal.TheVariants.{Full as TooMuch}
use Rattle.entry_book.specs.Rows.{Bytes}
use Rattle.entry_book.specs.Order.{Within}
use Rattle.entry_book.specs.Writes.{RowWrite}
use Rattle.entry_book.specs.Batches.{Batch, IsMadeFor}
use Rattle.entry_book.specs.Book.{Book}
use Rattle.entry_book.specs.History.{IsFirst, books_after, books_from, books_of, first_books, last_book, place_of, reply_to}
use Rattle.version_book.specs.declared.mark.MarkKind.{MarkKind}
use Rattle.version_book.specs.History.{writes_of}
use Rattle.version_book.specs.Marks.{Agree, hits}
use Rattle.batch_work.specs.declared.status.Status.TheVariants.{Ready}
use Rattle.batch_work.specs.Working.{Base, Work, footprint_there, status_of}
use Rattle.commit_head.specs.declared.commit.Commit.{Commit}
use Rattle.commit_head.specs.declared.commit.Commit.TheVariants.{Conflict, Full, Committed, NoMemory}
use Rattle.commit_head.specs.declared.item.Item.{Item}
use Rattle.commit_head.specs.Heads.{Head, IsCommit, IsItemOf, IsJournal}
use Rattle.commit_head.specs.Journals.{Leads, batches_of, empty_version, first_version, place_after}

-- Among these batches, committed on the first books, is one, `other`, that added a later book than number `base`: it was committed as
-- book `length before + length first`. One of its writes, made on the last book before it, hits one of these marks.
pub record IsHitSince (first : List Book) (journal : List Batch) (base : ℕ) (marks : List MarkKind) : Type 0 where
  pub before : List Batch
  pub other : Batch
  pub later : List Batch
  pub split : journal ≡ before ++ other ∷ later
  pub since : base < length before + length first
  pub mark : MarkKind
  pub read : Within marks mark
  pub write : RowWrite
  pub is_made : Within (writes_of other (length before + length first) (last_book (books_from first before))) write
  pub hit : hits write mark ≡ true

-- At each of these marks, the last book after these batches, committed on the first books, reads the same as book `base`. That book
-- isn't before the last of the first books: with a smaller number, the comparison is with the last of the first books.
abbrev pub IsUnchangedSince : List Book → List Batch → ℕ → List MarkKind → Type 0
IsUnchangedSince first journal base marks = AllByRecursion (Agree (last_book (books_from first (take (base - place_of first) journal))) (last_book (books_from first journal))) marks

-- The work is ready, its batch was made for the trust domain, and it began on a version. The first items of this journal, up to
-- the version's number, lead to that version.
pub record IsReadyOn (first : List Book) (own_domain : Bytes) (items : List Item) (w : Work) (base : Base) : Type 0 where
  pub made : IsMadeFor own_domain w.batch
  pub ready : status_of w ≡ Ready
  pub base_is : w.base ≡ Some base
  pub leads : Leads (first_version own_domain first) (take (base.newest.number - place_of first) items) base.newest

-- The specification commits the batch as the next book, with the replies of an item made from the work. What the work has read is
-- the same on the last book as on the one on which it began. The head's journal is longer by this item.
pub record CommitsOnBooks (first : List Book) (items : List Item) (seat call : ℕ) (w : Work) (base : Base) (n : ℕ) (new : Head) : Type 0 where
  pub item : Item
  pub of_work : IsItemOf seat call w item
  pub number : n ≡ place_after first items + 1
  pub validated : IsUnchangedSince first (batches_of items) base.newest.number (footprint_there w.batch base)
  pub reply : reply_to w.batch (books_from first (batches_of items)) ≡ record { place = n; outcome = WasCommitted item.replies }
  pub books : books_after w.batch (books_from first (batches_of items)) ≡ books_from first (batches_of (items ++ item ∷ []))
  pub journal : IsJournal first (items ++ item ∷ []) new

-- If the outcome is `Committed`, what the work has read is the same now, and the specification commits the batch on the books of this
-- journal. If it is `Full`, the specification refuses the batch there for the same limit. If it is a conflict, a batch that was
-- committed since the work began has a write that hits what the work has read. If the batch isn't committed, the journal is
-- unchanged.
abbrev pub AnswersOnBooks : List Book → List Item → ℕ → ℕ → Work → Base → Commit → Head → Type 0
AnswersOnBooks first items seat call w base (Committed n) new = CommitsOnBooks first items seat call w base n new
AnswersOnBooks first items seat call w base (Full limit n) new = (n ≡ place_after first items) × (reply_to w.batch (books_from first (batches_of items)) ≡ record { place = n; outcome = WasRefused (TooMuch limit) }) × IsJournal first items new
AnswersOnBooks first items seat call w base (Conflict n) new = (n ≡ place_after first items) × IsHitSince first (batches_of items) base.newest.number (footprint_there w.batch base) × IsJournal first items new
AnswersOnBooks first items seat call w base NoMemory new = IsJournal first items new

-- if the history begins with the empty book, book `base` is the one after the first `base` batches
abbrev pub UnchangedSinceEmpty : Type 0
UnchangedSinceEmpty = (journal : List Batch) (base : ℕ) (marks : List MarkKind) → IsUnchangedSince first_books journal base marks ↔ AllByRecursion (Agree (last_book (books_of (take base journal))) (last_book (books_of journal))) marks

-- If the history begins with the empty book, among these committed batches is one, `other`, after the first `base` ones: it was
-- committed as book `length before + 1`. One of its writes, made on the last book before it, hits one of these marks.
pub record IsHitAfter (journal : List Batch) (base : ℕ) (marks : List MarkKind) : Type 0 where
  pub before : List Batch
  pub other : Batch
  pub later : List Batch
  pub split : journal ≡ before ++ other ∷ later
  pub since : base ≤ length before
  pub mark : MarkKind
  pub read : Within marks mark
  pub write : RowWrite
  pub is_made : Within (writes_of other (length before + 1) (last_book (books_of before))) write
  pub hit : hits write mark ≡ true

abbrev pub HitSinceEmpty : Type 0
HitSinceEmpty = (journal : List Batch) (base : ℕ) (marks : List MarkKind) → IsHitSince first_books journal base marks ↔ IsHitAfter journal base marks

-- and the first items that lead to the version on which a work began are as many as its number
abbrev pub ReadyOnEmpty : Type 0
ReadyOnEmpty = (own_domain : Bytes) (items : List Item) (w : Work) (base : Base) → IsReadyOn first_books own_domain items w base → Leads (empty_version own_domain) (take base.newest.number items) base.newest

-- the answer to a call whose commit had this outcome, given the replies to its operations; none if memory ran out
abbrev pub answer_to : List OpReply → Commit → Option CallAnswer
answer_to replies (Committed n) = Some (gave.Replied (record { place = n; outcome = WasCommitted replies }))
answer_to replies (Full limit n) = Some (gave.Replied (record { place = n; outcome = WasRefused (TooMuch limit) }))
answer_to replies (Conflict n) = Some (gave.Conflict n)
answer_to replies NoMemory = None

-- the outcome of committing a ready work, and the head after it
abbrev pub CommitOnBooks : Type 0
CommitOnBooks = (first : List Book) (items : List Item) (old : Head) (seat call : ℕ) (w : Work) (base : Base) (answer : Commit) (new : Head) → IsFirst old.window.newest.domain first → IsJournal first items old → IsReadyOn first old.window.newest.domain items w base → IsCommit old seat call w answer new → AnswersOnBooks first items seat call w base answer new
