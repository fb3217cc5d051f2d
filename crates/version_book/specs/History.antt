-- How versions follow one another: by batches that commit according to the specification, `verdict`.
use Rattle.std.specs.Prelude.{◌≡◌, ℕ, ◌+◌, Bool, true, false, ◌||◌, List, [], ◌∷◌, ◌++◌, Some, Ok, Err}
use Rattle.std.specs.List.{list_any}
use Rattle.entry_book.specs.declared.reply.OpReply.{OpReply}
use Rattle.entry_book.specs.declared.reply.Reply.{Reply}
use Rattle.entry_book.specs.Order.{Within}
use Rattle.entry_book.specs.Book.{Book}
use Rattle.entry_book.specs.Writes.{RowWrite}
use Rattle.entry_book.specs.Runs.{RunResult, run}
use Rattle.entry_book.specs.Batches.{Batch, IsMadeFor}
use Rattle.entry_book.specs.History.{verdict, adds, batch_writes, reply_with, last_book, place_of, books_from}
use Rattle.version_book.specs.declared.mark.MarkKind.{MarkKind}
use Rattle.version_book.specs.Marks.{hits}
use Rattle.version_book.specs.CommittedRows.{VersionState, book_of, next_state}

-- ---- one batch

-- the writes of a batch that adds book n and whose operations have this result
abbrev pub writes_in : Batch → ℕ → RunResult → List RowWrite
writes_in batch n (Ok t) = batch_writes batch n t
writes_in batch n (Err s) = []

-- All writes of a batch that adds book n, run on book b: those of its operations, then that of its token. There are none if the
-- run is refused.
abbrev pub writes_of : Batch → ℕ → Book → List RowWrite
writes_of batch n b = writes_in batch n (run batch.domain batch.ops b)

-- the writes of a batch that make the version after this one
abbrev pub writes_at : Batch → VersionState → List RowWrite
writes_at batch s = writes_of batch (s.number + 1) (book_of s.rows)

-- the version after a batch
abbrev pub version_with : Batch → VersionState → VersionState
version_with batch s = next_state (writes_at batch s) s

-- The batch commits on the version: it was made for its trust domain, and its verdict on the version's book is to add the book
-- of the version after it.
pub record CommitsOn (batch : Batch) (s : VersionState) : Type 0 where
  pub made : IsMadeFor s.domain batch
  pub replies : List OpReply
  pub added : verdict batch s.number (Some (book_of s.rows)) ≡ adds replies (book_of (version_with batch s).rows)

-- ---- many batches

-- These batches lead from the older version to the newer one: each commits on the version that the batches before it left.
abbrev pub Follows : VersionState → List Batch → VersionState → Type 0
Follows older [] newer = older ≡ newer
Follows older (batch ∷ batches) newer = CommitsOn batch older × Follows (version_with batch older) batches newer

-- some batches lead from the older version to the newer one; with no batches, both are the same
abbrev pub IsEarlier : VersionState → VersionState → Type 0
IsEarlier older newer = (batches : List Batch) × Follows older batches newer

-- one of the batches, run one after another from the older version on, makes a write that hits the mark
abbrev pub any_hits : MarkKind → VersionState → List Batch → Bool
any_hits m older [] = false
any_hits m older (batch ∷ batches) = list_any (λ w. hits w m) (writes_at batch older) || any_hits m (version_with batch older) batches

-- the reply to each of these batches, run one after another from the version on
abbrev pub replies_on : List Batch → VersionState → List Reply
replies_on [] s = []
replies_on (batch ∷ batches) s = reply_with s.number (verdict batch s.number (Some (book_of s.rows))) ∷ replies_on batches (version_with batch s)

-- ---- in relation to the list of all books

-- The version has the book and the number of the last one of these books.
pub record IsLast (s : VersionState) (books : List Book) : Type 0 where
  pub book : last_book books ≡ book_of s.rows
  pub place : place_of books ≡ s.number

-- One of the batches makes a write that hits the mark. It is run on the last of the books that the batches before it left.
pub record SomeHit (m : MarkKind) (books : List Book) (batches : List Batch) : Type 0 where
  pub before : List Batch
  pub batch : Batch
  pub later : List Batch
  pub split : batches ≡ before ++ batch ∷ later
  pub write : RowWrite
  pub is_made : Within (writes_of batch (place_of (books_from books before) + 1) (last_book (books_from books before))) write
  pub hit : hits write m ≡ true
