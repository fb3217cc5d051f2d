-- What do lists of batches result in, on versions and on the list of all books?
use Rattle.std.proofs.Common.{◌≡◌, ℕ, ◌+◌, ◌<◌, List, [], ◌∷◌, ◌++◌, length, Some, ap, ◌∙◌, refl, arith, length-append}
use Rattle.entry_book.proofs.Histories.{last-snoc}
use Rattle.entry_book.specs.Book.{Book, empty_book}
use Rattle.entry_book.specs.Batches.{Batch, past_place}
use Rattle.entry_book.specs.History.{Verdict, book_for, verdict, last_book, place_of, books_with, books_after, books_from, reply_to, reply_with, CommitAll, replies_from}
use Rattle.version_book.specs.CommittedRows.{VersionState, book_of}
use Rattle.version_book.specs.History.{CommitsOn, IsLast, version_with}
use Rattle.version_book.specs.Laws.{BooksJoin, CommitsJoin, RepliesFollow}
use Rattle.version_book.proofs.Histories.{newest_read, verdict_last}

-- ---- one batch on the list of books

-- the verdict on a batch that commits on a version, for a list of books whose last one is the version's
verdict_of : (batch : Batch) (s : VersionState) (books : List Book) → IsLast s books → CommitsOn batch s → verdict batch (place_of books) (book_for (past_place batch.ops) books) ≡ verdict batch s.number (Some (book_of s.rows))
verdict_of batch s books l c = verdict_last batch s books l.book l.place (newest_read batch s c)

-- a list with one more book
last_of_more : (s : VersionState) (books later : List Book) (n : ℕ) → 0 < length books → place_of books ≡ n → later ≡ books ++ book_of s.rows ∷ [] → s.number ≡ n + 1 → IsLast s later × (0 < length later)
last_of_more s books later n l p e q =
    let m : length later ≡ length books + 1 = ap length e ∙ length-append books (book_of s.rows ∷ []) in
    (record { book = ap last_book e ∙ last-snoc empty_book books (book_of s.rows); place = omega arith }, omega arith)

-- if a batch commits on a version, the version after it has the last of the books after it
pub represents_next : (batch : Batch) (s : VersionState) (books : List Book) → 0 < length books → IsLast s books → CommitsOn batch s → IsLast (version_with batch s) (books_after batch books) × (0 < length (books_after batch books))
represents_next batch s books l k c = last_of_more (version_with batch s) books (books_after batch books) s.number l k.place (ap (books_with books) (verdict_of batch s books k c ∙ c.added)) refl

-- ---- many batches on the list of books

pub books_join : BooksJoin
books_join [] second books = refl
books_join (batch ∷ first) second books = books_join first second (books_after batch books)

commit_both : (first second : List Batch) (books : List Book) → CommitAll books (first ++ second) → CommitAll books first × CommitAll (books_from books first) second
commit_both [] second books c = (tt, c)
commit_both (batch ∷ first) second books c = let r = commit_both first second (books_after batch books) c.1 in ((c.0, r.0), r.1)

commit_all : (first second : List Batch) (books : List Book) → CommitAll books first → CommitAll (books_from books first) second → CommitAll books (first ++ second)
commit_all [] second books c d = d
commit_all (batch ∷ first) second books c d = (c.0, commit_all first second (books_after batch books) c.1 d)

pub commits_join : CommitsJoin
commits_join first second books = (commit_both first second books, λ c. commit_all first second books c.0 c.1)

pub replies_follow : RepliesFollow
replies_follow [] older newer books l k f = refl
replies_follow (batch ∷ batches) older newer books l k f =
    let n = represents_next batch older books l k f.0 in
    let v : Verdict = verdict batch older.number (Some (book_of older.rows)) in
    let reply : reply_to batch books ≡ reply_with older.number v = ap (λ v. reply_with (place_of books) v) (verdict_of batch older books k f.0) ∙ ap (λ p. reply_with p v) k.place in
    ap (λ r. r ∷ replies_from (books_after batch books) batches) reply
    ∙ ap (λ rs. reply_with older.number v ∷ rs) (replies_follow batches (version_with batch older) newer (books_after batch books) n.1 n.0 f.1)
