-- Theorems about marks and versions. Each is a clause of a function of the module `laws`.
use Rattle.std.specs.Prelude.{◌≡◌, ◌↔◌, ℕ, ◌+◌, ◌*◌, ◌<◌, ◌≤◌, true, false, List, ◌++◌, length, map, option_to_list, Some, None, Ok, IfOk}
use Rattle.std.specs.List.{AllByRecursion, list_any}
use Rattle.entry_book.specs.Rows.{Bytes, Entry}
use Rattle.entry_book.specs.Book.{Book, AscendingBook, entry_at, agent_at, bundle_at, token_at, group_of, children_of, users_of, expired_before, empty_book}
use Rattle.entry_book.specs.Writes.{RowWrite, after, FitAll}
use Rattle.entry_book.specs.Batches.{Batch, IsMadeFor, is_query, past_place}
use Rattle.entry_book.specs.Runs.{RunEffect, run}
use Rattle.entry_book.specs.Limits.{limit_passed, IsWithinLimits}
use Rattle.entry_book.specs.Lawful.{Lawful}
use Rattle.entry_book.specs.History.{last_book, book_for, place_of, batch_writes, kept_under, verdict, books_from, CommitAll, replies_from}
use Rattle.version_book.specs.declared.mark.MarkKind.{MarkKind}
use Rattle.version_book.specs.declared.mark.MarkKind.TheVariants as mark
use Rattle.version_book.specs.Applying.{MayApply}
use Rattle.version_book.specs.Marks.{reads, Agree, hits, seen}
use Rattle.version_book.specs.CommittedRows.{CommittedRows, VersionState, book_of, marked, rows_after, next_state}
use Rattle.version_book.specs.History.{CommitsOn, Follows, IsLast, SomeHit, any_hits, replies_on, version_with}
use Rattle.version_book.specs.Room.{RoomAll}
use Rattle.version_book.specs.Written.{placed}

-- ---- what each mark reads, in terms of the book's own lookups

-- the book of these entries, and no other rows
abbrev pub entries_alone : List Entry → Book
entries_alone es = record empty_book { entries = es }

abbrev pub ReadsEntry : Type 0
ReadsEntry = (id : Bytes) (b : Book) → AscendingBook b → reads (mark.Entry id) b ≡ entries_alone (option_to_list (entry_at id b))

abbrev pub ReadsGroup : Type 0
ReadsGroup = (parent identity : Bytes) (b : Book) → reads (mark.Group parent identity) b ≡ entries_alone (group_of parent identity b)

abbrev pub ReadsChildren : Type 0
ReadsChildren = (parent : Bytes) (b : Book) → reads (mark.Children parent) b ≡ entries_alone (children_of parent b)

abbrev pub ReadsUsers : Type 0
ReadsUsers = (domain : Bytes) (b : Book) → reads (mark.Users domain) b ≡ entries_alone (users_of domain b)

abbrev pub ReadsExpiring : Type 0
ReadsExpiring = (moment : ℕ) (b : Book) → reads (mark.Expiring moment) b ≡ entries_alone (expired_before moment b)

abbrev pub ReadsAll : Type 0
ReadsAll = (b : Book) → reads mark.All b ≡ entries_alone b.entries

abbrev pub ReadsAgent : Type 0
ReadsAgent = (id : Bytes) (b : Book) → AscendingBook b → reads (mark.Agent id) b ≡ record empty_book { agents = option_to_list (agent_at id b) }

abbrev pub ReadsBundle : Type 0
ReadsBundle = (domain : Bytes) (b : Book) → AscendingBook b → reads (mark.Bundle domain) b ≡ record empty_book { bundles = option_to_list (bundle_at domain b) }

abbrev pub ReadsToken : Type 0
ReadsToken = (token : Bytes) (b : Book) → AscendingBook b → reads (mark.Token token) b ≡ record empty_book { tokens = option_to_list (token_at token b) }

-- ---- reads and writes

-- what a mark reads after writes is what it read before them, changed by the part of the writes that it sees
abbrev pub ReadsAfter : Type 0
ReadsAfter = (m : MarkKind) (ws : List RowWrite) (b : Book) → reads m (after ws b) ≡ after (map (seen m) ws) (reads m b)

-- if two books read the same at a mark, they also do so after the same writes
abbrev pub AgreeAfter : Type 0
AgreeAfter = (ws : List RowWrite) (b c : Book) (m : MarkKind) → Agree b c m → Agree (after ws b) (after ws c) m

-- on a book in order, if no write hits a mark and each finds its old row, the mark reads the same before and after
abbrev pub Unhit : Type 0
Unhit = (ws : List RowWrite) (b : Book) (m : MarkKind) → AscendingBook b → FitAll ws b → AllByRecursion (λ w. hits w m ≡ false) ws → Agree b (after ws b) m

-- ---- places

-- if place n is set in a batch's writes, they are its writes as book n, whichever place they had
abbrev pub PlacesPut : Type 0
PlacesPut = (batch : Batch) (b : Book) (m n : ℕ) → IfOk (run batch.domain batch.ops b) (λ t. placed n (batch_writes batch m t) ≡ batch_writes batch n t)

-- setting a place in writes doesn't change which marks they hit
abbrev pub HitsAtAnyPlace : Type 0
HitsAtAnyPlace = (n : ℕ) (ws : List RowWrite) (m : MarkKind) → list_any (λ w. hits w m) (placed n ws) ≡ list_any (λ w. hits w m) ws

-- ---- versions

-- the book of rows after writes is the book of these rows after the same writes
abbrev pub BookAfter : Type 0
BookAfter = (n : ℕ) (ws : List RowWrite) (rows : CommittedRows) → book_of (rows_after n ws rows) ≡ after ws (book_of rows)

-- what a mark reads on the book of rows is the book of the rows that it names
abbrev pub BookReads : Type 0
BookReads = (m : MarkKind) (rows : CommittedRows) → reads m (book_of rows) ≡ book_of (marked m rows)

-- ---- histories

-- When a batch of changes, made for a version's trust domain, commits on the version: it may run at the version's number, its
-- token isn't in use, its run on the book isn't refused, and the result passes no limit. The version after it has its writes.
abbrev pub BatchCommits : Type 0
BatchCommits = (batch : Batch) (s : VersionState) (t : RunEffect) → IsMadeFor s.domain batch → is_query batch.ops ≡ false → batch.after ≤ s.number → kept_under batch.token (book_of s.rows) ≡ None → run batch.domain batch.ops (book_of s.rows) ≡ Ok t → limit_passed s.number (after (batch_writes batch (s.number + 1) t) (book_of s.rows)) ≡ None → CommitsOn batch s × (version_with batch s ≡ next_state (batch_writes batch (s.number + 1) t) s)

-- a batch that commits on a version doesn't read an earlier book
abbrev pub CommitsReadLast : Type 0
CommitsReadLast = (batch : Batch) (s : VersionState) → CommitsOn batch s → past_place batch.ops ≡ None

-- on books whose last one is the version's, with its number, the verdict on a batch that doesn't read an earlier book is that
-- on the version's book
abbrev pub VerdictOnLast : Type 0
VerdictOnLast = (batch : Batch) (s : VersionState) (books : List Book) → last_book books ≡ book_of s.rows → place_of books ≡ s.number → past_place batch.ops ≡ None → verdict batch (place_of books) (book_for (past_place batch.ops) books) ≡ verdict batch s.number (Some (book_of s.rows))

-- batches that lead from s to t, followed by batches that lead from t to u, lead from s to u
abbrev pub FollowsJoined : Type 0
FollowsJoined = (first second : List Batch) (s t u : VersionState) → Follows s first t → Follows t second u → Follows s (first ++ second) u

-- If the last of some books is the older version's, with its number, the specification commits the batches on these books too.
-- The last book and its number are then those of the newer version, whose number has grown by one for each batch.
abbrev pub BooksFollow : Type 0
BooksFollow = (batches : List Batch) (older newer : VersionState) (books : List Book) → 0 < length books → last_book books ≡ book_of older.rows → place_of books ≡ older.number → Follows older batches newer → CommitAll books batches × (last_book (books_from books batches) ≡ book_of newer.rows) × (place_of (books_from books batches) ≡ newer.number) × (length batches + older.number ≡ newer.number)

-- the trust domain is unchanged, and each batch was made for it
abbrev pub DomainIsUnchanged : Type 0
DomainIsUnchanged = (batches : List Batch) (older newer : VersionState) → Follows older batches newer → (newer.domain ≡ older.domain) × AllByRecursion (IsMadeFor older.domain) batches

-- if a version is within the limits, so is each one that follows from it
abbrev pub LimitsFollow : Type 0
LimitsFollow = (batches : List Batch) (older newer : VersionState) → IsWithinLimits (book_of older.rows) → Follows older batches newer → IsWithinLimits (book_of newer.rows)

-- if no batch in between makes a write that hits a mark, both versions have the same rows at the mark, with the same numbers
abbrev pub UnhitHistory : Type 0
UnhitHistory = (m : MarkKind) (batches : List Batch) (older newer : VersionState) → AscendingBook (book_of older.rows) → Follows older batches newer → any_hits m older batches ≡ false → marked m older.rows ≡ marked m newer.rows

-- if no batch in between makes a write that hits one of these marks, both books read the same at each of them
abbrev pub UnhitMarks : Type 0
UnhitMarks = (ms : List MarkKind) (batches : List Batch) (older newer : VersionState) → AscendingBook (book_of older.rows) → Follows older batches newer → list_any (λ m. any_hits m older batches) ms ≡ false → AllByRecursion (λ m. Agree (book_of older.rows) (book_of newer.rows) m) ms

-- if a batch runs on a lawful book within the limits, there is room for all its writes, including that of its token
abbrev pub RoomInRun : Type 0
RoomInRun = (own_domain : Bytes) (most : ℕ) (batch : Batch) (n : ℕ) (b : Book) (t : RunEffect) → IsMadeFor own_domain batch → Lawful own_domain most b → IsWithinLimits b → run own_domain batch.ops b ≡ Ok t → RoomAll (batch_writes batch n t) b

-- If a batch runs on a lawful version within the limits, and its token isn't in use, all its writes may be applied to the
-- version.
abbrev pub RunMayApply : Type 0
RunMayApply = (batch : Batch) (s : VersionState) (t : RunEffect) → IsMadeFor s.domain batch → Lawful s.domain (64 * s.number) (book_of s.rows) → IsWithinLimits (book_of s.rows) → kept_under batch.token (book_of s.rows) ≡ None → run batch.domain batch.ops (book_of s.rows) ≡ Ok t → MayApply (batch_writes batch (s.number + 1) t) (s.number + 1) s

-- ---- lists of batches

-- the books after two lists of batches are those after the second, beginning with the books after the first
abbrev pub BooksJoin : Type 0
BooksJoin = (first second : List Batch) (books : List Book) → books_from books (first ++ second) ≡ books_from (books_from books first) second

-- all batches of two lists commit exactly if those of the first do, and those of the second on the books after them
abbrev pub CommitsJoin : Type 0
CommitsJoin = (first second : List Batch) (books : List Book) → CommitAll books (first ++ second) ↔ (CommitAll books first × CommitAll (books_from books first) second)

-- the specification gives the batches of a history the replies that its versions give
abbrev pub RepliesFollow : Type 0
RepliesFollow = (batches : List Batch) (older newer : VersionState) (books : List Book) → 0 < length books → IsLast older books → Follows older batches newer → replies_from books batches ≡ replies_on batches older

-- ---- which batch hit a mark

-- in terms of the list of all books
abbrev pub HitsInBooks : Type 0
HitsInBooks = (m : MarkKind) (batches : List Batch) (older newer : VersionState) (books : List Book) → 0 < length books → IsLast older books → Follows older batches newer → (any_hits m older batches ≡ true) ↔ SomeHit m books batches
