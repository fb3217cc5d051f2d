-- The reference meaning of a run: the list of all books so far, and what a batch does to it.
use Rattle.std.specs.Prelude.{◌≡◌, ℕ, ◌+◌, ◌-◌, ◌*◌, ◌^◌, ◌<◌, ◌≤◌, Bool, true, false, ⊤, List, [], ◌∷◌, ◌++◌, drop, length, replicate, slice_get, nat_lt, Option, Some, None, Ok, Err, if◌then◌else◌}
use Rattle.std.specs.List.{AllByRecursion}
use Rattle.entry_book.specs.declared.kept.KeptBatch.{KeptBatch}
use Rattle.entry_book.specs.declared.limit.Limit.{Limit}
use Rattle.entry_book.specs.declared.op.Op.{Op}
use Rattle.entry_book.specs.declared.reply.OpReply.{OpReply}
use Rattle.entry_book.specs.declared.reply.ReplyOutcome.{ReplyOutcome}
use Rattle.entry_book.specs.declared.reply.ReplyOutcome.TheVariants.{Committed, Answered, Repeated, Refused}
use Rattle.entry_book.specs.declared.reply.Refusal.{Refusal}
use Rattle.entry_book.specs.declared.reply.Refusal.TheVariants.{NotYet, TokenReused, OfOp, Full}
use Rattle.entry_book.specs.declared.reply.OpRefusal.TheVariants.{VersionGone}
use Rattle.entry_book.specs.declared.reply.Reply.{Reply}
use Rattle.entry_book.specs.Rows.{Bytes}
use Rattle.entry_book.specs.Book.{Book, empty_book, token_at}
use Rattle.entry_book.specs.SameOps.{ops_eq}
use Rattle.entry_book.specs.Writes.{RowWrite, wrote_token, after}
use Rattle.entry_book.specs.Runs.{RunEffect, RunResult, run}
use Rattle.entry_book.specs.Limits.{limit_passed, IsWithinLimits}
use Rattle.entry_book.specs.Lawful.{Lawful}
use Rattle.entry_book.specs.Batches.{Batch, IsMadeFor, is_query, past_place}

-- ---- the list of all books; their numbers count from 0

-- the last book of a list; b if it is empty
abbrev pub last_or : Book → List Book → Book
last_or b [] = b
last_or b (c ∷ cs) = last_or c cs

-- the last book, which batches read and change
abbrev pub last_book : List Book → Book
last_book books = last_or empty_book books

-- the number of the last book
abbrev pub place_of : List Book → ℕ
place_of books = length books - 1

-- the last n of a list, or all of it if it has fewer
abbrev pub last_of : ℕ → List Book → List Book
last_of n books = drop (length books - n) books

-- ---- which book a batch reads

-- book n, if it is one of the last 64; none if it is older or not there yet
abbrev pub among_last : ℕ → List Book → Option Book
among_last n books = if nat_lt (place_of books) (n + 64) then slice_get books n else None

-- the last book, or the numbered one of a page, which may be gone
abbrev pub book_for : Option ℕ → List Book → Option Book
book_for None books = Some (last_book books)
book_for (Some n) books = among_last n books

-- ---- what a committed batch writes

-- the row for its token, if it has one: its operations, the number of the book that it adds, and its replies
abbrev pub token_writes : Option Bytes → List Op → ℕ → List OpReply → List RowWrite
token_writes None ops n replies = []
token_writes (Some k) ops n replies = wrote_token (record { key = k; old = None; new = Some (record { token = k; ops = ops; place = n; replies = replies }) }) ∷ []

-- all writes of a batch that adds book n: those of its operations, then that of its token
abbrev pub batch_writes : Batch → ℕ → RunEffect → List RowWrite
batch_writes batch n t = t.writes ++ token_writes batch.token batch.ops n t.replies

-- ---- one batch

-- The outcome of a batch: it is refused, it is a query and answered, it adds a book, or it was committed before, at this
-- place and with these replies.
pub data Verdict : Type 0 where
  refuses : Refusal → Verdict
  answers : List OpReply → Verdict
  adds : List OpReply → Book → Verdict
  repeats : ℕ → List OpReply → Verdict

-- a batch of changes is refused for the limit that its book passes, if any; otherwise it adds the book
abbrev pub adds_within : Option Limit → List OpReply → Book → Verdict
adds_within (Some limit) replies c = refuses (Full limit)
adds_within None replies c = adds replies c

-- the outcome of a batch whose operations have this result; the flag is true for a query
abbrev pub verdict_when : Bool → Batch → ℕ → Book → RunResult → Verdict
verdict_when query batch place b (Err s) = refuses (OfOp s.op s.reason)
verdict_when true batch place b (Ok t) = answers t.replies
verdict_when false batch place b (Ok t) = adds_within (limit_passed place (after (batch_writes batch (place + 1) t) b)) t.replies (after (batch_writes batch (place + 1) t) b)

-- The outcome of running the batch's operations. A batch of changes adds its book if that passes no limit, even if it equals the
-- book before.
abbrev pub verdict_run : Batch → ℕ → Book → Verdict
verdict_run batch place b = verdict_when (is_query batch.ops) batch place b (run batch.domain batch.ops b)

-- the token is in use: if the operations are the same, the stored replies are repeated; otherwise the batch is refused
abbrev pub verdict_again : Bool → KeptBatch → Verdict
verdict_again true k = repeats k.place k.replies
verdict_again false k = refuses TokenReused

-- the batch that the book stores under the token, if a token is given and in use
abbrev pub kept_under : Option Bytes → Book → Option KeptBatch
kept_under None b = None
kept_under (Some token) b = token_at token b

-- the outcome if this is stored under the batch's token
abbrev pub verdict_over : Option KeptBatch → Batch → ℕ → Book → Verdict
verdict_over (Some k) batch place b = verdict_again (ops_eq k.ops batch.ops) k
verdict_over None batch place b = verdict_run batch place b

-- the outcome on the book that the batch reads; if that book is gone, operation 0 is refused for it
abbrev pub verdict_on : Batch → ℕ → Option Book → Verdict
verdict_on batch place None = refuses (OfOp 0 VersionGone)
verdict_on batch place (Some b) = verdict_over (kept_under batch.token b) batch place b

-- the outcome at this place: below the batch's minimum place it is refused, and otherwise it is that on the book that it reads
abbrev pub verdict : Batch → ℕ → Option Book → Verdict
verdict batch place b = if nat_lt place batch.after then refuses NotYet else verdict_on batch place b

-- The place of a reply: the new book's number if a book is added, that of the first commit if the batch repeats one, and
-- otherwise the number of the last book.
abbrev pub reply_with : ℕ → Verdict → Reply
reply_with place (refuses r) = record { place = place; outcome = Refused r }
reply_with place (answers replies) = record { place = place; outcome = Answered replies }
reply_with place (adds replies b) = record { place = place + 1; outcome = Committed replies }
reply_with place (repeats n replies) = record { place = n; outcome = Repeated replies }

-- the list of books after a batch with this outcome
abbrev pub books_with : List Book → Verdict → List Book
books_with books (refuses r) = books
books_with books (answers replies) = books
books_with books (adds replies b) = books ++ b ∷ []
books_with books (repeats n replies) = books

-- the reply to a batch on these books
abbrev pub reply_to : Batch → List Book → Reply
reply_to batch books = reply_with (place_of books) (verdict batch (place_of books) (book_for (past_place batch.ops) books))

-- the list of books after a batch on these books
abbrev pub books_after : Batch → List Book → List Book
books_after batch books = books_with books (verdict batch (place_of books) (book_for (past_place batch.ops) books))

-- whether the batch is committed now
abbrev pub is_committed : ReplyOutcome → Bool
is_committed (Committed replies) = true
is_committed (Answered replies) = false
is_committed (Repeated replies) = false
is_committed (Refused refusal) = false

-- whether the batch was committed before, with its token
abbrev pub is_repeated : ReplyOutcome → Bool
is_repeated (Committed replies) = false
is_repeated (Answered replies) = false
is_repeated (Repeated replies) = true
is_repeated (Refused refusal) = false

-- whether the batch is committed on these books
abbrev pub commits : Batch → List Book → Bool
commits batch books = is_committed (reply_to batch books).outcome

-- ---- many batches

-- the list of books after running these batches one after another, beginning with `books`
abbrev pub books_from : List Book → List Batch → List Book
books_from books [] = books
books_from books (batch ∷ batches) = books_from (books_after batch books) batches

-- the reply to each of these batches, run one after another, beginning with `books`
abbrev pub replies_from : List Book → List Batch → List Reply
replies_from books [] = []
replies_from books (batch ∷ batches) = reply_to batch books ∷ replies_from (books_after batch books) batches

-- each batch is committed on the books that the ones before it left
abbrev pub CommitAll : List Book → List Batch → Type 0
CommitAll books [] = ⊤
CommitAll books (batch ∷ batches) = (commits batch books ≡ true) × CommitAll (books_after batch books) batches

-- the list of all books before the first batch: an empty book, whose number is 0
abbrev pub first_books : List Book
first_books = empty_book ∷ []

-- the list of all books after these batches
abbrev pub books_of : List Batch → List Book
books_of batches = books_from first_books batches

-- ---- histories that begin at given books

-- What the list of all books may begin with. It isn't empty, and it has at most as many books as a history can have. Each of its
-- books is lawful as the book of its number, and within the limits. `first_books` is one such list.
pub record IsFirst (own_domain : Bytes) (first : List Book) : Type 0 where
  pub some : 0 < length first
  pub few : length first ≤ 2 ^ 48 + 1
  pub lawful : (n : ℕ) (b : Book) → slice_get first n ≡ Some b → Lawful own_domain (64 * n) b
  pub within : (n : ℕ) (b : Book) → slice_get first n ≡ Some b → IsWithinLimits b

-- a list that begins at place q with this book: empty books stand before it
abbrev pub starting_at : ℕ → Book → List Book
starting_at q b = replicate q empty_book ++ b ∷ []

-- These batches, each made for the trust domain and committed in turn, led from the first books to this list of all books.
pub record LeadToBooks (first : List Book) (own_domain : Bytes) (batches : List Batch) (books : List Book) : Type 0 where
  pub is_first : IsFirst own_domain first
  pub made : AllByRecursion (IsMadeFor own_domain) batches
  pub committed : CommitAll first batches
  pub books_are : books ≡ books_from first batches

-- some batches led from the first books to it
abbrev pub IsHistory : List Book → Bytes → List Book → Type 0
IsHistory first own_domain books = (batches : List Batch) × LeadToBooks first own_domain batches books

-- The two lists have the same length and the same last 64 books. Replies depend on nothing else of a list.
pub record IsAlike (books others : List Book) : Type 0 where
  pub count : length books ≡ length others
  pub kept : last_of 64 books ≡ last_of 64 others

-- ---- the part of its history that a plain book stores

-- The trust domain, the earlier books that can still be read, in order, the last book, and its number.
pub record PlainState : Type 0 where
  pub domain : Bytes
  pub older : List Book
  pub newest : Book
  pub place : ℕ

-- the stored books: the earlier ones and the last one
abbrev pub kept_books : PlainState → List Book
kept_books state = state.older ++ state.newest ∷ []

-- the stored book of this number
abbrev pub among_kept : ℕ → PlainState → Option Book
among_kept n state = if nat_lt (n + length state.older) state.place then None else slice_get (kept_books state) (n + length state.older - state.place)

-- the stored book that a batch reads: the last one, or the one of this number, which may be gone
abbrev pub kept_for : Option ℕ → PlainState → Option Book
kept_for None state = Some state.newest
kept_for (Some n) state = among_kept n state

-- the outcome of a batch on the stored books
abbrev pub verdict_of : Batch → PlainState → Verdict
verdict_of batch state = verdict batch state.place (kept_for (past_place batch.ops) state)

-- the reply to a batch on the stored books
abbrev pub reply_on : Batch → PlainState → Reply
reply_on batch state = reply_with state.place (verdict_of batch state)

-- what is stored after a batch with this outcome
abbrev pub state_with : PlainState → Verdict → PlainState
state_with state (refuses r) = state
state_with state (answers replies) = state
state_with state (adds replies b) = record state { older = last_of 63 (kept_books state); newest = b; place = state.place + 1 }
state_with state (repeats n replies) = state

-- what is stored after a batch
abbrev pub state_after : Batch → PlainState → PlainState
state_after batch state = state_with state (verdict_of batch state)

-- The state represents the list of all books so far: its books are the last 64 of them, its place is the last one's number,
-- and the list is a history of its trust domain that begins with the first books.
pub record RepresentsFrom (first : List Book) (state : PlainState) (books : List Book) : Type 0 where
  pub count : length books ≡ state.place + 1
  pub kept : last_of 64 books ≡ kept_books state
  pub history : IsHistory first state.domain books

-- the same for a list that begins with the empty book
abbrev pub RepresentsBooks : PlainState → List Book → Type 0
RepresentsBooks state books = RepresentsFrom first_books state books
