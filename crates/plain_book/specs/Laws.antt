-- The state of a plain book, compared with the list of all books. Each definition is a clause of a function in the module `laws`.
use Rattle.std.specs.Prelude.{◌≡◌, List}
use Rattle.entry_book.specs.Book.{Book}
use Rattle.entry_book.specs.Batches.{Batch, IsMadeFor}
use Rattle.entry_book.specs.History.{PlainState, RepresentsFrom, books_after, reply_on, reply_to, state_after}

-- a state gives each batch the same reply as each list of books that it represents
abbrev pub RepliesAgree : Type 0
RepliesAgree = (first : List Book) (state : PlainState) (books : List Book) (batch : Batch) → RepresentsFrom first state books → reply_on batch state ≡ reply_to batch books

-- for a list of books that a state represents, and a batch made for its trust domain: the state after the batch represents the
-- books after it
abbrev pub BooksAgree : Type 0
BooksAgree = (first : List Book) (state : PlainState) (books : List Book) (batch : Batch) → RepresentsFrom first state books → IsMadeFor state.domain batch → RepresentsFrom first (state_after batch state) (books_after batch books)
