-- The state that the engine `plain` stores, and the answer to one line in terms of it. For this crate's own contracts.
use Rattle.std.specs.Prelude.{◌≡◌, ◌⊎◌, ◌≤◌, ℕ, ◌+◌, List, refl}
use Rattle.rand_chacha.specs.ChaCha.{ChaCha}
use Rattle.entry_book.specs.Book.{Book}
use Rattle.entry_book.specs.History.{PlainState, RepresentsFrom, books_after, reply_to}
use Rattle.entry_book.specs.Batches.{Batch}
use Rattle.reg_lines.specs.Refusals.{no_memory_json}
use Rattle.reg_lines.specs.Replies.{reply_json}
use Rattle.line_devices.specs.Stream.{OutputState, Puts}
use Rattle.line_engines.specs.Answers.{Running, plain_skips, as_line, Answers, not_read}

-- One batch was answered: it was run, or refused for lack of memory. The book's state represents the resulting books.
abbrev pub AnswersBatch : List Book → List Book → Batch → ℕ → ℕ → OutputState → OutputState → PlainState → Type 0
AnswersBatch first books batch call line old new book = (RepresentsFrom first book (books_after batch books) × Puts old new (as_line (reply_json call (reply_to batch books)))) ⊎ (RepresentsFrom first book books × Puts old new (as_line (no_memory_json line)))

-- One line was answered: its reply was put, the book's state represents the resulting books, and these are the resulting ids and
-- number of calls.
abbrev pub AnswersLine : List Book → List ℕ → Running → List ℕ → OutputState → OutputState → PlainState → ChaCha → ℕ → Type 0
AnswersLine first domain now line old new book ids calls = (next : Running) × (reply : List ℕ) × Answers domain now line next reply × Puts old new reply × RepresentsFrom first book next.books × (next.ids ≡ ids) × (next.calls ≡ calls) × (next.lines ≡ now.lines + 1)

-- Each line has a reply in every state: at least the one for out of memory.
pub an_answer : (domain : List ℕ) (now : Running) (line : List ℕ) → (next : Running) × (reply : List ℕ) × Answers domain now line next reply
an_answer domain now line = (plain_skips now, as_line (no_memory_json (now.lines + 1)), not_read refl refl)

-- the state that the engine `plain` stores
pub record PlainKept : Type 0 where
  pub book : PlainState
  pub ids : ChaCha
  pub calls : ℕ

-- It represents this state of a run after this number of lines, whatever books its history begins with. There are no more calls than
-- lines.
abbrev pub PlainRepresents : PlainKept → ℕ → Running → Type 0
PlainRepresents kept lines now = ((first : List Book) × RepresentsFrom first kept.book now.books) × (now.ids ≡ kept.ids) × (now.calls ≡ kept.calls) × (now.lines ≡ lines) × (kept.calls ≤ lines)
