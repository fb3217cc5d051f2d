-- What the engine `plain` replies, line by line.
use Rattle.std.specs.Prelude.{◌≡◌, ℕ, ◌+◌, List, [], ◌++◌, codes, Result, Ok, Err}
use Rattle.rand_chacha.specs.ChaCha.{ChaCha}
use Rattle.entry_book.specs.Book.{Book}
use Rattle.entry_book.specs.History.{books_after, first_books, reply_to}
use Rattle.line_reading.specs.Ids.{first_ids}
use Rattle.reg_lines.specs.Refusals.{fault_json, no_memory_json}
use Rattle.reg_lines.specs.Replies.{reply_json}
use Rattle.line_reading.specs.Requests.{spelled}
use Rattle.line_devices.specs.Stream.{InputState, OutputState}
use Rattle.line_reading.specs.declared.request.Request.{Request}
use Rattle.line_engines.specs.Driver.{RunsOver}
use Rattle.line_engines.specs.declared.fault.RunFault.{RunFault}
use Rattle.line_reading.specs.declared.fault.Fault.{Fault}

-- The state of a run: the list of all books, the ids that are left to draw, and the numbers of calls that were run and of lines
-- that were read.
pub record Running : Type 0 where
  pub books : List Book
  pub ids : ChaCha
  pub calls : ℕ
  pub lines : ℕ

-- before the first line: the books with which the history begins, and no id of the seed is drawn
abbrev pub plain_start_on : List Book → List ℕ → Running
plain_start_on first seed = record { books = first; ids = first_ids seed; calls = 0; lines = 0 }

-- the same with no book but the empty one
abbrev pub plain_start : List ℕ → Running
plain_start seed = plain_start_on first_books seed

-- after a line without a call
abbrev pub plain_skips : Running → Running
plain_skips now = record { books = now.books; ids = now.ids; calls = now.calls; lines = now.lines + 1 }

-- after a line whose batch was run and left these books and these ids
abbrev pub called : Running → List Book → ChaCha → Running
called now books ids = record { books = books; ids = ids; calls = now.calls + 1; lines = now.lines + 1 }

-- a JSON text as a line
abbrev pub as_line : List ℕ → List ℕ
as_line text = text ++ codes "\n"

-- The reply that a line may get in a run, and the state after it. A line that represents a batch draws the ids of its creates,
-- whatever the book replies; a refused line draws none. If memory runs out, the reply says so. The line then changes nothing,
-- except that a batch may have drawn its ids and taken a call number.
pub data Answers (domain : List ℕ) (now : Running) (line : List ℕ) (next : Running) (reply : List ℕ) : Type 0 where
  refused : (fault : Fault) → spelled domain now.ids line ≡ Err fault → next ≡ plain_skips now → reply ≡ as_line (fault_json (now.lines + 1) fault) → Answers domain now line next reply
  replied : (request : Request) (ids : ChaCha) → spelled domain now.ids line ≡ Ok (request, ids) → next ≡ called now (books_after request.batch now.books) ids → reply ≡ as_line (reply_json (now.calls + 1) (reply_to request.batch now.books)) → Answers domain now line next reply
  not_read : next ≡ plain_skips now → reply ≡ as_line (no_memory_json (now.lines + 1)) → Answers domain now line next reply
  not_run : (request : Request) (ids : ChaCha) → spelled domain now.ids line ≡ Ok (request, ids) → next ≡ called now now.books ids → reply ≡ as_line (no_memory_json (now.lines + 1)) → Answers domain now line next reply

-- no text follows the last reply
abbrev pub ClosesWithNothing : Running → List ℕ → Type 0
ClosesWithNothing last end = end ≡ []

-- the result of a run of the engine over an input and an output, on a book whose history begins with these books
abbrev pub RunsPlainOn : {T : Type 0} → List Book → List ℕ → List ℕ → InputState → InputState → OutputState → OutputState → Result T RunFault → Type 0
RunsPlainOn first domain seed input rest output out result = RunsOver (Answers domain) ClosesWithNothing ⊥ (plain_start_on first seed) input rest output out result

-- the same on a book that begins empty
abbrev pub RunsPlain : {T : Type 0} → List ℕ → List ℕ → InputState → InputState → OutputState → OutputState → Result T RunFault → Type 0
RunsPlain domain seed input rest output out result = RunsPlainOn first_books domain seed input rest output out result
