-- A session that sees no commits but its own: it writes what the engine `plain` writes.
use Rattle.std.specs.Prelude.{◌≡◌, ◌+◌, ◌≤◌, ◌++◌, ℕ, List, [], ◌∷◌, length}
use Rattle.std.specs.List.{AllByRecursion}
use Rattle.entry_book.specs.Book.{Book}
use Rattle.entry_book.specs.History.{books_from}
use Rattle.entry_book.specs.Rows.{Bytes}
use Rattle.commit_head.specs.Journals.{batches_of}
use Rattle.line_devices.specs.Lines.{most_lines}
use Rattle.line_devices.specs.Runs.{IsRun}
use Rattle.line_reading.specs.Ids.{first_ids}
use Rattle.reg_lines.specs.SeatLines.{seat_refusal_json}
use Rattle.reg_lines.specs.declared.printing.seats.SeatRefusal.TheVariants.{NoEntry as NotAdmitted}
use Rattle.shared_registry.specs.Seated.{Seated}
use Rattle.line_engines.specs.Answers.{Answers, Running, as_line, plain_start_on}
use Rattle.reg_programs.specs.Sessions.{AnswersRequest, Session, session_start}

-- The seat has made no call, and has seen nothing.
pub record IsNewSeat (s : Seated) : Type 0 where
  pub calls : s.calls ≡ 0
  pub seen : s.seen ≡ []
  pub own : s.own ≡ []

-- All commits that the seat has seen are its own.
abbrev pub SawItsOwn : Seated → Type 0
SawItsOwn s = AllByRecursion (λ item. item.seat ≡ s.number) s.seen

-- the state of `plain` with the books of what the seat has seen, and with the ids, calls and lines of the session
abbrev pub plain_state : List Book → Session → Running
plain_state first now = record { books = books_from first (batches_of now.seat.seen); ids = now.ids; calls = now.seat.calls; lines = now.lines }

-- The text is one that `plain`, started on the first books, may write for these lines, and its state is then that of the session. Or
-- a line was answered L8, which `plain` doesn't answer; then the text before it is one that `plain` may write for the lines before.
-- The program `plain` starts on the empty book, so this speaks of it only if that is what the first books are.
pub data RunsAsPlain (first : List Book) (domain seed : List ℕ) (lines : List (List ℕ)) (last : Session) (text : List ℕ) : Type 0 where
  as_plain : IsRun (Answers domain) (plain_start_on first seed) lines (plain_state first last) text → RunsAsPlain first domain seed lines last text
  not_admitted : (before : List (List ℕ)) (line : List ℕ) (after : List (List ℕ)) (mid : Session) (front rest : List ℕ) → lines ≡ before ++ line ∷ after → IsRun (Answers domain) (plain_start_on first seed) before (plain_state first mid) front → text ≡ front ++ (as_line (seat_refusal_json (mid.lines + 1) NotAdmitted) ++ rest) → RunsAsPlain first domain seed lines last text

-- A session through a new seat, with the ids of a seed, runs as `plain` with this seed, started on the first books, if all commits
-- that the seat has seen at the end are its own.
abbrev pub SessionsAloneArePlain : Type 0
SessionsAloneArePlain = (first : List Book) (domain : Bytes) (seed : List ℕ) (seat : Seated) (lines : List (List ℕ)) (last : Session) (text : List ℕ) → IsNewSeat seat → length lines ≤ most_lines
    → IsRun (AnswersRequest first domain) (session_start seat (first_ids seed)) lines last text → SawItsOwn last.seat → RunsAsPlain first domain seed lines last text
