-- What a session's parts answer, before it is printed. For this crate's own contracts.
use Rattle.std.specs.Prelude.{◌≡◌, ◌⊎◌, ⊤, ℕ, ◌+◌, true, List, refl}
use Rattle.rand_chacha.specs.ChaCha.{ChaCha}
use Rattle.entry_book.specs.Batches.{Batch, is_query}
use Rattle.entry_book.specs.Book.{Book}
use Rattle.entry_book.specs.History.{books_from, reply_to}
use Rattle.entry_book.specs.Rows.{Bytes}
use Rattle.commit_head.specs.Journals.{batches_of}
use Rattle.reg_lines.specs.Refusals.{no_memory_json, refusal_json}
use Rattle.reg_lines.specs.Replies.{answer_json, reply_json}
use Rattle.reg_lines.specs.SeatLines.{seat_refusal_json}
use Rattle.shared_registry.specs.Seated.{MaySeeFound, Seated}
use Rattle.line_engines.specs.Answers.{as_line}
use Rattle.reg_programs.specs.declared.session_engine.Taken.{Taken}
use Rattle.reg_programs.specs.declared.session_engine.Taken.TheVariants.{Answered, Query, NotAnswered, NotRead}
use Rattle.reg_programs.specs.Sessions.{Session, session_skips, AnswersRequest, not_read}

-- Each line has a reply in every state: at least the one for out of memory.
pub a_request_answer : (first : List Book) (domain : Bytes) (now : Session) (line : List ℕ) → (next : Session) × (reply : List ℕ) × AnswersRequest first domain now line next reply
a_request_answer first domain now line = (session_skips now, as_line (no_memory_json (now.lines + 1)), not_read refl refl)

-- the state that a session stores
pub record SessionKept : Type 0 where
  pub seat : Seated
  pub ids : ChaCha

-- it represents this state of a session after this number of lines
abbrev pub SessionRepresents : SessionKept → ℕ → Session → Type 0
SessionRepresents kept lines now = now ≡ record { seat = kept.seat; ids = kept.ids; lines = lines }

-- The line has its answer already, which is printed as this text. A query has none before the seat answers it.
abbrev pub HasText : Taken → List ℕ → Type 0
HasText (Answered call answer) text = text ≡ answer_json call answer
HasText (Query line batch) text = ⊥
HasText (NotAnswered r) text = text ≡ seat_refusal_json r.line r.refusal
HasText (NotRead r) text = text ≡ refusal_json r

-- A query is left for the seat to answer, which has just looked at the published state.
abbrev pub IsToAnswer : List Book → Bytes → Seated → Taken → Type 0
IsToAnswer first domain seat (Answered call answer) = ⊤
IsToAnswer first domain seat (NotAnswered r) = ⊤
IsToAnswer first domain seat (NotRead r) = ⊤
IsToAnswer first domain seat (Query line batch) = MaySeeFound first domain seat × (is_query batch.ops ≡ true) × (batch.domain ≡ domain)

-- the reply to a query on the journal that the seat found, with the number of its call
abbrev pub found_json : List Book → Seated → Batch → List ℕ
found_json first seat batch = reply_json seat.calls (reply_to batch (books_from first (batches_of seat.found)))

-- The printed reply to a line, and the seat after it: the answer that the line has; or the reply to a query on the journal that
-- the seat found, which it has then seen; or that memory ran out for that reply.
abbrev pub IsPrinted : List Book → Seated → Taken → Seated → List ℕ → Type 0
IsPrinted first s (Answered call answer) t text = (t ≡ s) × HasText (Answered call answer) text
IsPrinted first s (NotAnswered r) t text = (t ≡ s) × HasText (NotAnswered r) text
IsPrinted first s (NotRead r) t text = (t ≡ s) × HasText (NotRead r) text
IsPrinted first s (Query line batch) t text = ((t ≡ record s { seen = s.found }) × (text ≡ found_json first s batch)) ⊎ ((t ≡ s) × (text ≡ no_memory_json line))

-- One line was answered: its reply has this text, and it left this seat and these ids.
pub record TakesRequestLine (first : List Book) (domain : Bytes) (now : Session) (line : List ℕ) (text : List ℕ) (seat : Seated) (ids : ChaCha) : Type 0 where
  pub next : Session
  pub answers : AnswersRequest first domain now line next (as_line text)
  pub seat_is : next.seat ≡ seat
  pub ids_is : next.ids ≡ ids
  pub lines_is : next.lines ≡ now.lines + 1
