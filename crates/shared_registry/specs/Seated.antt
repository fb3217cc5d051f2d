-- The model of a seat in contracts.
use Rattle.std.specs.Prelude.{◌≡◌, ℕ, ◌+◌, List}
use mathlib.Core.List.{IsPrefix}
use Rattle.entry_book.specs.Book.{Book}
use Rattle.entry_book.specs.Rows.{Bytes}
use Rattle.commit_head.specs.declared.item.Item.{Item}
use Rattle.commit_head.specs.Journals.{IsLawfulJournal}
use Rattle.shared_registry.specs.SeatCalls.{AllBelow, calls_of}

-- A seat: its number and the number of its calls; the journal that it has seen, and the longest one that it has learnt of; the
-- numbers of its own committed calls; and the journal of its snapshot.
pub record Seated : Type 0 where
  pub number : ℕ
  pub calls : ℕ
  pub seen : List Item
  pub learnt : List Item
  pub own : List ℕ
  pub found : List Item

-- A call that takes a call number: the number is above those of the seat's own calls so far. What is seen is then a lawful
-- journal of a history that begins with the first books, and begins with what was seen before. Its items of this seat are the
-- seat's own calls. `learnt` stays the same.
pub record AfterCall (first : List Book) (domain : Bytes) (s t : Seated) : Type 0 where
  pub number : t.number ≡ s.number
  pub calls : t.calls ≡ s.calls + 1
  pub fresh : AllBelow t.calls s.own
  pub lawful : IsLawfulJournal first domain t.seen
  pub seen : IsPrefix s.seen t.seen
  pub learnt : t.learnt ≡ s.learnt
  pub own : calls_of t.number t.seen ≡ t.own

-- and the seat has then seen all that it had learnt of
pub record CaughtUp (first : List Book) (domain : Bytes) (s t : Seated) : Type 0 where
  pub after_call : AfterCall first domain s t
  pub seen_learnt : IsPrefix s.learnt t.seen

-- and the seat has seen nothing more
pub record SawNothingNew (first : List Book) (domain : Bytes) (s t : Seated) : Type 0 where
  pub after_call : AfterCall first domain s t
  pub same : t.seen ≡ s.seen

-- The seat may see what it found: a lawful journal that begins with all that the seat has seen and learnt of. The items of this
-- seat in it are the seat's own calls.
pub record MaySeeFound (first : List Book) (domain : Bytes) (s : Seated) : Type 0 where
  pub lawful : IsLawfulJournal first domain s.found
  pub seen : IsPrefix s.seen s.found
  pub learnt : IsPrefix s.learnt s.found
  pub own : calls_of s.number s.found ≡ s.own

-- Inside a call: the seat's number, its number of calls and `learnt` stay the same, and what it has seen grows.
pub record DuringCall (s t : Seated) : Type 0 where
  pub number : t.number ≡ s.number
  pub calls : t.calls ≡ s.calls
  pub learnt : t.learnt ≡ s.learnt
  pub seen : IsPrefix s.seen t.seen
