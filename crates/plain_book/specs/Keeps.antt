-- The invariant of the state of a plain book. For this crate's own contracts.
use Rattle.std.specs.Prelude.{◌*◌, ◌^◌, ◌≤◌, length}
use Rattle.std.specs.List.{AllByRecursion}
use Rattle.entry_book.specs.History.{PlainState, kept_books}
use Rattle.entry_book.specs.Lawful.{Lawful}

-- All stored books are lawful, with 64 times the place as the bound. At most 63 are older than the newest. The place is at most
-- 2^48.
pub record IsSound (state : PlainState) : Type 0 where
  pub lawful : AllByRecursion (Lawful state.domain (64 * state.place)) (kept_books state)
  pub few : length state.older ≤ 63
  pub room : state.place ≤ 2 ^ 48
