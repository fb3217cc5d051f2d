-- The conditions under which writes may be applied to a version.
use Rattle.std.specs.Prelude.{◌≡◌, ℕ, ◌+◌, ◌*◌, List}
use Rattle.entry_book.specs.Lawful.{Lawful}
use Rattle.entry_book.specs.Writes.{RowWrite, FitAll, after}
use Rattle.version_book.specs.CommittedRows.{VersionState, book_of}
use Rattle.version_book.specs.Room.{RoomAll}

-- These writes may be applied to the version, as the commit of this number.
pub record MayApply (writes : List RowWrite) (number : ℕ) (s : VersionState) : Type 0 where
  -- the number is one more than the version's
  pub next : number ≡ s.number + 1
  -- each write in turn finds the row that it names as old, or no row if it names none, and its new row has its key
  pub fits : FitAll writes (book_of s.rows)
  -- the book after the writes is lawful, as book `number` of a history
  pub lawful : Lawful s.domain (64 * number) (after writes (book_of s.rows))
  -- there is room for each row that they write
  pub room : RoomAll writes (book_of s.rows)
