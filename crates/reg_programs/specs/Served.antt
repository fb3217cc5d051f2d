-- What the seats of a server's workers have seen, when the server has ended.
use Rattle.std.specs.Prelude.{◌≡◌, ◌<◌, ℕ, List, get_or, length}
use Rattle.entry_book.specs.Book.{Book}
use Rattle.entry_book.specs.Rows.{Bytes}
use Rattle.shared_registry.specs.OneList.{AreOneList}
use Rattle.shared_registry.specs.Seated.{Seated}
use Rattle.reg_programs.specs.Sessions.{Grew}

-- There are as many seats at the end as at the start, and each has grown from the one at its index at the start.
pub record EachGrew (first : List Book) (domain : Bytes) (start end : List Seated) : Type 0 where
  pub count : length end ≡ length start
  pub grew : (i : ℕ) (s t : Seated) → i < length start → Grew first domain (get_or start i s) (get_or end i t)

-- What any two of the seats have seen is one list: of the two journals one is a prefix of the other, with the same commit at each
-- index that both have.
abbrev pub HaveSeenOneList : List Seated → Type 0
HaveSeenOneList seats = (i j : ℕ) (s t : Seated) → i < length seats → j < length seats → AreOneList (get_or seats i s).seen (get_or seats j t).seen
