-- A window: the last versions of one history, among which a batch finds the book that it runs on.
use Rattle.std.specs.Prelude.{◌≡◌, ⊤, ℕ, ◌+◌, ◌-◌, List, [], ◌∷◌, ◌++◌, map, filter, drop, length, nat_eq, nat_lt, slice_get, Option, None, if◌then◌else◌}
use Rattle.entry_book.specs.Book.{Book}
use Rattle.entry_book.specs.Order.{first}
use Rattle.entry_book.specs.History.{last_of}
use Rattle.version_book.specs.CommittedRows.{VersionState, book_of}

-- The newest version, and the older ones that are retained, oldest first.
pub record Window : Type 0 where
  pub older : List VersionState
  pub newest : VersionState

-- all versions of the window, oldest first
abbrev pub versions : Window → List VersionState
versions w = w.older ++ w.newest ∷ []

-- the version with this number, if the window has it
abbrev pub version_at : ℕ → Window → Option VersionState
version_at n w = first (filter (λ s. nat_eq s.number n) (versions w))

-- the version this many steps before the end of the list, if there is one
abbrev pub back_from : ℕ → List VersionState → Option VersionState
back_from n states = if nat_lt (length states) n then None else slice_get states (length states - n)

-- the last n of a list, or all of it if it has fewer
abbrev pub ending : {X : Type 0} → ℕ → List X → List X
ending n xs = drop (length xs - n) xs

-- the window after this version was pushed, with at most 63 older ones
abbrev pub pushed : VersionState → Window → Window
pushed s w = record { older = ending 63 (versions w); newest = s }

-- ---- versions of one history

-- the next version of the same trust domain
pub record IsNextVersion (s t : VersionState) : Type 0 where
  pub number : t.number ≡ s.number + 1
  pub domain : t.domain ≡ s.domain

-- the first of these versions, if there is one, is the next one after s
abbrev pub ComesNext : VersionState → List VersionState → Type 0
ComesNext s [] = ⊤
ComesNext s (t ∷ ts) = IsNextVersion s t

-- each version is the next one after the version before it
abbrev pub Counted : List VersionState → Type 0
Counted [] = ⊤
Counted (s ∷ ss) = ComesNext s ss × Counted ss

-- ---- in relation to the list of all books

-- the book of a version
abbrev pub book_in : VersionState → Book
book_in s = book_of s.rows

-- The window represents this list of all books: its versions have the last 64 of them, in order, and consecutive numbers.
pub record WindowRepresents (w : Window) (books : List Book) : Type 0 where
  pub count : length books ≡ w.newest.number + 1
  pub kept : map book_in (versions w) ≡ last_of 64 books
  pub counted : Counted (versions w)
