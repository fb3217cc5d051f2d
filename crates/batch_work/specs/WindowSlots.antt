-- How a window stores its older versions: in slots, each of which has one. For this crate's own contracts.
use Rattle.std.specs.Prelude.{◌≡◌, ◌≤◌, List, [], ◌∷◌, ◌++◌, map, length, Option, Some, None}
use Rattle.version_book.specs.CommittedRows.{VersionState}
use Rattle.batch_work.specs.Windows.{Counted}

-- the versions in these slots
abbrev pub held : List (Option VersionState) → List VersionState
held [] = []
held (None ∷ slots) = held slots
held (Some s ∷ slots) = s ∷ held slots

-- No slot is empty, and there are at most 63 of them. Each version, up to the newest one, is the next after the one before it.
pub record AreKept (slots : List (Option VersionState)) (newest : VersionState) : Type 0 where
  pub all : slots ≡ map Some (held slots)
  pub few : length slots ≤ 63
  pub counted : Counted (held slots ++ newest ∷ [])
