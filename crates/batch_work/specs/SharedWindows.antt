-- How a window stores its older versions in two lists of slots, the first of which it shares with other windows. For this crate's own contracts.
use Rattle.std.specs.Prelude.{◌≡◌, ◌≤◌, List, [], ◌∷◌, ◌++◌, map, length, Option, Some}
use Rattle.version_book.specs.CommittedRows.{VersionState}
use Rattle.batch_work.specs.WindowSlots.{held}
use Rattle.batch_work.specs.Windows.{Counted, ending}

-- the last 63 of the versions that windows share and of a window's own
abbrev pub last_of_both : List VersionState → List VersionState → List VersionState
last_of_both shared recent = ending 63 (shared ++ recent)

-- No slot is empty, and both lists are short. Each version, up to the newest one, is the next after the one before it.
pub record IsShared (shared recent : List (Option VersionState)) (newest : VersionState) : Type 0 where
  pub all_shared : shared ≡ map Some (held shared)
  pub all_recent : recent ≡ map Some (held recent)
  pub few_shared : length shared ≤ 63
  pub few_recent : length recent ≤ 10
  pub counted : Counted (last_of_both (held shared) (held recent) ++ newest ∷ [])
