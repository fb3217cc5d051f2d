-- The theorems of this crate about its definitions. `src/laws.rt` states them.
use Rattle.std.specs.Prelude.{◌≡◌, ℕ, ◌<◌, ◌^◌, Bool, List, ◌++◌, length}
use Rattle.std.specs.List.{AllByRecursion}
use Rattle.line_log.specs.Lines.{lines_in}
use Rattle.line_log.specs.Hashes.{hashed}
use Rattle.line_log.specs.Tails.{tail_in, MayEnd}
use Rattle.line_log.specs.Damage.{JustifiesError}
use Rattle.line_log.specs.declared.error.LogError.TheVariants.{Damaged, LineTooLong}

-- A file that has lines with their hashes, and ends as a crash may leave it, is never called damaged, however many of its lines were
-- read.
abbrev pub NeverDamaged : Type 0
NeverDamaged = (mixes : Bool) (file : List ℕ) (all lines : List (List ℕ)) (n : ℕ) → lines_in file ≡ hashed all → MayEnd mixes (tail_in file) → JustifiesError mixes file lines (Damaged n) → ⊥

-- A file that has lines with their hashes, those behind the ones that were read with less than 8 MiB each, and ends as a crash may leave
-- it, is never said to have a line that is too long.
abbrev pub NeverTooLong : Type 0
NeverTooLong = (mixes : Bool) (file : List ℕ) (lines more : List (List ℕ)) (n : ℕ) → lines_in file ≡ hashed lines ++ more → AllByRecursion (λ line. length line < 2 ^ 23) more → MayEnd mixes (tail_in file)
    → JustifiesError mixes file lines (LineTooLong n) → ⊥

-- a file has one list of lines
abbrev pub OneListOfLines : Type 0
OneListOfLines = (file : List ℕ) (lines others : List (List ℕ)) → lines_in file ≡ hashed lines → lines_in file ≡ hashed others → lines ≡ others
