-- When a reader may call a file damaged. A file that has its lines with their hashes, and ends as a crash may leave it, is never called
-- so (`specs/Laws`).
use Rattle.std.specs.Prelude.{◌≡◌, ◌≢◌, ◌⊎◌, ℕ, ◌<◌, ◌^◌, Bool, List, ◌∷◌, ◌++◌, length, take, drop, ⊤}
use Rattle.line_log.specs.Lines.{lines_in, text_of, IsLineFront}
use Rattle.line_log.specs.Hashes.{hashed_line, hashed}
use Rattle.line_log.specs.Tails.{tail_in, MayEnd}
use Rattle.line_log.specs.declared.error.LogError.{LogError}
use Rattle.line_log.specs.declared.error.LogError.TheVariants.{NoMemory, Disk, Damaged, LineTooLong, FileTooLong, Unread}

-- behind these lines the file has a line with another hash than its text has
pub record HasWrongLine (file : List ℕ) (lines : List (List ℕ)) : Type 0 where
  pub found : List ℕ
  pub rest : List (List ℕ)
  pub follows : lines_in file ≡ hashed lines ++ found ∷ rest
  pub wrong : (line : List ℕ) → found ≢ hashed_line (text_of lines) line

-- the file has these lines and no more, and no crash leaves what follows them
pub record HasWrongEnd (mixes : Bool) (file : List ℕ) (lines : List (List ℕ)) : Type 0 where
  pub all : lines_in file ≡ hashed lines
  pub wrong : MayEnd mixes (tail_in file) → ⊥

-- the bytes begin a line, and don't end it within 8 MiB
abbrev pub IsLongLine : List ℕ → Type 0
IsLongLine bytes = (2 ^ 23 < length bytes) × IsLineFront (take (2 ^ 23) bytes)

-- The next line of the file, behind these, is damaged or too long, and the error says how many these are; or the error is of the disk or
-- of memory.
abbrev pub JustifiesError : Bool → List ℕ → List (List ℕ) → LogError → Type 0
JustifiesError mixes file lines (Damaged n) = (n ≡ length lines) × (HasWrongLine file lines ⊎ HasWrongEnd mixes file lines)
JustifiesError mixes file lines (LineTooLong n) = (n ≡ length lines) × IsLongLine (drop (length (text_of (hashed lines))) file)
JustifiesError mixes file lines NoMemory = ⊤
JustifiesError mixes file lines (Disk e) = ⊤
JustifiesError mixes file lines other = ⊥

-- The log can't be opened: the file is longer than 2^60 bytes, behind these lines a line follows, or as above.
abbrev pub JustifiesFinish : Bool → List ℕ → List (List ℕ) → LogError → Type 0
JustifiesFinish mixes file lines FileTooLong = 2 ^ 60 < length file
JustifiesFinish mixes file lines Unread = (found : List ℕ) × (rest : List (List ℕ)) × (lines_in file ≡ hashed lines ++ found ∷ rest)
JustifiesFinish mixes file lines other = JustifiesError mixes file lines other

-- the error is of the disk or of memory
abbrev pub IsOutside : LogError → Type 0
IsOutside NoMemory = ⊤
IsOutside (Disk e) = ⊤
IsOutside other = ⊥
