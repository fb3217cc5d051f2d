-- For this crate's own contracts: what bytes of a log begin with.
use Rattle.std.specs.Prelude.{◌≡◌, ◌≢◌, ◌⊎◌, ℕ, ◌+◌, ◌<◌, Bool, false, List, [], ◌∷◌, length, take, drop, slice_index, ⊤}
use Rattle.line_log.specs.Damage.{IsLongLine}
use Rattle.line_log.specs.declared.error.LogError.{LogError}
use Rattle.line_log.specs.declared.error.LogError.TheVariants.{NoMemory, Disk, LineTooLong, Damaged, Unread}
use Rattle.sqlite_disk.specs.declared.Disk.{Ghosts}
use Rattle.line_log.specs.Lines.{lines_in, IsLogLine, IsLineFront}
use Rattle.line_log.specs.Tails.{tail_in, MayEnd}
use Rattle.line_log.specs.Reading.{held_by}
use Rattle.line_log.specs.declared.reader.LogReader.{LogReader}
use Rattle.line_log.specs.declared.first_line.FirstLine.{FirstLine}
use Rattle.line_log.specs.declared.first_line.FirstLine.TheVariants.{Whole, Part, Broken}

-- behind this beginning of a line, this byte neither continues it nor ends it
abbrev pub IsBreak : List ℕ → ℕ → Type 0
IsBreak [] b = b ≢ 123
IsBreak (x ∷ part) b = (b ≢ 10) × (b < 32)

-- a whole line of this length, a beginning and no more, or a beginning of this length and a byte that breaks it
abbrev pub BeginsAs : List ℕ → FirstLine → Type 0
BeginsAs bytes (Whole n) = (n < length bytes) × IsLogLine (take n bytes) × (slice_index bytes n ≡ 10)
BeginsAs bytes Part = IsLineFront bytes
BeginsAs bytes (Broken n) = (n < length bytes) × IsLineFront (take n bytes) × IsBreak (take n bytes) (slice_index bytes n)

-- The unread bytes in memory begin so, and if that is a prefix of a line and no more, nothing follows them in the file.
pub record Tells {D : Type 0} {d : Ghosts D} (reader : LogReader D d) (found : FirstLine) : Type 0 where
  pub begins : BeginsAs (held_by reader) found
  pub whole : found ≡ Part → reader.at + length (held_by reader) ≡ reader.len

-- A crash may have left this byte behind the front of a line, where this number of bytes of the file were not read: a filler, or in the place of
-- the line's first byte any.
abbrev pub IsTornAt : Bool → ℕ → ℕ → ℕ → Type 0
IsTornAt mixes front left byte = (byte ≡ 30) ⊎ ((front ≡ 0) × ((mixes ≡ false) ⊎ (left ≡ 1)))

-- the next line is too long, and the error says how many were read, or the error is of the disk or of memory
abbrev pub IsLookFault : {D : Type 0} {d : Ghosts D} → List ℕ → LogReader D d → LogError → Type 0
IsLookFault file reader (LineTooLong n) = (n ≡ reader.count) × IsLongLine (drop reader.at file)
IsLookFault file reader NoMemory = ⊤
IsLookFault file reader (Disk e) = ⊤
IsLookFault file reader other = ⊥

-- no whole line follows, and the bytes are an end that a crash may leave
pub record IsEnd (mixes : Bool) (bytes : List ℕ) : Type 0 where
  pub none : lines_in bytes ≡ []
  pub end : MayEnd mixes (tail_in bytes)

-- the same, or no whole line follows, the bytes are no end that a crash leaves, and the error says how many lines were read
abbrev pub IsNextFault : {D : Type 0} {d : Ghosts D} → Bool → List ℕ → LogReader D d → LogError → Type 0
IsNextFault mixes file reader (Damaged n) = (n ≡ reader.count) × (lines_in (drop reader.at file) ≡ []) × (MayEnd mixes (tail_in (drop reader.at file)) → ⊥)
IsNextFault mixes file reader other = IsLookFault file reader other

-- the same, or a whole line follows
abbrev pub IsPastFault : {D : Type 0} {d : Ghosts D} → Bool → List ℕ → LogReader D d → LogError → Type 0
IsPastFault mixes file reader Unread = (found : List ℕ) × (rest : List (List ℕ)) × (lines_in (drop reader.at file) ≡ found ∷ rest)
IsPastFault mixes file reader other = IsNextFault mixes file reader other
