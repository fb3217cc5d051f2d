-- When a log refuses to add lines, and when adding them fails.
use Rattle.std.specs.Prelude.{◌≡◌, ◌⊎◌, ℕ, ◌+◌, ◌*◌, ◌^◌, ◌<◌, List, length, ⊤}
use Rattle.sqlite_disk.specs.Disk.{MoreFaults}
use Rattle.line_log.specs.Lines.{lines_in}
use Rattle.line_log.specs.declared.error.LogError.{LogError}
use Rattle.line_log.specs.declared.error.LogError.TheVariants.{NoMemory, Disk, TextTooLong, FileTooLong}

-- the length of lines with their hashes
abbrev pub size_in_file : List ℕ → ℕ
size_in_file text = length text + 33 * length (lines_in text)

-- The lines with their hashes are longer than one call may add: 64 KiB, or 8 MiB if it is one line.
abbrev pub IsTooLong : List ℕ → Type 0
IsTooLong text = (2 ^ 23 < size_in_file text) ⊎ ((2 ^ 16 < size_in_file text) × (1 < length (lines_in text)))

-- The call has written nothing: the log is as it was, and can be used.
abbrev pub LeavesLogUnchanged : LogError → Type 0
LeavesLogUnchanged NoMemory = ⊤
LeavesLogUnchanged TextTooLong = ⊤
LeavesLogUnchanged FileTooLong = ⊤
LeavesLogUnchanged other = ⊥

-- Memory ran out, a file of this length can't be longer, or a call of the disk failed, which the disk has counted.
abbrev pub IsWriteFault : ℕ → ℕ → ℕ → LogError → Type 0
IsWriteFault len old_faults new_faults NoMemory = ⊤
IsWriteFault len old_faults new_faults FileTooLong = 2 ^ 60 < len
IsWriteFault len old_faults new_faults (Disk e) = MoreFaults old_faults new_faults
IsWriteFault len old_faults new_faults other = ⊥

-- the same, or the text is too much
abbrev pub JustifiesRefusal : List ℕ → ℕ → ℕ → ℕ → LogError → Type 0
JustifiesRefusal text len old_faults new_faults TextTooLong = IsTooLong text
JustifiesRefusal text len old_faults new_faults other = IsWriteFault len old_faults new_faults other

-- If the error is one of the disk, a call of it failed, which the disk has counted.
abbrev pub DiskErrorIsCounted : ℕ → ℕ → LogError → Type 0
DiskErrorIsCounted old_faults new_faults (Disk e) = MoreFaults old_faults new_faults
DiskErrorIsCounted old_faults new_faults other = ⊤

-- Nothing was written before an error, if it isn't one of the disk.
abbrev pub LeavesFileUnchanged : LogError → Type 0
LeavesFileUnchanged (Disk e) = ⊥
LeavesFileUnchanged other = ⊤

-- the file is as it was, and a crash leaves nothing that it wouldn't have left before
pub record KeepsFile {D : Type 0} (seen : D → List ℕ) (may_leave : D → List ℕ → Type 0) (old new : D) : Type 0 where
  pub same : seen new ≡ seen old
  pub crash : (c : List ℕ) → may_leave new c → may_leave old c
