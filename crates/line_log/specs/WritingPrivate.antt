-- For this crate's own contracts: what is written, and when a write fails.
use Rattle.std.specs.Prelude.{◌⊎◌, ℕ, ◌^◌, ◌≤◌, List, length}
use Rattle.sqlite_disk.specs.Disk.{MoreFaults}
use Rattle.line_log.specs.Lines.{lines_in}
use Rattle.line_log.specs.declared.error.LogError.{LogError}
use Rattle.line_log.specs.declared.error.LogError.TheVariants.{Disk}

-- a call of the disk failed, which the disk has counted
abbrev pub IsDiskFault : ℕ → ℕ → LogError → Type 0
IsDiskFault old_faults new_faults (Disk e) = MoreFaults old_faults new_faults
IsDiskFault old_faults new_faults other = ⊥

-- a text that is short or one line
abbrev pub IsSmallText : List ℕ → Type 0
IsSmallText text = (length text ≤ 2 ^ 16) ⊎ (length (lines_in text) ≤ 1)
