-- When a log is at rest.
use Rattle.std.specs.Prelude.{◌≡◌, ◌≢◌, Bool, IsTrue, ℕ, ◌+◌, ◌-◌, ◌<◌, ◌≤◌, List, length, slice_index}
use Rattle.sqlite_disk.specs.Disk.{Only}
use Rattle.sqlite_disk.specs.declared.Disk.{Ghosts}
use Rattle.line_log.specs.Lines.{lines_in, text_of, IsBetween}
use Rattle.line_log.specs.Tails.{tail_in, MayEnd}
use Rattle.line_log.specs.declared.file.LineFile.{LineFile}
use Rattle.line_log.specs.declared.log.LineLog.{LineLog}
use Rattle.line_log.specs.Hashes.{hashed}
use Rattle.sha2.specs.Hashers.{Holds256}

-- the file begins with the text of these lines, which is so long
pub record BeginsWith (file : List ℕ) (lines : List (List ℕ)) (end : ℕ) : Type 0 where
  pub end_is : end ≡ length (text_of lines)
  pub within : end ≤ length file
  pub text : (i : ℕ) → i < end → slice_index file i ≡ slice_index (text_of lines) i

-- no line begins behind the lines
abbrev pub IsShutAt : List ℕ → ℕ → Type 0
IsShutAt file end = end < length file → slice_index file end ≢ 123

-- the file has the text of its lines, which is so long, and then fillers (0x1E, RS)
pub record IsAtRest (file : List ℕ) (end : ℕ) : Type 0 where
  pub end_is : end ≡ length (text_of (lines_in file))
  pub text : (i : ℕ) → i < end → slice_index file i ≡ slice_index (text_of (lines_in file)) i
  pub filler : (i : ℕ) → end ≤ i → i < length file → slice_index file i ≡ 30

-- this number of bytes follow the lines of the file, and then fillers to its end
pub record IsCutOff (file : List ℕ) (cut : ℕ) : Type 0 where
  pub filler : (i : ℕ) → length (text_of (lines_in file)) + cut ≤ i → i < length file → slice_index file i ≡ 30
  pub last : 0 < cut → slice_index file (length (text_of (lines_in file)) + cut - 1) ≢ 30

-- the file has the old lines and the first k of the new ones, for some k, and it ends as a crash may leave it
pub record IsCrashed (mixes : Bool) (old new : List (List ℕ)) (file : List ℕ) : Type 0 where
  pub lines : IsBetween old new (lines_in file)
  pub end : MayEnd mixes (tail_in file)

-- what is relied on, if `mixes`: each disk of this type mixes torn writes
abbrev pub MixesIf : {D : Type 0} → (D → Bool) → Bool → Type 0
MixesIf {D} is_mixing mixes = IsTrue mixes → (disk : D) → IsTrue (is_mixing disk)

-- the file has the same lines, and still ends as a crash may leave it
pub record KeepsLines {D : Type 0} (is_mixing : D → Bool) (old file : List ℕ) : Type 0 where
  pub lines : lines_in file ≡ lines_in old
  pub end : (mixes : Bool) → MixesIf is_mixing mixes → MayEnd mixes (tail_in old) → MayEnd mixes (tail_in file)

-- the file is at rest, and all of it is on the disk
pub record IsSynced {D : Type 0} {d : Ghosts D} (seen : D → List ℕ) (may_leave : D → List ℕ → Type 0) (log : LineFile D d) : Type 0 where
  pub rest : IsAtRest (seen log.disk) log.end
  pub len : log.len ≡ length (seen log.disk)
  pub durable : Only (seen log.disk) (may_leave log.disk)

-- the log has these lines: its file is at rest and has them with their hashes, and its hasher holds their text
pub record HasLines {D : Type 0} {d : Ghosts D} (seen : D → List ℕ) (may_leave : D → List ℕ → Type 0) (log : LineLog D d) (lines : List (List ℕ)) : Type 0 where
  pub synced : IsSynced seen may_leave log.file
  pub same : lines_in (seen log.file.disk) ≡ hashed lines
  pub text : Holds256 log.hasher (text_of lines)
