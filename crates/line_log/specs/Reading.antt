-- What a reader of a log has read of its file.
use Rattle.std.specs.Prelude.{◌≡◌, ℕ, ◌+◌, ◌<◌, List, ◌++◌, length, drop, slice_index}
use Rattle.sqlite_disk.specs.declared.Disk.{Ghosts}
use Rattle.sha2.specs.Hashers.{Holds256}
use Rattle.line_log.specs.Lines.{lines_in, text_of}
use Rattle.line_log.specs.Hashes.{hashed}
use Rattle.line_log.specs.Tails.{tail_in}
use Rattle.line_log.specs.declared.reader.LogReader.{LogReader}

-- the bytes of the file that are in memory and were not read
abbrev pub held_by : {D : Type 0} {d : Ghosts D} → LogReader D d → List ℕ
held_by reader = drop reader.from reader.block.items

-- The reader holds a part of its file: that from the first byte on that was not read.
pub record IsPartOf {D : Type 0} {d : Ghosts D} (file : List ℕ) (reader : LogReader D d) : Type 0 where
  pub len : reader.len ≡ length file
  pub each : (i : ℕ) → i < length (held_by reader) → slice_index file (reader.at + i) ≡ slice_index (held_by reader) i

-- The reader has read these lines from the front of its file, each with its hash.
pub record HasReadLines {D : Type 0} {d : Ghosts D} (file : List ℕ) (reader : LogReader D d) (lines : List (List ℕ)) : Type 0 where
  pub part : IsPartOf file reader
  pub count : reader.count ≡ length lines
  pub at : reader.at ≡ length (text_of (hashed lines))
  pub read : lines_in file ≡ hashed lines ++ lines_in (drop reader.at file)
  pub tail : tail_in file ≡ tail_in (drop reader.at file)
  pub text : Holds256 reader.hasher (text_of lines)
