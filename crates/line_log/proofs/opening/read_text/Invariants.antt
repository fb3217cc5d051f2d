use Rattle.std.proofs.Common.{◌≡◌, [], ℕ, List}
use Rattle.std.specs.Prelude.{IsTrue}
use Rattle.line_log.specs.Lines.{text_of}
use Rattle.line_log.specs.Reading.{HasReadLines}
use Rattle.line_log.proofs.opening.read_text.Given as goal

abbrev pub invariant-lines : goal.invariant-lines
invariant-lines g l =
    record {
      usable : IsTrue (g.D.Disk.is_usable l.reader.disk);
      clean : IsTrue (g.D.Disk.is_clean l.reader.disk) → IsTrue (g.D.Disk.is_clean l.fn.reader.disk);
      seen : g.D.Disk.seen l.reader.disk ≡ g.D.Disk.seen l.fn.reader.disk;
      crash : (c : List ℕ) → g.D.Disk.may_leave l.reader.disk c → g.D.Disk.may_leave l.fn.reader.disk c;
      faults : g.D.Disk.faults l.reader.disk ≡ g.D.Disk.faults l.fn.reader.disk;
      read : IsTrue (g.D.Disk.is_clean l.reader.disk) → HasReadLines (g.D.Disk.seen l.fn.reader.disk) l.fn.reader [] → (lines : List (List ℕ)) × HasReadLines (g.D.Disk.seen l.fn.reader.disk) l.reader lines × (l.text.items ≡ text_of lines);
    }
