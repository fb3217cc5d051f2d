use Rattle.std.proofs.Common.{◌≡◌, ◌++◌, List, ℕ, take}
use Rattle.std.specs.Prelude.{IsTrue}
use Rattle.line_log.specs.Restarts.{lines_of_all}
use Rattle.line_log.specs.Log.{HasLines, IsSynced}
use Rattle.line_log.proofs.restart.append_all.Given as goal

abbrev pub invariant-loop-text : goal.invariant-loop-text
invariant-loop-text g l =
    record {
      usable : IsTrue (g.D.Disk.is_usable l.log.file.disk);
      clean : g.D.Disk.is_clean l.log.file.disk ≡ g.D.Disk.is_clean l.fn.log.file.disk;
      synced : IsTrue (g.D.Disk.is_clean l.log.file.disk) → IsSynced g.D.Disk.seen g.D.Disk.may_leave l.log.file;
      count : l.added ≡ l.text-index;
      lines : IsTrue (g.D.Disk.is_clean l.fn.log.file.disk) → (base : List (List ℕ)) → HasLines g.D.Disk.seen g.D.Disk.may_leave l.fn.log base
          → HasLines g.D.Disk.seen g.D.Disk.may_leave l.log (base ++ lines_of_all (take l.text-index l.texts));
    }
