use Rattle.std.specs.Prelude.{IsTrue}
use Rattle.line_log.specs.Log.{IsSynced}
use Rattle.line_log_tests.proofs.crashes.add.Given as goal

abbrev pub invariant-texts : goal.invariant-texts
invariant-texts g l =
    record {
      usable : IsTrue (g.D.Disk.is_usable l.log.file.disk);
      synced : IsTrue (g.D.Disk.is_clean l.log.file.disk) → IsSynced g.D.Disk.seen g.D.Disk.may_leave l.log.file;
    }
