use Rattle.std.proofs.Common.{◌≡◌, ◌-◌, ◌≤◌, ℕ, List}
use Rattle.std.specs.Prelude.{IsTrue}
use Rattle.line_log.specs.TornRestPrivate.{HasEnd, HasLineEnd}
use Rattle.line_log.proofs.torn_rest.used_from.Given as goal

abbrev pub invariant-rest : goal.invariant-rest
invariant-rest g l = record {
  usable : IsTrue (g.D.Disk.is_usable l.disk);
  clean : IsTrue (g.D.Disk.is_clean l.disk) → IsTrue (g.D.Disk.is_clean l.fn.disk);
  seen : g.D.Disk.seen l.disk ≡ g.D.Disk.seen l.fn.disk;
  crash : (left : List ℕ) → g.D.Disk.may_leave l.disk left → g.D.Disk.may_leave l.fn.disk left;
  faults : g.D.Disk.faults l.disk ≡ g.D.Disk.faults l.fn.disk;
  within : l.at ≤ l.len;
  end : IsTrue (g.D.Disk.is_clean l.disk) → HasEnd (g.D.Disk.seen l.fn.disk) l.from l.at l.end;
  line : IsTrue (g.D.Disk.is_clean l.disk) → HasLineEnd (g.D.Disk.seen l.fn.disk) l.from l.at l.len l.line;
}

abbrev pub decreases-rest : goal.decreases-rest
decreases-rest g l = l.len - l.at
