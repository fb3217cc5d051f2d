use Rattle.std.proofs.Common.{◌-◌, ◌≡◌, ◌+◌, ◌<◌, ◌≤◌, true, false, length, take, drop}
use Rattle.version_shelf.specs.Nodes.{last_passes, first_passes}
use Rattle.version_shelf.proofs.Ends.{Finds}
use Rattle.version_shelf.proofs.search.position.Given as goal

-- the index is between from and until; the remaining comparisons, with those made, are at most 9
abbrev pub invariant-loop-from : goal.invariant-loop-from
invariant-loop-from g l = record {
  inside : (l.from ≤ l.until) × (l.until ≤ length l.parts);
  before : 0 < l.from → last_passes (g.T.Sought.below (g.B.Bound.position l.bound)) (take l.from l.parts) ≡ true;
  behind : first_passes (g.T.Sought.below (g.B.Bound.position l.bound)) (drop l.until l.parts) ≡ false;
  counted : l.initial.count ≤ l.count;
  finds : Finds (l.until - l.from) l.count (l.initial.count + 9);
}

abbrev pub decreases-loop-from : goal.decreases-loop-from
decreases-loop-from g l = l.until - l.from
