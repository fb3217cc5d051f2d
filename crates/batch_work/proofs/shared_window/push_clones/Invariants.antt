use Rattle.std.proofs.Common.{◌≡◌, ◌++◌, drop}
use Rattle.batch_work.proofs.shared_window.push_clones.Given as goal

abbrev pub invariant-loop-slot : goal.invariant-loop-slot
invariant-loop-slot l = l.all.items ++ drop l.slot-index l.more ≡ l.fn.all.items ++ l.more
