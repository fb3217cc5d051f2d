use Rattle.std.proofs.Common.{◌≡◌}
use Rattle.std.specs.Vec.Iter.{into_iter_items}
use Rattle.batch_work.specs.WalkStates.{walked}
use Rattle.batch_work.proofs.read_only.walk.BorrowedWalk.continues.Given as goal

abbrev pub invariant-loop-entry : goal.invariant-loop-entry
invariant-loop-entry l = walked (into_iter_items l.entry-iterator) l.self ≡ walked l.fn.entries.items l.fn.self
