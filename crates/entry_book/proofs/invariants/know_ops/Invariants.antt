use Rattle.std.proofs.Common.{drop}
use Rattle.std.specs.List.{AllByRecursion}
use Rattle.entry_book.specs.Batches.{IsProperOp}
use Rattle.entry_book.proofs.invariants.know_ops.Given as goal

abbrev pub invariant-loop-op : goal.invariant-loop-op
invariant-loop-op l = AllByRecursion IsProperOp (drop l.op-index l.ops) → AllByRecursion IsProperOp l.ops
