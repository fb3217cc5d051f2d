use Rattle.std.proofs.Common.{◌≡◌, drop, length}
use Rattle.entry_book.specs.SameOps.{ops_eq}
use Rattle.entry_book.proofs.same.is_same_ops.Given as goal

abbrev pub invariant-loop-index : goal.invariant-loop-index
invariant-loop-index l =
    (length l.ops ≡ length l.others) ×
    (ops_eq (drop l.index l.ops) (drop l.index l.others) ≡ ops_eq l.ops l.others)
