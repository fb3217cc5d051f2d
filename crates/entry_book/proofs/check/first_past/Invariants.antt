use Rattle.std.proofs.Common.{◌≡◌, drop}
use Rattle.entry_book.specs.Batches.{first_past}
use Rattle.entry_book.proofs.check.first_past.Given as goal

abbrev pub invariant-loop-index : goal.invariant-loop-index
invariant-loop-index l = first_past l.index (drop l.index l.ops) ≡ first_past 0 l.ops
