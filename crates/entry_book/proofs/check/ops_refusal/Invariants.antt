use Rattle.std.proofs.Common.{◌≡◌, drop}
use Rattle.entry_book.specs.Batches.{ops_refusal}
use Rattle.entry_book.proofs.check.ops_refusal.Given as goal

abbrev pub invariant-loop-index : goal.invariant-loop-index
invariant-loop-index l = ops_refusal l.domain l.index (drop l.index l.ops) l.later ≡ ops_refusal l.domain 0 l.ops l.later
