use Rattle.std.proofs.Common.{◌≡◌, drop}
use Rattle.batch_work.specs.Steps.{similar_in}
use Rattle.batch_work.proofs.rows.similar_in.Given as goal

abbrev pub invariant-loop-entry : goal.invariant-loop-entry
invariant-loop-entry l = similar_in l.new (drop l.entry-index l.entries) ≡ similar_in l.new l.entries
