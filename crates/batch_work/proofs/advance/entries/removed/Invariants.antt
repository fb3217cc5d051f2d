use Rattle.std.proofs.Common.{◌≡◌, ◌++◌, map, drop}
use Rattle.entry_book.specs.Ops.{removed}
use Rattle.batch_work.proofs.advance.entries.removed.Given as goal

abbrev pub invariant-loop-entry : goal.invariant-loop-entry
invariant-loop-entry l = l.changes ++ map removed (drop l.entry-index l.entries) ≡ map removed l.entries
