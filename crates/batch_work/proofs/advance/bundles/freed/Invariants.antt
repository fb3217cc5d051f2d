use Rattle.std.proofs.Common.{◌≡◌, ◌++◌, map, drop}
use Rattle.entry_book.specs.Ops.{freed}
use Rattle.batch_work.proofs.advance.bundles.freed.Given as goal

abbrev pub invariant-loop-entry : goal.invariant-loop-entry
invariant-loop-entry l = l.changes ++ map (freed l.domain) (drop l.entry-index l.entries) ≡ map (freed l.domain) l.entries
