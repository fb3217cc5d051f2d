use Rattle.std.proofs.Common.{◌≡◌, ◌++◌, drop}
use Rattle.std.specs.Prelude.{filter}
use Rattle.plain_book.specs.Found.{is_missing}
use Rattle.plain_book.proofs.worklist.push_missing.Given as goal

abbrev pub invariant-loop-entry : goal.invariant-loop-entry
invariant-loop-entry l = l.pending.items ++ filter (is_missing l.found) (drop l.entry-index l.entries) ≡ l.fn.pending.items ++ filter (is_missing l.found) l.entries
