use Rattle.std.proofs.Common.{◌≡◌, ◌++◌, drop}
use Rattle.std.specs.Prelude.{filter}
use Rattle.entry_book.specs.Authorised.{holds}
use Rattle.batch_work.proofs.rows.held_among.Given as goal

abbrev pub invariant-loop-entry : goal.invariant-loop-entry
invariant-loop-entry l = l.found.items ++ filter (holds l.server l.agent) (drop l.entry-index l.entries) ≡ filter (holds l.server l.agent) l.entries
