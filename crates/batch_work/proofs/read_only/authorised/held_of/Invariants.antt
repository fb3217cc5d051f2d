use Rattle.std.proofs.Common.{◌≡◌, ◌++◌}
use Rattle.std.specs.Prelude.{filter}
use Rattle.std.specs.Vec.Iter.{into_iter_items}
use Rattle.entry_book.specs.Authorised.{holds}
use Rattle.batch_work.proofs.read_only.authorised.held_of.Given as goal

abbrev pub invariant-loop-entry : goal.invariant-loop-entry
invariant-loop-entry l = l.held.items ++ filter (holds l.server l.agent) (into_iter_items l.entry-iterator) ≡ filter (holds l.server l.agent) l.fn.entries.items
