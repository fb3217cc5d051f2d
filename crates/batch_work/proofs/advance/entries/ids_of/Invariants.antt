use Rattle.std.proofs.Common.{◌≡◌, ◌++◌, map, drop}
use Rattle.entry_book.specs.Rows.{entry_key}
use Rattle.batch_work.proofs.advance.entries.ids_of.Given as goal

abbrev pub invariant-loop-entry : goal.invariant-loop-entry
invariant-loop-entry l = l.ids.items ++ map entry_key (drop l.entry-index l.entries) ≡ map entry_key l.entries
