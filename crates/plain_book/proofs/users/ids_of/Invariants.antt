use Rattle.std.proofs.Common.{◌≡◌, ◌++◌, drop, map}
use Rattle.entry_book.specs.Rows.{entry_key}
use Rattle.plain_book.proofs.users.ids_of.Given as goal

abbrev pub invariant-loop-entry : goal.invariant-loop-entry
invariant-loop-entry l = l.ids.items ++ map entry_key (drop l.entry-index l.entries) ≡ map entry_key l.entries
