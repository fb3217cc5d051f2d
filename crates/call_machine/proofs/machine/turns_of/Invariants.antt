use Rattle.std.proofs.Common.{◌≡◌}
use Rattle.std.specs.Prelude.{map, filter}
use Rattle.std.specs.Map.Iter.{deref_pair}
use Rattle.call_machine.specs.Kept.{is_listed_entry, turn_of_entry}
use Rattle.call_machine.proofs.machine.turns_of.Given as goal

abbrev pub invariant-loop-number : goal.invariant-loop-number
invariant-loop-number l = l.turns.items ≡ map turn_of_entry (filter is_listed_entry (map deref_pair l.yielded))
