use Rattle.std.proofs.Common.{◌≡◌, take}
use Rattle.std.specs.Prelude.{map}
use Rattle.call_machine.specs.Laws.{number_of_turn}
use Rattle.call_machine.proofs.machine.numbers_of.Given as goal

abbrev pub invariant-loop-number : goal.invariant-loop-number
invariant-loop-number l = l.numbers.items ≡ map number_of_turn (take l.number-index l.turns)
