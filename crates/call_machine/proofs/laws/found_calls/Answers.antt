use Rattle.call_machine.proofs.Whole.{calls_are_in_order, found_under_number}
use Rattle.call_machine.proofs.laws.found_calls.Goals as goal

pub returns-clause-number : goal.returns-clause-number
returns-clause-number c = found_under_number

pub returns-clause-in_order : goal.returns-clause-in_order
returns-clause-in_order c = calls_are_in_order
