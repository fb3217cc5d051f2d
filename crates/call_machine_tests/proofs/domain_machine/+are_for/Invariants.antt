use Rattle.std.proofs.Common.{length}
use Rattle.call_machine_tests.proofs.domain_machine.+are_for.Given as goal

abbrev pub decreases-are_for : goal.decreases-are_for
decreases-are_for l = length l.events.now
