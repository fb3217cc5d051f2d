use Rattle.commit_head.specs.Heads.{BeganOn}
use Rattle.commit_head_tests.proofs.test_head.run_to_end.Given as goal

abbrev pub invariant-loop : goal.invariant-loop
invariant-loop l = BeganOn l.work.base l.head
