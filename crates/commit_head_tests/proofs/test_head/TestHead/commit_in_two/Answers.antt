use Rattle.commit_head_tests.proofs.Waiting.{all_after_commit}
use Rattle.commit_head_tests.proofs.test_head.TestHead.commit_in_two.Goals as goal

pub invariant_of-self : goal.invariant_of-self
invariant_of-self c = all_after_commit c.self.inside.works.items c.self.inside.head c.commit_in_two-done.new.head c.args.seat c.args.call c.in_ok-work.work c.commit_in_two-done.result.0 c.commit_in_two-done.ensures c.self.invariant
