use Rattle.commit_head_tests.proofs.Waiting.{all_with}
use Rattle.commit_head_tests.proofs.test_head.TestHead.begin.Goals as goal

pub invariant_of-self-2 : goal.invariant_of-self-2
invariant_of-self-2 c = all_with c.self.inside.works.items c.push.new.self.items c.in_ok-work.work c.self.inside.head c.self.invariant c.in_ok-work.ensures c.in_ok-push.ensures.items
