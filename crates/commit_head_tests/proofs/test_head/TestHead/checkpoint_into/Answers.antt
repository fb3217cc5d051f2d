use Rattle.commit_head_tests.proofs.Waiting.{all_after_checkpoint}
use Rattle.commit_head_tests.proofs.test_head.TestHead.checkpoint_into.Goals as goal

pub invariant_of-self : goal.invariant_of-self
invariant_of-self c = all_after_checkpoint c.self.inside.works.items c.self.inside.head c.checkpoint_into.new.self c.checkpoint_into.ensures.window c.checkpoint_into.ensures.kept c.self.invariant
