use Rattle.commit_head_tests.proofs.Waiting.{all_after_commit}
use Rattle.commit_head_tests.proofs.test_head.TestHead.commit.Goals as goal

pub invariant_of-self : goal.invariant_of-self
invariant_of-self c = all_after_commit c.self.inside.works.items c.self.inside.head c.commit-commit.new.self c.args.seat c.args.call c.in_ok-work.work c.commit-commit.result c.commit-commit.ensures c.self.invariant
