use Rattle.std.proofs.Common.{ap, ◌∙◌}
use Rattle.batch_work.specs.WalkStates.{with_text}
use Rattle.batch_work.proofs.Ranks.{put_missing}
use Rattle.batch_work.proofs.read_only.walk.put_met.Goals as goal

pub returns-else-branch-clause-met : goal.returns-else-branch-clause-met
returns-else-branch-clause-met c =
    c.in_ok-put.ensures.put
    ∙ (ap (λ i. with_text i c.args.met.now.items) c.of.ensures
    ∙ put_missing c.args.identity.now c.args.met.now.items c.requires.met_order)
