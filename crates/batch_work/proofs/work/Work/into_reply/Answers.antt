use Rattle.std.proofs.Common.{ap, ◌∙◌}
use Rattle.batch_work.specs.Working.{status_of}
use Rattle.batch_work.proofs.Statuses.{unsettled}
use Rattle.batch_work.proofs.work.Work.into_reply.Goals as goal

pub returns-in_default : goal.returns-in_default
returns-in_default c =
    let i = c.self.inside in
    record {
      settled = (λ e. cc, λ e. absurd (unsettled i.begun i.stage i.batch i.progress.marks.items i.progress.changes i.progress.replies.items c.self.invariant c.in_default.not-Settled (ap status_of c.self.view_is ∙ e)));
      answer = tt;
    }
