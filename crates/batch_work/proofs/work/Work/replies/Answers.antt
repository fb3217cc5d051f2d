use Rattle.std.proofs.Common.{subst}
use Rattle.batch_work.specs.Working.{HasReplies}
use Rattle.batch_work.proofs.Statuses.{ready_replies}
use Rattle.batch_work.proofs.work.Work.replies.Goals as goal

pub returns-in-Ready-clause-replies : goal.returns-in-Ready-clause-replies
returns-in-Ready-clause-replies c =
    let i = c.self.inside in
    subst (λ w. HasReplies w c.in-Ready.all) c.self.view_is
    (ready_replies i.begun i.stage i.batch i.progress.marks.items i.progress.changes i.progress.replies.items c.in-Ready.all c.self.invariant c.in-Ready.is)
