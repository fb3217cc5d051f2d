use Rattle.std.proofs.Common.{◌≡◌, sym, subst}
use Rattle.batch_work.specs.declared.status.Status.TheVariants as status
use Rattle.batch_work.specs.Working.{HasWrites, status_of}
use Rattle.batch_work.proofs.Statuses.{ready_writes}
use Rattle.batch_work.proofs.work.Work.changes.Goals as goal

pub returns : goal.returns
returns c = λ e.
    let i = c.self.inside in
    subst (λ w. HasWrites w i.progress.changes) c.self.view_is
    (ready_writes i.begun i.stage i.batch i.progress.marks.items i.progress.changes i.progress.replies.items c.self.invariant (subst (λ w. status_of w ≡ status.Ready) (sym c.self.view_is) e))
