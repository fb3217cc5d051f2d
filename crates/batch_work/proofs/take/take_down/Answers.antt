use Rattle.std.proofs.Common.{ap, subst, ◌∙◌}
use Rattle.batch_work.specs.declared.stage.Found.TheVariants as found
use Rattle.batch_work.specs.WorkInvariants.{FoundInvariant, base_of}
use Rattle.batch_work.proofs.Taking.{none_kept, phase_next}
use Rattle.batch_work.proofs.take.take_down.Goals as goal

pub returns-in-Op-default-Continues-clause-holds_at_stage : goal.returns-in-Op-default-Continues-clause-holds_at_stage
returns-in-Op-default-Continues-clause-holds_at_stage c =
    phase_next c.args.batch.now c.args.begun.now c.requires.began c.args.progress.now.marks.items c.args.progress.now.changes c.args.progress.now.replies.items c.in-Op-default-Continues.index c.args.mark.now c.in-Op-default-Continues.phase
    (subst (λ f. FoundInvariant c.args.mark.now f c.args.batch.now (base_of c.args.begun.now) c.args.progress.now.marks.items c.args.progress.now.changes c.args.progress.now.replies.items) (c.in-Op-default-Continues.is ∙ ap (found.Op c.in-Op-default-Continues.index) c.in-Op-default-Continues.field-1-is) c.requires.holds_at_stage)

pub returns-in-Kept-None-clause-holds_at_stage : goal.returns-in-Kept-None-clause-holds_at_stage
returns-in-Kept-None-clause-holds_at_stage c =
    none_kept c.args.batch.now c.args.begun.now c.requires.began c.args.progress.now.marks.items c.args.progress.now.changes c.args.progress.now.replies.items c.args.mark.now
    (subst (λ f. FoundInvariant c.args.mark.now f c.args.batch.now (base_of c.args.begun.now) c.args.progress.now.marks.items c.args.progress.now.changes c.args.progress.now.replies.items) (c.in-Kept-None.is ∙ ap found.Kept c.in-Kept-None.field-0-is) c.requires.holds_at_stage)
