use Rattle.std.proofs.Common.{◌∙◌, Some, ap, subst}
use Rattle.entry_book.specs.declared.reply.CallAnswer.TheVariants as gave
use Rattle.shared_registry.specs.OutcomesPrivate.{WasDecided}
use Rattle.shared_registry.proofs.Submitting.{commit_tried}
use Rattle.shared_registry.proofs.registry.Registry.commit.Goals as goal

pub returns-in-Ok-Conflict-clause-tried : goal.returns-in-Ok-Conflict-clause-tried
returns-in-Ok-Conflict-clause-tried g c =
    let locked = c.commit_locked-decided in
    let decided = subst (WasDecided g.J.RegistryId.first c.args.seat.now locked.new.seat c.args.work) c.in-Ok.is locked.ensures.decided in
    let answer = c.in-Ok-Conflict.ensures.answer ∙ ap Some c.in-Ok-Conflict.field-0-is in (
      c.into_batch-batch.ensures,
      (commit_tried g.J.RegistryId.first c.args.seat.now locked.new.seat c.args.work c.args.replies c.in-Ok.commit (gave.Conflict c.in-Ok-Conflict.place) decided locked.ensures.during_call c.requires.replies c.requires.seen_learnt answer).1,
    )
