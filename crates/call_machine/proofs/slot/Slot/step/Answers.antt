use Rattle.std.proofs.Common.{refl}
use Rattle.batch_work.specs.declared.status.Status.TheVariants.{Running}
use Rattle.call_machine.proofs.Slots.{open_status, slot_stepped}
use Rattle.call_machine.proofs.slot.Slot.step.Goals as goal

pub returns-clause-ok : goal.returns-clause-ok
returns-clause-ok c own_domain items rests =
    let old = c.args.self.now in
    let w = c.in-Open.work in
    slot_stepped own_domain items old _ w c.step.new.self c.in-Ok.mark c.status-2.result rests c.in-Open.is
    (open_status old.state w Running c.in-Open.is c.in-Running.ensures)
    c.in-Ok.ensures c.in-Ok-step.ensures.stepped
    c.discard.ensures.stage c.discard.ensures.answered c.discard.ensures.kept refl refl refl refl c.status-2.ensures
