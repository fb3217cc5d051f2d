use Rattle.std.proofs.Common.{Some, refl, ◌∙◌, ap}
use Rattle.batch_work.specs.declared.status.Status.TheVariants.{New}
use Rattle.batch_work.specs.Working.{base_in}
use Rattle.call_machine.proofs.Slots.{open_status, slot_begun}
use Rattle.call_machine.proofs.slot.Slot.begin.Goals as goal

pub returns-clause-ok : goal.returns-clause-ok
returns-clause-ok c =
    let old = c.args.self.now in
    let w = c.in-Open.work in
    slot_begun c.args.head.now old _ w c.begin.new.self c.args.turn c.status-2.result c.requires.whole c.requires.rests c.in-Open.is
    (open_status old.state w New c.in-Open.is c.in-New.ensures)
    (c.in-Ok.ensures.begun ∙ ap (λ v. record w { base = Some (base_in w.batch v) }) c.window.ensures.window)
    c.discard.ensures.stage c.discard.ensures.answered c.discard.ensures.kept refl refl refl refl c.status-2.ensures
