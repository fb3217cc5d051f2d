use Rattle.call_machine.proofs.Slots.{status_kept}
use Rattle.call_machine.proofs.slot.Slot.status.Goals as goal

pub returns-in-Open : goal.returns-in-Open
returns-in-Open c = status_kept c.args.self.now.state c.in-Open.work c.status.result c.in-Open.is c.status.ensures
