use Rattle.call_machine.proofs.Slots.{gone_is}
use Rattle.call_machine.proofs.slot.over.Goals as goal

pub returns-clause-stage : goal.returns-clause-stage
returns-clause-stage c = gone_is c.args.work c.in-Some.reply c.requires.settled c.in-Some.ensures.answer
