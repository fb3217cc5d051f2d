use Rattle.call_machine.proofs.Whole.{calls_are_stamped, headline_holds, replies_held}
use Rattle.call_machine.proofs.laws.headline.Goals as goal

pub returns-clause-headline : goal.returns-clause-headline
returns-clause-headline c = headline_holds

pub returns-clause-held : goal.returns-clause-held
returns-clause-held c = replies_held

pub returns-clause-stamped : goal.returns-clause-stamped
returns-clause-stamped c = calls_are_stamped
