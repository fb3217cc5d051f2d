use Rattle.std.proofs.Common.{sym, subst}
use Rattle.batch_work.specs.Working.{HasReplies}
use Rattle.call_machine.proofs.Decisions.{decided, may_prepare}
use Rattle.call_machine.proofs.slot.decide.Goals as goal

pub commit-outcome-requires-clause-began : goal.commit-outcome-requires-clause-began
commit-outcome-requires-clause-began c = may_prepare c.args.head.now c.args.work.now c.requires.whole c.requires.rests c.requires.ready

pub returns-in-Ok-answer-clause-some : goal.returns-in-Ok-answer-clause-some
returns-in-Ok-answer-clause-some c =
    let replies = subst (HasReplies c.args.work.now) (sym c.in-Ok.ensures.cases) c.in-Some.ensures.replies in
    decided c.args.head.now c.commit-outcome.new.self c.args.work.now 0 c.args.number c.commit-outcome.result c.in-Ok.replies c.in-Ok-answer.answer c.in_ok-decision.decision c.in_ok-decision.place
    c.requires.whole c.requires.rests c.requires.ready replies c.commit-outcome.ensures c.in-Ok-answer.ensures.answer (sym c.in_ok-decision.ensures)
