use Rattle.std.proofs.Common.{sym, subst, ◌∙◌}
use Rattle.reg_programs.specs.SessionsPrivate.{HasText}
use Rattle.reg_programs.proofs.OutcomeTexts.{text_given, text_ungiven}
use Rattle.reg_programs.proofs.session_engine.outcome_of.Goals as goal

pub returns-in-Ok : goal.returns-in-Ok
returns-in-Ok c = text_given c.args.call c.args.line c.args.outcome c.in-Ok.answer (sym c.answer.ensures ∙ c.in-Ok.is)

pub returns-in-Err : goal.returns-in-Err
returns-in-Err c =
    subst (HasText c.not_answered.result) (sym (text_ungiven c.args.call c.args.line c.args.outcome c.in-Err.why (sym c.answer.ensures ∙ c.in-Err.is))) c.not_answered.ensures
