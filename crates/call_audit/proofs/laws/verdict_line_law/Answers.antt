use Rattle.call_audit.proofs.OneLine.{verdict-no_lf}
use Rattle.call_audit.proofs.laws.verdict_line_law.Goals as goal

pub returns : goal.returns
returns c = verdict-no_lf c.one_line_law.ensures.texts c.one_line_law.ensures.numbers
