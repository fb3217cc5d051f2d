use Rattle.line_devices.proofs.LinesLaw.{concat-lines_of, AreLines-lines_of, lines_of-concat}
use Rattle.line_devices.proofs.lines.lines_law.Goals as goal

pub returns-clause-joined : goal.returns-clause-joined
returns-clause-joined c = concat-lines_of

pub returns-clause-lines : goal.returns-clause-lines
returns-clause-lines c = AreLines-lines_of

pub returns-clause-only : goal.returns-clause-only
returns-clause-only c = lines_of-concat
