use Rattle.line_reading.proofs.Others.{has_no_other, is_least_other}
use Rattle.line_reading.proofs.fields.unknown_keys_law.Goals as goal

pub returns-clause-least : goal.returns-clause-least
returns-clause-least c = is_least_other

pub returns-clause-none : goal.returns-clause-none
returns-clause-none c = has_no_other
