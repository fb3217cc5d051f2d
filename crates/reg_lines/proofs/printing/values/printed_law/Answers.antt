use Rattle.reg_lines.proofs.Compact.{conflict-no_float, conflict_json-is, refusal-no_float, refusal_json-is, reply-no_float, reply_json-is}
use Rattle.reg_lines.proofs.printing.values.printed_law.Goals as goal

pub returns-clause-replies : goal.returns-clause-replies
returns-clause-replies c = reply_json-is

pub returns-clause-refusals : goal.returns-clause-refusals
returns-clause-refusals c = refusal_json-is

pub returns-clause-no_float_in_replies : goal.returns-clause-no_float_in_replies
returns-clause-no_float_in_replies c = reply-no_float

pub returns-clause-no_float_in_refusals : goal.returns-clause-no_float_in_refusals
returns-clause-no_float_in_refusals c = refusal-no_float

pub returns-clause-conflicts : goal.returns-clause-conflicts
returns-clause-conflicts c = conflict_json-is

pub returns-clause-no_float_in_conflicts : goal.returns-clause-no_float_in_conflicts
returns-clause-no_float_in_conflicts c = conflict-no_float
