use Rattle.reg_lines.proofs.OneLine.{conflict-no_lf, event-no_lf, event_refusal-no_lf, number-no_lf, order-no_lf, record-no_lf, refusal-no_lf, reply-no_lf, seat_refusal-no_lf, text-no_lf}
use Rattle.reg_lines.proofs.laws.one_line_law.Goals as goal

pub returns-clause-replies : goal.returns-clause-replies
returns-clause-replies c = reply-no_lf

pub returns-clause-conflicts : goal.returns-clause-conflicts
returns-clause-conflicts c = conflict-no_lf

pub returns-clause-refusals : goal.returns-clause-refusals
returns-clause-refusals c = refusal-no_lf

pub returns-clause-seat_refusals : goal.returns-clause-seat_refusals
returns-clause-seat_refusals c = seat_refusal-no_lf

pub returns-clause-events : goal.returns-clause-events
returns-clause-events c = event-no_lf

pub returns-clause-event_refusals : goal.returns-clause-event_refusals
returns-clause-event_refusals c = event_refusal-no_lf

pub returns-clause-orders : goal.returns-clause-orders
returns-clause-orders c = order-no_lf

pub returns-clause-records : goal.returns-clause-records
returns-clause-records c = record-no_lf

pub returns-clause-texts : goal.returns-clause-texts
returns-clause-texts c = text-no_lf

pub returns-clause-numbers : goal.returns-clause-numbers
returns-clause-numbers c = number-no_lf
