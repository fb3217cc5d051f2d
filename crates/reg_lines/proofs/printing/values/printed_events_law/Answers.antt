use Rattle.reg_lines.proofs.CompactEvents.{event-no_float, event_json-is, event_refusal-no_float, event_refusal_json-is, order-no_float, order_json-is}
use Rattle.reg_lines.proofs.printing.values.printed_events_law.Goals as goal

pub returns-clause-events : goal.returns-clause-events
returns-clause-events c = event_json-is

pub returns-clause-refusals : goal.returns-clause-refusals
returns-clause-refusals c = event_refusal_json-is

pub returns-clause-orders : goal.returns-clause-orders
returns-clause-orders c = order_json-is

pub returns-clause-no_float_in_events : goal.returns-clause-no_float_in_events
returns-clause-no_float_in_events c = event-no_float

pub returns-clause-no_float_in_refusals : goal.returns-clause-no_float_in_refusals
returns-clause-no_float_in_refusals c = event_refusal-no_float

pub returns-clause-no_float_in_orders : goal.returns-clause-no_float_in_orders
returns-clause-no_float_in_orders c = order-no_float
