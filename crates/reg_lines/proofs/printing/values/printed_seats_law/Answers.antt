use Rattle.reg_lines.proofs.CompactSeats.{seat_refusal-no_float, seat_refusal_json-is}
use Rattle.reg_lines.proofs.printing.values.printed_seats_law.Goals as goal

pub returns-clause-refusals : goal.returns-clause-refusals
returns-clause-refusals c = seat_refusal_json-is

pub returns-clause-no_float : goal.returns-clause-no_float
returns-clause-no_float c = seat_refusal-no_float
