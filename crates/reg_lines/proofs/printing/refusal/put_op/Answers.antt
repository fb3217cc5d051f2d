use Rattle.line_devices.proofs.Puts.{Puts-nil}
use Rattle.reg_lines.proofs.JoinedTexts.{◌▸◌}
use Rattle.reg_lines.proofs.printing.refusal.put_op.Goals as goal

pub returns-in-None : goal.returns-in-None
returns-in-None g c = rw c.in-None.is (Puts-nil _)

pub returns-in-Some : goal.returns-in-Some
returns-in-Some g c = rw c.in-Some.is (c.put.ensures ▸ c.print_number.ensures)
