use Rattle.line_devices.proofs.Puts.{Puts-then}
use Rattle.reg_lines.proofs.printing.print_json.print_line.Goals as goal

pub returns : goal.returns
returns g c = Puts-then _ _ _ _ _ c.print_to.ensures c.put.ensures
