use Rattle.line_devices.proofs.Puts.{Puts-then}
use Rattle.reg_lines_tests.proofs.engine.put_numbered.Goals as goal

pub returns : goal.returns
returns g c = Puts-then _ _ _ _ _ (Puts-then _ _ _ _ _ c.print_number.ensures c.put.ensures) c.put-2.ensures
