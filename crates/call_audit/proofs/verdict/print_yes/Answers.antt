use Rattle.line_devices.proofs.Puts.{Puts-then}
use Rattle.call_audit.specs.Texts.{yes_json}
use Rattle.call_audit.proofs.verdict.print_yes.Goals as goal

pub returns : goal.returns
unfolding yes_json
returns g c = Puts-then _ _ _ _ _ c.put.ensures (Puts-then _ _ _ _ _ c.print_number.ensures c.put-2.ensures)
