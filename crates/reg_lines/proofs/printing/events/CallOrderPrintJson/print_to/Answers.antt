use Rattle.reg_lines.specs.EventAnswers.{order_json}
use Rattle.reg_lines.proofs.JoinedTexts.{◌▸◌}
use Rattle.reg_lines.proofs.printing.events.CallOrderPrintJson.print_to.Goals as goal

pub returns : goal.returns
unfolding order_json
returns g c = c.put.ensures ▸ c.print_list.ensures ▸ c.put-2.ensures
