use Rattle.reg_lines.specs.Replies.{agent_json}
use Rattle.reg_lines.proofs.JoinedTexts.{◌▸◌}
use Rattle.reg_lines.proofs.printing.book_rows.AgentPrintJson.print_to.Goals as goal

pub returns : goal.returns
unfolding agent_json
returns g c = c.put.ensures ▸ c.print_to.ensures ▸ c.put-2.ensures ▸ c.print_to-2.ensures ▸ c.put-3.ensures
