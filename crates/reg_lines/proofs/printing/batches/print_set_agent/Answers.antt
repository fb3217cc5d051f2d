use Rattle.reg_lines.specs.RecordLines.{set_agent_json}
use Rattle.reg_lines.proofs.JoinedTexts.{◌▸◌}
use Rattle.reg_lines.proofs.printing.batches.print_set_agent.Goals as goal

pub returns : goal.returns
unfolding set_agent_json
returns g c = c.put.ensures ▸ c.print_to.ensures ▸ c.put-2.ensures ▸ c.print_to-2.ensures ▸ c.put-3.ensures
