use Rattle.reg_lines.specs.Refusals.{refused_line_json}
use Rattle.reg_lines.proofs.JoinedTexts.{◌▸◌}
use Rattle.reg_lines.proofs.printing.refusal.print_refused_line.Goals as goal

pub returns : goal.returns
unfolding refused_line_json
returns g c = c.put.ensures ▸ c.print_text.ensures ▸ c.put-2.ensures ▸ c.print_number.ensures ▸ c.put-3.ensures
