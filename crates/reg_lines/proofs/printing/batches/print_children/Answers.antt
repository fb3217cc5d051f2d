use Rattle.reg_lines.specs.RecordLines.{children_json}
use Rattle.reg_lines.proofs.JoinedTexts.{◌▸◌}
use Rattle.reg_lines.proofs.printing.batches.print_children.Goals as goal

pub returns : goal.returns
unfolding children_json
returns g c = c.put.ensures ▸ c.print_to.ensures ▸ c.put-2.ensures
