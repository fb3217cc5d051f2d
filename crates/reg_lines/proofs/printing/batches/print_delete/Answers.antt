use Rattle.reg_lines.specs.RecordLines.{delete_json}
use Rattle.reg_lines.proofs.JoinedTexts.{◌▸◌}
use Rattle.reg_lines.proofs.printing.batches.print_delete.Goals as goal

pub returns : goal.returns
unfolding delete_json
returns g c = c.put.ensures ▸ c.print_to.ensures ▸ c.put-2.ensures ▸ c.put_given.ensures ▸ c.put-3.ensures
