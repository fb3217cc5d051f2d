use Rattle.reg_lines.specs.RecordLines.{keyed_op_json}
use Rattle.reg_lines.proofs.JoinedTexts.{◌▸◌}
use Rattle.reg_lines.proofs.printing.batches.print_keyed_op.Goals as goal

pub returns : goal.returns
unfolding keyed_op_json
returns g c = c.put.ensures ▸ c.print_text.ensures ▸ c.put-2.ensures ▸ c.print_to.ensures ▸ c.put-3.ensures ▸ c.print_text-2.ensures ▸ c.put-4.ensures
