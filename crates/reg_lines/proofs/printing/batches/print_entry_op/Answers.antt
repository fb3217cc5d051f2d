use Rattle.reg_lines.specs.RecordLines.{entry_op_json}
use Rattle.reg_lines.proofs.JoinedTexts.{◌▸◌}
use Rattle.reg_lines.proofs.printing.batches.print_entry_op.Goals as goal

pub returns : goal.returns
unfolding entry_op_json
returns g c =
    c.put.ensures ▸ c.print_to.ensures ▸ c.put-2.ensures ▸ c.print_number.ensures ▸ c.put-3.ensures ▸ c.print_to-2.ensures ▸ c.put-4.ensures ▸ c.print_to-3.ensures ▸ c.put-5.ensures ▸ c.print_to-4.ensures ▸ c.put_lifetime.ensures ▸ c.put-6.ensures ▸ c.print_text.ensures ▸ c.put-7.ensures ▸ c.print_to-5.ensures ▸ c.put_given.ensures ▸ c.put-8.ensures ▸ c.print_to-6.ensures ▸ c.put_lifetime-2.ensures ▸ c.put-9.ensures
