use Rattle.reg_lines.specs.RecordLines.{page_op_json}
use Rattle.reg_lines.proofs.JoinedTexts.{◌▸◌}
use Rattle.reg_lines.proofs.printing.batches.print_page_op.Goals as goal

pub returns : goal.returns
unfolding page_op_json
returns g c =
    c.put.ensures ▸ c.put_leading.ensures ▸ c.put_leading-2.ensures ▸ c.put_leading-3.ensures ▸ c.put_leading-4.ensures ▸ c.put_match.ensures ▸ c.put-2.ensures ▸ c.put_given.ensures ▸ c.put_selectors.ensures ▸ c.put-3.ensures ▸ c.print_number.ensures ▸ c.put-4.ensures
