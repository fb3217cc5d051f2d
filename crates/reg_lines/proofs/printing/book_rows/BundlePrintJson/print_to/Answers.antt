use Rattle.reg_lines.specs.Replies.{bundle_json}
use Rattle.reg_lines.proofs.JoinedTexts.{◌▸◌}
use Rattle.reg_lines.proofs.printing.book_rows.BundlePrintJson.print_to.Goals as goal

pub returns : goal.returns
unfolding bundle_json
returns g c = c.put.ensures ▸ c.print_to.ensures ▸ c.put-2.ensures ▸ c.print_number.ensures ▸ c.put-3.ensures ▸ c.print_to-2.ensures ▸ c.put-4.ensures
