use Rattle.reg_lines.proofs.JoinedTexts.{◌▸◌}
use Rattle.reg_lines.proofs.printing.replies.put_detail_of.Goals as goal

pub returns : goal.returns
returns g c = c.put.ensures ▸ c.print_to.ensures
