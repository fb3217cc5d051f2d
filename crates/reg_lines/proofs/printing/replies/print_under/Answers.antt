use Rattle.reg_lines.specs.Replies.{under}
use Rattle.reg_lines.proofs.JoinedTexts.{◌▸◌}
use Rattle.reg_lines.proofs.printing.replies.print_under.Goals as goal

pub returns : goal.returns
unfolding under
returns g c = c.put.ensures ▸ c.print_text.ensures ▸ c.put-2.ensures ▸ c.print_to.ensures ▸ c.put-3.ensures
