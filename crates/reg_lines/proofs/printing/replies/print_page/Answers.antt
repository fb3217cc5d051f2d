use Rattle.reg_lines.specs.Replies.{page_of}
use Rattle.reg_lines.proofs.JoinedTexts.{◌▸◌}
use Rattle.reg_lines.proofs.printing.replies.print_page.Goals as goal

pub returns : goal.returns
unfolding page_of
returns g c = c.put.ensures ▸ c.print_list.ensures ▸ c.put-2.ensures ▸ c.print_to.ensures ▸ c.put-3.ensures
