use Rattle.reg_lines.specs.Replies.{done_of}
use Rattle.reg_lines.proofs.JoinedTexts.{◌▸◌}
use Rattle.reg_lines.proofs.printing.replies.print_done.Goals as goal

pub returns : goal.returns
unfolding done_of
returns g c =
    c.put.ensures ▸ c.print_number.ensures ▸ c.put-2.ensures ▸ c.print_number-2.ensures ▸ c.put-3.ensures ▸ c.print_list.ensures ▸ c.put-4.ensures ▸ c.print_text.ensures ▸ c.put-5.ensures
