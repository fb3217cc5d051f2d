use Rattle.reg_lines.specs.Replies.{dropped_json}
use Rattle.reg_lines.proofs.JoinedTexts.{◌▸◌}
use Rattle.reg_lines.proofs.printing.replies.print_dropped.Goals as goal

pub returns : goal.returns
unfolding dropped_json
returns g c = c.put.ensures ▸ c.print_list.ensures ▸ c.put-2.ensures ▸ c.print_list-2.ensures ▸ c.put-3.ensures
