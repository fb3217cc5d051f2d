use Rattle.reg_lines.specs.Replies.{conflict_json}
use Rattle.reg_lines.proofs.JoinedTexts.{◌▸◌}
use Rattle.reg_lines.proofs.printing.replies.print_conflict.Goals as goal

pub returns : goal.returns
unfolding conflict_json
returns g c = c.put.ensures ▸ c.print_number.ensures ▸ c.put-2.ensures ▸ c.print_number-2.ensures ▸ c.put-3.ensures
