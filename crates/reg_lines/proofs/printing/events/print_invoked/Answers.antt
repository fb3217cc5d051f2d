use Rattle.reg_lines.specs.EventAnswers.{invoked_json}
use Rattle.reg_lines.proofs.JoinedTexts.{◌▸◌}
use Rattle.reg_lines.proofs.printing.events.print_invoked.Goals as goal

pub returns : goal.returns
unfolding invoked_json
returns g c = c.put.ensures ▸ c.print_number.ensures ▸ c.put-2.ensures
