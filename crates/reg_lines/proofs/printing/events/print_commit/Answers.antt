use Rattle.reg_lines.specs.EventAnswers.{commit_json}
use Rattle.reg_lines.proofs.JoinedTexts.{◌▸◌}
use Rattle.reg_lines.proofs.printing.events.print_commit.Goals as goal

pub returns : goal.returns
unfolding commit_json
returns g c = c.put.ensures ▸ c.print_number.ensures ▸ c.put-2.ensures ▸ c.print_text.ensures ▸ c.put-3.ensures ▸ c.print_number-2.ensures ▸ c.put-4.ensures
