use Rattle.reg_lines.specs.EventAnswers.{full_json}
use Rattle.reg_lines.proofs.JoinedTexts.{◌▸◌}
use Rattle.reg_lines.proofs.printing.events.print_full.Goals as goal

pub returns : goal.returns
unfolding full_json
returns g c =
    let code = rw c.code.ensures at c.print_text.ensures in
    c.put.ensures ▸ c.print_number.ensures ▸ c.put-2.ensures ▸ code ▸ c.put-3.ensures ▸ c.print_number-2.ensures ▸ c.put-4.ensures
