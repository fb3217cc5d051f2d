use Rattle.reg_lines.specs.Refusals.{fault_json}
use Rattle.reg_lines.proofs.JoinedTexts.{◌▸◌}
use Rattle.reg_lines.proofs.printing.refusal.print_fault.Goals as goal

pub returns : goal.returns
unfolding fault_json
returns g c =
    let code = rw c.text.ensures at c.print_text.ensures in
    c.put.ensures ▸ code ▸ c.put_field.ensures ▸ c.put-2.ensures ▸ c.print_number.ensures ▸ c.put_op.ensures ▸ c.put-3.ensures
