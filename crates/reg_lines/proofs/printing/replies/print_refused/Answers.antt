use Rattle.reg_lines.specs.Replies.{refused_json}
use Rattle.reg_lines.proofs.JoinedTexts.{◌▸◌}
use Rattle.reg_lines.proofs.printing.replies.print_refused.Goals as goal

pub returns : goal.returns
unfolding refused_json
returns g c =
    let code = rw c.code.ensures at c.print_text.ensures in
    let op = rw c.op.ensures at c.put_op.ensures in
    c.put.ensures ▸ c.print_number.ensures ▸ c.put-2.ensures ▸ code ▸ c.put_detail.ensures ▸ op ▸ c.put-3.ensures ▸ c.print_number-2.ensures ▸ c.put-4.ensures
