use Rattle.reg_lines.specs.RecordLines.{batch_json}
use Rattle.reg_lines.proofs.JoinedTexts.{◌▸◌}
use Rattle.reg_lines.proofs.printing.batches.BatchPrintJson.print_to.Goals as goal

pub returns : goal.returns
unfolding batch_json
returns g c =
    let after = rw c.after.ensures at c.print_number.ensures in
    let ops = rw c.ops.ensures.ops at c.print_list.ensures in
    let token = rw c.token.ensures at c.put_given.ensures in
    c.put.ensures ▸ after ▸ c.put-2.ensures ▸ ops ▸ token ▸ c.put-3.ensures
