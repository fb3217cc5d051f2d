use Rattle.reg_lines.specs.RecordLines.{record_json}
use Rattle.reg_lines.proofs.JoinedTexts.{◌▸◌}
use Rattle.reg_lines.proofs.printing.records.CallRecordPrintJson.print_to.Goals as goal

pub returns : goal.returns
unfolding record_json
returns g c =
    c.put.ensures ▸ c.print_to.ensures ▸ c.put-2.ensures ▸ c.print_number.ensures ▸ c.put-3.ensures ▸ c.print_number-2.ensures ▸ c.put-4.ensures ▸ c.print_to-2.ensures ▸ c.put-5.ensures ▸ c.print_to-3.ensures ▸ c.put-6.ensures
