use Rattle.line_devices.proofs.Puts.{Puts-then}
use Rattle.reg_lines.specs.Json.{text_json}
use Rattle.reg_lines.proofs.printing.text.print_text.Goals as goal

pub returns : goal.returns
unfolding text_json
returns g c =
    let bytes = rw c.as_bytes.ensures.value at c.put_all_escaped.ensures in
    Puts-then _ _ _ _ _ (Puts-then _ _ _ _ _ c.put.ensures bytes) c.put-2.ensures
