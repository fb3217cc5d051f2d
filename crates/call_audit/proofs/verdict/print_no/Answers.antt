use Rattle.std.proofs.Common.{subst}
use Rattle.reg_lines.specs.Json.{text_json}
use Rattle.line_devices.specs.Stream.{Puts}
use Rattle.call_audit.proofs.Printed.{Puts-no}
use Rattle.call_audit.proofs.verdict.print_no.Goals as goal

pub returns : goal.returns
returns g c =
    let why = subst (λ t. Puts c.put-2.new.self c.print_text.new.output (text_json t)) c.text.ensures c.print_text.ensures in
    Puts-no c.args.line c.args.cause _ _ _ _ _ _ c.put.ensures c.print_number.ensures c.put-2.ensures why c.put-3.ensures
