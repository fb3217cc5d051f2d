use Rattle.std.proofs.Common.{arith}
use Rattle.reg_lines.proofs.Escapes.{escaped-control}
use Rattle.line_devices.proofs.Puts.{Puts-same}
use Rattle.reg_lines.proofs.printing.text.put_escaped.Goals as goal

pub returns-in_default : goal.returns-in_default
returns-in_default g c =
    Puts-same _ _ _ _
    (escaped-control c.args.byte _ _ c.requires (omega arith) (omega arith) (omega arith) (omega arith) (omega arith) (omega arith) (omega arith) c.hex_digit.ensures c.hex_digit-in_default.ensures)
    c.put-in_default.ensures
