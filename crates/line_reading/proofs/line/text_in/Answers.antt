use Rattle.std.proofs.Common.{refl}
use Rattle.line_reading.proofs.Utf8.{value_in-no_text}
use Rattle.line_reading.proofs.line.text_in.Goals as goal

pub returns-in-Err : goal.returns-in-Err
returns-in-Err c = rw (c.at_line.ensures, value_in-no_text c.args.line.now c.in-Err.ensures.cases.0) refl
