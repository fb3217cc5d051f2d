use Rattle.line_reading.proofs.Utf8.{value_in-text}
use Rattle.line_reading.proofs.line.value_in.Goals as goal

pub returns-in-Ok : goal.returns-in-Ok
returns-in-Ok c = value_in-text c.args.text.now _ c.utf8.text c.in-Ok.ensures.ok
