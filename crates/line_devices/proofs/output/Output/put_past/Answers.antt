use Rattle.line_devices.proofs.Puts.{Puts-then}
use Rattle.line_devices.proofs.output.Output.put_past.Goals as goal

pub returns-then-bytes-lt-ROOM : goal.returns-then-bytes-lt-ROOM
returns-then-bytes-lt-ROOM g c = Puts-then _ _ _ _ _ c.send_held.ensures.put c.put_short.ensures

pub returns-else-bytes-lt-ROOM : goal.returns-else-bytes-lt-ROOM
returns-else-bytes-lt-ROOM g c = Puts-then _ _ _ _ _ c.send_held.ensures.put c.put_long.ensures
