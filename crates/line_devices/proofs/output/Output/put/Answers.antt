use Rattle.std.proofs.Common.{arith}
use Rattle.std.proofs.lemmas.Grind.{common_steps}
use Rattle.line_devices.proofs.Puts.{Puts-held}
use Rattle.line_devices.proofs.output.Output.put.Goals as goal

pub returns-then-bytes-self : goal.returns-then-bytes-self
returns-then-bytes-self g c = Puts-held _ _ _ (grind (arith, common_steps)) c.hold.ensures
