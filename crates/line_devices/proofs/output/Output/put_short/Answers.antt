use Rattle.std.proofs.Common.{arith}
use Rattle.std.proofs.lemmas.Grind.{common_steps}
use Rattle.line_devices.proofs.Puts.{Puts-held}
use Rattle.line_devices.proofs.output.Output.put_short.Goals as goal

pub returns-then-not-self : goal.returns-then-not-self
returns-then-not-self g c = Puts-held _ _ _ (grind (arith, common_steps)) c.hold.ensures
