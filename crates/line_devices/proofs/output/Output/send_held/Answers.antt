use Rattle.std.proofs.Common.{arith, refl, append-nil}
use Rattle.std.proofs.lemmas.Grind.{common_steps}
use Rattle.line_devices.proofs.Puts.{Puts-sent}
use Rattle.line_devices.proofs.output.Output.send_held.Goals as goal

pub returns-clause-put : goal.returns-clause-put
returns-clause-put g c =
    rw (← c.self.view_is) (Puts-sent _ _ _ _ c.send_all-sent.result (grind (arith, common_steps)) (grind (arith, common_steps)) (append-nil _) refl c.send_all-sent.ensures.bytes)
