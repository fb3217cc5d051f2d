use Rattle.std.proofs.Common.{arith, refl}
use Rattle.std.proofs.lemmas.Grind.{common_steps}
use Rattle.line_devices.proofs.Puts.{Puts-handed}
use Rattle.line_devices.proofs.output.Output.flush_sink.Goals as goal

pub returns-then-not-self-clause-put : goal.returns-then-not-self-clause-put
returns-then-not-self-clause-put g c =
    rw (← c.self.view_is) (Puts-handed _ _ c.flush.result (grind (arith, common_steps)) (grind (arith, common_steps)) refl c.flush.ensures.bytes)
