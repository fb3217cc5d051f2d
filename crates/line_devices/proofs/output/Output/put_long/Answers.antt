use Rattle.std.proofs.Common.{arith, ◌++◌, ap}
use Rattle.std.proofs.lemmas.Grind.{common_steps}
use Rattle.line_devices.proofs.Puts.{Puts-sent}
use Rattle.line_devices.proofs.output.Output.put_long.Goals as goal

pub returns-then-not-self : goal.returns-then-not-self
returns-then-not-self g c =
    let none = rw (← c.self.view_is) at c.requires in
    rw (← c.self.view_is) (Puts-sent _ _ _ _ c.send_all.result (grind (arith, common_steps)) (grind (arith, common_steps)) (ap (λ l. l ++ c.args.bytes.now) none) none c.send_all.ensures.bytes)
