use Rattle.std.proofs.Common.{◌==◌, ap, sym, ◌∙◌}
use Rattle.std.specs.List.{position}
use Rattle.line_devices.proofs.FirstLf.{no_lf, whole_at}
use Rattle.line_devices.proofs.read_buffer.ReadBuffer.line_len.Goals as goal

pub returns-in-Some : goal.returns-in-Some
returns-in-Some c = whole_at c.args.self.now c.in-Some.lf (ap (position (λ b. b == 10)) (sym c.self.view_is) ∙ (sym c.self.invariant.2 ∙ c.in-Some.is))

pub returns-in-None : goal.returns-in-None
returns-in-None c = no_lf c.args.self.now (ap (position (λ b. b == 10)) (sym c.self.view_is) ∙ (sym c.self.invariant.2 ∙ c.in-None.is))
