use Rattle.std.proofs.Common.{ap, ◌∙◌}
use Rattle.std.specs.Prelude.{slice_range}
use Rattle.line_devices.specs.Lines.{has_lf}
use Rattle.line_devices.proofs.FirstLf.{found_if_any}
use Rattle.line_devices.proofs.read_buffer.ReadBuffer.has_line.Goals as goal

pub returns : goal.returns
returns c = c.is_some.ensures ∙ (found_if_any (slice_range c.self.inside.buffer c.self.inside.start c.self.inside.end) c.self.inside.lf c.self.invariant.2 ∙ ap has_lf c.self.view_is)
