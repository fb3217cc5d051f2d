use Rattle.std.proofs.Common.{◌≡◌}
use Rattle.std.specs.Prelude.{IsTrue}
use Rattle.std.specs.Io.KnownBytes.{prepend_known}
use Rattle.line_devices.specs.Lines.{has_lf}
use Rattle.line_devices.proofs.InputLemmas.{IsBegun}
use Rattle.line_devices.proofs.input.Input.read_line.Given as goal

abbrev pub invariant-loop-self : goal.invariant-loop-self
invariant-loop-self g l = record {
  begun : IsBegun l.fn.self.left (prepend_known l.self-inside.held (g.S.Source.left l.self-inside.source)) l.line;
  failures : g.S.Source.failures l.self-inside.source ≡ 0;
  held : IsTrue l.fn.self.has_line → IsTrue (has_lf l.self-inside.held) × (g.S.Source.calls_left l.self-inside.source ≡ l.fn.self.calls_left);
}

abbrev pub decreases-loop-self : goal.decreases-loop-self
decreases-loop-self g l = g.S.Source.calls_left l.self-inside.source
