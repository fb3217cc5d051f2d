use Rattle.std.proofs.Common.{◌≡◌, ◌≤◌, false}
use Rattle.line_devices.specs.Lines.{most_lines}
use Rattle.line_engines.proofs.Driving.{IsDriven}
use Rattle.line_engines.proofs.driver.run_lines.Given as goal

abbrev pub invariant-loop-count : goal.invariant-loop-count
invariant-loop-count g l = record {
  preserves : (first : g.row.A.Denot) → g.A.LineHandler.preserves first l.fn.handler → g.A.LineHandler.preserves first l.handler;
  way : (first : g.A.LineHandler.State) → g.A.LineHandler.represents l.fn.handler 0 first → g.A.LineHandler.ends first ≡ false → IsDriven g.A.LineHandler.ends (g.A.LineHandler.answers (g.A.LineHandler.setting l.fn.handler)) (g.A.LineHandler.represents l.handler l.count) first l.fn.input.left l.input.left l.fn.output l.output l.count;
  setting : g.A.LineHandler.setting l.handler ≡ g.A.LineHandler.setting l.fn.handler;
  input : l.input.failures ≡ 0;
  count : l.count ≤ most_lines;
}
