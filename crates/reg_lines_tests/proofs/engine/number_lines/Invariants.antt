use Rattle.std.proofs.Common.{◌≡◌, ◌≤◌}
use Rattle.reg_lines_tests.specs.Numbered.{numbered}
use Rattle.line_devices.proofs.RunLemmas.{RunsFrom}
use Rattle.reg_lines_tests.proofs.engine.number_lines.Given as goal

abbrev pub invariant-loop-index : goal.invariant-loop-index
invariant-loop-index g l = record {
  way : RunsFrom numbered 0 l.fn.input.left l.input.left l.fn.output l.output l.index l.index;
  input : l.input.failures ≡ 0;
  index : l.index ≤ l.most;
}
