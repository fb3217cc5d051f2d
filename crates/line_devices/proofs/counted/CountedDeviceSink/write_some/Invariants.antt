use Rattle.std.proofs.Common.{◌-◌, ◌≡◌, ◌≤◌}
use Rattle.std.specs.Prelude.{IsFalse}
use Rattle.std.specs.Io.KnownBytes.{Keeps}
use Rattle.line_devices.proofs.counted.CountedDeviceSink.write_some.Given as goal

abbrev pub invariant-loop-self : goal.invariant-loop-self
invariant-loop-self g l = record {
  bytes : Keeps (g.W.Write.contents l.fn.self.device) (g.W.Write.contents l.self.device);
  failures : l.self.failures ≡ l.fn.self.failures;
  calls : l.fn.self.calls ≤ l.self.calls;
  unflushed : IsFalse l.self.is_flushed;
}

abbrev pub decreases-loop-self : goal.decreases-loop-self
decreases-loop-self g l = 18446744073709551615 - l.self.calls
