use Rattle.std.proofs.Common.{◌≡◌, ◌++◌, List, ℕ, length}
use Rattle.std.specs.Io.KnownBytes.{Appends}
use Rattle.line_devices.proofs.output.send_all.Given as goal

abbrev pub invariant-loop-rest : goal.invariant-loop-rest
invariant-loop-rest g l = record {
  sent : (front : List ℕ) × (l.bytes ≡ front ++ l.rest) × Appends (g.S.Sink.written l.fn.sink) (g.S.Sink.written l.sink) front;
  failures : g.S.Sink.failures l.sink ≡ g.S.Sink.failures l.fn.sink;
}

abbrev pub decreases-loop-rest : goal.decreases-loop-rest
decreases-loop-rest g l = length l.rest
