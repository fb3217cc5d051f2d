use Rattle.std.proofs.Common.{List, take}
use Rattle.std.specs.List.{AllByRecursion, flat_map}
use Rattle.line_devices.specs.Stream.{Puts}
use Rattle.line_engines.specs.Recorded.{AreRecords, IsWritten, Recorded, record_line}
use Rattle.line_engines.proofs.record_engine.print_records.Given as goal

abbrev pub invariant-loop-call : goal.invariant-loop-call
invariant-loop-call g l = record {
  printed : (records : List Recorded) → AreRecords l.machine.calls l.calls records → Puts l.fn.output l.output (flat_map record_line (take l.call-index records));
  written : (records : List Recorded) → AreRecords l.machine.calls l.calls records → AllByRecursion IsWritten (take l.call-index records);
}
