use Rattle.std.proofs.Common.{take}
use Rattle.line_log.specs.Lines.{IsLineFront}
use Rattle.line_log.proofs.first_line.first_line.Given as goal

abbrev pub invariant-bytes : goal.invariant-bytes
invariant-bytes l = record { begun : IsLineFront (take l.i l.bytes) }
