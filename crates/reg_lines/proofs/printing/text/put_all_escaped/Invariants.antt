use Rattle.std.proofs.Common.{◌≡◌, ◌++◌, List, ℕ, length}
use Rattle.std.specs.List.{flat_map}
use Rattle.reg_lines.specs.Json.{escaped}
use Rattle.line_devices.specs.Stream.{Puts}
use Rattle.reg_lines.proofs.printing.text.put_all_escaped.Given as goal

abbrev pub invariant-loop-at : goal.invariant-loop-at
invariant-loop-at g l = (done : List ℕ) × Puts l.fn.output l.output done × (done ++ flat_map escaped l.rest ≡ flat_map escaped l.bytes)

abbrev pub decreases-loop-at : goal.decreases-loop-at
decreases-loop-at g l = length l.rest
