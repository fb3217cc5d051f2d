use Rattle.std.proofs.Common.{◌≡◌, ◌++◌, List, ℕ, length}
use Rattle.std.specs.List.{AllByRecursion}
use Rattle.line_log.specs.Lines.{IsLogLine, text_of}
use Rattle.line_log.proofs.first_line.is_text.Given as goal

abbrev pub invariant-lines : goal.invariant-lines
invariant-lines l = record { read : (ls : List (List ℕ)) × AllByRecursion IsLogLine ls × (l.bytes ≡ text_of ls ++ l.rest) }

abbrev pub decreases-lines : goal.decreases-lines
decreases-lines l = length l.rest
