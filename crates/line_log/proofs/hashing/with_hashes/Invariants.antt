use Rattle.std.proofs.Common.{◌≡◌, ◌+◌, ◌*◌, ◌++◌, List, ℕ, length}
use Rattle.std.specs.List.{AllByRecursion}
use Rattle.sha2.specs.Hashers.{Holds256}
use Rattle.line_log.specs.Lines.{IsLogLine, IsText, lines_in, text_of}
use Rattle.line_log.specs.Hashes.{hashed_after}
use Rattle.line_log.proofs.hashing.with_hashes.Given as goal

abbrev pub invariant-lines : goal.invariant-lines
invariant-lines l = record {
  read : (ls : List (List ℕ)) × AllByRecursion IsLogLine ls × (l.text ≡ text_of ls ++ l.rest)
      × ((before : List ℕ) → Holds256 l.fn.hasher before → Holds256 l.hasher (before ++ text_of ls) × (lines_in l.file.items ≡ hashed_after before ls))
      × (length l.file.items ≡ length (text_of ls) + 33 * length ls) × (length (lines_in l.file.items) ≡ length ls);
  whole : IsText l.file.items;
}

abbrev pub decreases-lines : goal.decreases-lines
decreases-lines l = length l.rest
