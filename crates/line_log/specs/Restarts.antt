-- What a log has after crashes and restarts.
use Rattle.std.specs.Prelude.{◌≡◌, ℕ, List, [], ◌∷◌, ◌++◌, Option, IfSome, take}
use Rattle.std.specs.declared.alloc.Global.{Global}
use Rattle.std.specs.declared.vec.Vec.{Vec}
use Rattle.line_log.specs.Lines.{lines_in, text_of, IsBetween}

-- the lines of several texts
abbrev pub lines_of_all : List (Vec ℕ Global) → List (List ℕ)
lines_of_all [] = []
lines_of_all (text ∷ texts) = lines_in text.items ++ lines_of_all texts

-- A log had these lines, then this number of the texts were acknowledged and perhaps others begun, and then the machine crashed. What the next
-- start reads, if it opens the log, and what a later start reads are the same: all lines that the log had, those of the texts that were
-- acknowledged, and the first k of the next ones, for some k.
pub record Survives (lines : List (List ℕ)) (texts : List (Vec ℕ Global)) (added : ℕ) (next : Option (Vec ℕ Global)) (later : Vec ℕ Global) : Type 0 where
  pub found : List (List ℕ)
  pub between : IsBetween (lines ++ lines_of_all (take added texts)) (lines ++ lines_of_all texts) found
  pub next_reads : IfSome next (λ text. text.items ≡ text_of found)
  pub later_reads : later.items ≡ text_of found
