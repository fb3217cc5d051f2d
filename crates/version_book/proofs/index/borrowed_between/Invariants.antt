use Rattle.std.proofs.Common.{◌≡◌, ◌++◌, map}
use Rattle.version_shelf.specs.Shelf.{rows_between}
use Rattle.version_book.proofs.Found.{entry_of}
use Rattle.version_book.proofs.index.borrowed_between.Given as goal

abbrev pub invariant-loop-row : goal.invariant-loop-row
invariant-loop-row g l = l.found.items ++ map entry_of l.row-iterator ≡ map entry_of (rows_between g.K.Ord.cmp l.index (g.L.Bound.position l.lo) (g.H.Bound.position l.hi))
