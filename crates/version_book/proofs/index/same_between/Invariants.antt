use Rattle.std.proofs.Common.{◌≡◌, ◌↔◌}
use Rattle.version_shelf.specs.Shelf.{rows_between}
use Rattle.version_book.specs.Stores.{stamps}
use Rattle.version_book.proofs.index.same_between.Given as goal

abbrev pub invariant-loop-row : goal.invariant-loop-row
invariant-loop-row g l =
    (stamps (rows_between g.K.Ord.cmp l.one l.lo l.hi) ≡ stamps (rows_between g.K.Ord.cmp l.other l.lo l.hi)) ↔ (stamps l.row-iterator ≡ stamps l.others)
