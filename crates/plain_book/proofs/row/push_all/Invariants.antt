use Rattle.std.proofs.Common.{◌≡◌, ◌++◌, drop}
use Rattle.plain_book.proofs.row.push_all.Given as goal

abbrev pub invariant-loop-row : goal.invariant-loop-row
invariant-loop-row g l = l.out.items ++ drop l.row-index l.rows ≡ l.fn.out.items ++ l.rows
