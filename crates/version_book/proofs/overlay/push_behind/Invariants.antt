use Rattle.std.proofs.Common.{◌≡◌, ◌++◌, drop}
use Rattle.std.specs.Prelude.{filter}
use Rattle.entry_book.specs.Order.{is_before}
use Rattle.version_book.proofs.overlay.push_behind.Given as goal

abbrev pub invariant-loop-row : goal.invariant-loop-row
invariant-loop-row g l = l.out.items ++ filter (λ row. is_before l.key (g.T.BookRow.key row)) (drop l.row-index l.rows) ≡ l.fn.out.items ++ filter (λ row. is_before l.key (g.T.BookRow.key row)) l.rows
