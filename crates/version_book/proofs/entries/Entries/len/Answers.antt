use Rattle.std.proofs.Common.{subst}
use Rattle.entry_book.specs.Order.{Ascending}
use Rattle.entry_book.specs.Rows.{entry_key}
use Rattle.version_book.specs.CommittedRows.{of_row}
use Rattle.version_book.proofs.Shelves.{in_order_ascending}
use Rattle.version_book.proofs.entries.Entries.len.Goals as goal

pub returns-clause-order : goal.returns-clause-order
returns-clause-order c = subst (λ rows. Ascending (of_row entry_key) rows) c.self.view_is (in_order_ascending entry_key c.self.inside.rows c.len.ensures.order c.self.invariant.0)
