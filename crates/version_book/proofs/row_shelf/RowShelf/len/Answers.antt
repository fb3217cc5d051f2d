use Rattle.std.proofs.Common.{subst}
use Rattle.entry_book.specs.Order.{Ascending}
use Rattle.version_book.specs.CommittedRows.{of_row}
use Rattle.version_book.proofs.RowShelves.{ascending}
use Rattle.version_book.proofs.row_shelf.RowShelf.len.Goals as goal

pub returns-clause-order : goal.returns-clause-order
returns-clause-order g c = subst (Ascending (of_row g.T.BookRow.key)) c.self.view_is (ascending g.K.Ord.cmp g.T.KeyedRow.bytes g.met.T.KeyedRow.by_bytes g.T.BookRow.key c.self.inside.rows c.len.ensures.order c.self.invariant)
