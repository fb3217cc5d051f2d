use Rattle.std.proofs.Common.{refl, ◌∙◌}
use Rattle.std.specs.Option.{option_copied}
use Rattle.std.specs.Prelude.{bytes_eq}
use Rattle.version_book.proofs.RowShelves.{first_row}
use Rattle.version_book.proofs.row_shelf.RowShelf.get.Goals as goal

pub returns : goal.returns
returns g c =
    c.borrowed.ensures
    ∙ first_row g.K.Ord.cmp g.T.KeyedRow.bytes g.met.T.KeyedRow.by_bytes g.T.BookRow.key c.args.key.now (λ row. bytes_eq (g.T.BookRow.key row) (g.T.KeyedRow.bytes c.args.key.now)) (λ row. refl)
    c.self.inside.rows c.get.ensures.order c.self.invariant c.args.self.now c.self.view_is (option_copied c.get.result) c.get.ensures.value
