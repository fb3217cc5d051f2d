use Rattle.std.proofs.Common.{◌≡◌, IfOk, map, sym, ap, subst, ◌∙◌}
use Rattle.std.specs.Option.{option_copied}
use Rattle.version_book.specs.CommittedRows.{row_of}
use Rattle.version_book.proofs.Marked.{all_fail}
use Rattle.version_book.proofs.RowShelves.{named_row}
use Rattle.version_book.proofs.Shelves.{filter-map}
use Rattle.version_book.proofs.row_shelf.RowShelf.at.Goals as goal

pub returns-in-Some : goal.returns-in-Some
returns-in-Some g c =
    let named = g.T.BookRow.names c.args.mark.now in
    let row = named_row g.K.Ord.cmp g.T.KeyedRow.bytes g.met.T.KeyedRow.by_bytes g.T.BookRow.key c.in-Some.key.now named c.in-Some.ensures
    c.self.inside.rows c.get.ensures.order c.self.invariant c.args.self.now c.self.view_is (option_copied c.get.result) c.get.ensures.value in
    subst (λ found. IfOk c.row_alone.result (λ rows. rows.items ≡ found)) (ap (map row_of) (sym row) ∙ sym (filter-map row_of named c.args.self.now)) c.row_alone.ensures

pub returns-in-None : goal.returns-in-None
returns-in-None g c = c.new.ensures.items ∙ sym (all_fail (g.T.BookRow.names c.args.mark.now) c.in-None.ensures (map row_of c.args.self.now))
