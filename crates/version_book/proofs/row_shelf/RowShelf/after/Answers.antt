use Rattle.std.proofs.Common.{◌≤◌, IfSome, length, map, option_map, sym, ap, subst, ◌∙◌}
use Rattle.std.specs.Map.{values_of}
use Rattle.entry_book.specs.Order.{with_row}
use Rattle.version_shelf.specs.Shelf.{most_rows}
use Rattle.version_book.specs.CommittedRows.{numbered, of_row, row_of}
use Rattle.version_book.specs.Stores.{IsKeyed, by_bytes, shelf_after}
use Rattle.version_book.proofs.RowShelves.{keyed_after, room_after, values_after}
use Rattle.version_book.proofs.row_shelf.RowShelf.after.Goals as goal

pub after_change-requires-clause-room : goal.after_change-requires-clause-room
after_change-requires-clause-room g c =
    let change = c.args.change.now in
    room_after g.K.Ord.cmp g.T.KeyedRow.bytes g.met.T.KeyedRow.by_bytes g.T.BookRow.key change.key change.new c.self.inside.rows c.self.invariant
    (subst (λ rows. IfSome change.new (λ new. length (with_row g.T.BookRow.key (g.T.KeyedRow.bytes change.key) change.new (map row_of rows)) ≤ most_rows)) (sym c.self.view_is) c.requires.room)

pub invariant_of-result : goal.invariant_of-result
invariant_of-result g c =
    subst (λ rows. IsKeyed g.T.BookRow.key (by_bytes g.T.KeyedRow.bytes rows)) (sym c.in_ok-rows.ensures)
    (keyed_after g.K.Ord.cmp g.T.KeyedRow.bytes g.met.T.KeyedRow.by_bytes g.T.BookRow.key c.args.change.now.key c.args.commit c.args.change.now.new c.self.inside.rows c.self.invariant c.requires.keyed)

pub returns : goal.returns
returns g c =
    let change = c.args.change.now in
    let new = option_map (numbered c.args.commit) change.new in
    ap values_of {y = shelf_after g.K.Ord.cmp change.key new c.self.inside.rows} c.in_ok-rows.ensures
    ∙ (values_after g.K.Ord.cmp g.T.KeyedRow.bytes g.met.T.KeyedRow.by_bytes g.T.BookRow.key change.key new c.self.inside.rows c.self.invariant
    ∙ ap (with_row (of_row g.T.BookRow.key) (g.T.KeyedRow.bytes change.key) new) c.self.view_is)
