use Rattle.std.proofs.Common.{ap, subst, sym, ◌∙◌}
use Rattle.std.specs.Prelude.{filter, bytes_eq}
use Rattle.entry_book.specs.Order.{Ascending, first}
use Rattle.plain_book.proofs.Cuts.{row_in_cut, rows_ascend}
use Rattle.plain_book.proofs.rows.Rows.row.Goals as goal

pub cut_at-cut-requires : goal.cut_at-cut-requires
cut_at-cut-requires g c = record {
  order = subst (Ascending g.T.BookRow.key) (sym c.blocks-2.ensures.rows) c.requires.order;
  filled = c.blocks-2.ensures.filled;
}

pub row_of-requires : goal.row_of-requires
row_of-requires g c =
    let key = g.T.BookRow.key in
    let cut = c.cut_at-cut.result in
    record {
      order = rows_ascend key _ c.blocks-2.result.now cut.before.now cut.rows.now cut.behind.now c.cut_at-cut.ensures (subst (Ascending key) (sym c.blocks-2.ensures.rows) c.requires.order);
    }

pub returns : goal.returns
returns g c =
    let key = g.T.BookRow.key in
    let cut = c.cut_at-cut.result in
    c.row_of.ensures
    ∙ (row_in_cut key c.args.key.now c.blocks-2.result.now cut.before.now cut.rows.now cut.behind.now c.cut_at-cut.ensures
    ∙ ap (λ l. first (filter (λ row. bytes_eq (key row) c.args.key.now) l)) c.blocks-2.ensures.rows)
