use Rattle.std.proofs.Common.{◌++◌, length, Some, refl, ap, subst, sym, ◌∙◌, arith}
use Rattle.std.proofs.lemmas.Result.{IfOk-weaker}
use Rattle.entry_book.specs.Order.{Ascending, with_row}
use Rattle.entry_book.proofs.InOrder.{ascending-with_row}
use Rattle.plain_book.specs.Blocks.{IsCut, joined}
use Rattle.plain_book.proofs.Cuts.{change_in_cut, length-with_row, rows_ascend}
use Rattle.plain_book.proofs.rows.Rows.with.Goals as goal

pub cut_at-cut-requires : goal.cut_at-cut-requires
cut_at-cut-requires g c = record {
  order = subst (Ascending g.T.BookRow.key) (sym c.blocks-2.ensures.rows) c.requires.order;
  filled = c.blocks-2.ensures.filled;
}

pub with_row-requires : goal.with_row-requires
with_row-requires g c =
    let key = g.T.BookRow.key in
    let cut = c.cut_at-cut.result in
    record {
      order = rows_ascend key _ c.blocks-2.result.now cut.before.now cut.rows.now cut.behind.now c.cut_at-cut.ensures (subst (Ascending key) (sym c.blocks-2.ensures.rows) c.requires.order);
    }

pub changed-requires : goal.changed-requires
changed-requires g c =
    let key = g.T.BookRow.key in
    let cut = c.cut_at-cut.result in
    let long = length-with_row key (key c.args.row) (Some c.args.row) cut.rows.now in
    let rows = ap length c.in_ok-rows.ensures in
    let few = c.cut_at-cut.ensures.size in
    record {
      count = c.len.ensures ∙ ap length (sym c.blocks-2.ensures.rows ∙ c.cut_at-cut.ensures.whole);
      size = omega arith;
      before = c.cut_at-cut.ensures.filled_before;
      behind = c.cut_at-cut.ensures.filled_behind;
    }

pub returns : goal.returns
returns g c =
    let key = g.T.BookRow.key in
    let cut = c.cut_at-cut.result in
    let is_cut = subst (λ k. IsCut key k c.blocks-2.result.now cut.before.now cut.rows.now cut.behind.now) c.key.ensures c.cut_at-cut.ensures in
    let same =
    ap (λ l. joined cut.before.now ++ (l ++ joined cut.behind.now)) c.in_ok-rows.ensures
    ∙ (sym (change_in_cut key (key c.args.row) c.blocks-2.result.now cut.before.now cut.rows.now cut.behind.now is_cut (Some c.args.row))
    ∙ ap (with_row key (key c.args.row) (Some c.args.row)) c.blocks-2.ensures.rows) in
    let order = ascending-with_row key (key c.args.row) (Some c.args.row) c.args.self.now c.requires.order refl in
    record {
      rows = IfOk-weaker c.changed.result _ _ (λ new h. h ∙ same) c.changed.ensures;
      order = IfOk-weaker c.changed.result _ _ (λ new h. subst (Ascending key) (sym (h ∙ same)) order) c.changed.ensures;
    }
