use Rattle.std.proofs.Common.{Some, ap, ◌∙◌}
use Rattle.std.proofs.lemmas.Result.{IfOk-weaker}
use Rattle.entry_book.specs.Order.{with_row}
use Rattle.plain_book.proofs.Copies.{put_alone}
use Rattle.plain_book.proofs.rows.Rows.only.Goals as goal

pub returns : goal.returns
returns g c =
    let key = g.T.BookRow.key in
    IfOk-weaker c.with.result _ _ (λ rows h. h ∙ (ap (with_row key (key c.args.row) (Some c.args.row)) c.in_ok-none.ensures ∙ put_alone key (key c.args.row) c.args.row)) c.with.ensures.rows
