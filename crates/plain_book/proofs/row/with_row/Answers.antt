use Rattle.std.proofs.Common.{ap, ◌∙◌, ◌++◌}
use Rattle.std.specs.Prelude.{filter}
use Rattle.entry_book.specs.Order.{is_before}
use Rattle.plain_book.proofs.Copies.{joined}
use Rattle.plain_book.proofs.row.with_row.Goals as goal

pub returns : goal.returns
returns g c =
    let key = g.T.BookRow.key in
    let rows = c.args.rows.now in
    joined key c.args.row rows c.push_all.new.out.items c.push.new.self.items c.push_all-2.new.out.items
    (c.in_ok-push_all.ensures
    ∙ (ap (λ l. l ++ c.around.result.0.now) c.in_ok-out.ensures.items
    ∙ (c.around.ensures.before ∙ ap (λ k. filter (λ x. is_before (key x) k) rows) c.key.ensures)))
    c.in_ok-push.ensures.items
    (c.in_ok-push_all-2.ensures
    ∙ ap (λ l. c.push.new.self.items ++ l) (c.around.ensures.behind ∙ ap (λ k. filter (λ x. is_before k (key x)) rows) c.key.ensures))
