use Rattle.std.proofs.Common.{sym, ap, ◌∙◌}
use Rattle.entry_book.specs.Order.{is_before}
use Rattle.plain_book.specs.Blocks.{begins_behind}
use Rattle.plain_book.proofs.blocks.begins_behind.Goals as goal

pub returns-in-Some : goal.returns-in-Some
returns-in-Some g c =
    c.is_before.ensures
    ∙ (ap (is_before c.args.key.now) c.key.ensures
    ∙ sym (ap (begins_behind g.T.BookRow.key c.args.key.now) c.in-Some.ensures.cases.0))
