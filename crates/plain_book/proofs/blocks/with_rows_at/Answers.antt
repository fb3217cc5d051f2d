use Rattle.plain_book.proofs.Cuts.{mended_is}
use Rattle.plain_book.proofs.blocks.with_rows_at.Goals as goal

pub returns-clause-rows : goal.returns-clause-rows
returns-clause-rows g c =
    mended_is c.in_ok-out.out.items c.args.cut.now.before.now c.push_shared.new.out.items c.push_rows.new.out.items c.push_shared-2.new.out.items c.args.cut.now.behind.now c.args.rows.items
    c.in_ok-out.ensures.items c.in_ok-push_shared.ensures c.in_ok-push_rows.ensures.rows c.in_ok-push_shared-2.ensures
