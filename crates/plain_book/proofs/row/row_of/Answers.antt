use Rattle.plain_book.proofs.Ranks.{found, missing}
use Rattle.plain_book.proofs.row.row_of.Goals as goal

pub returns-in-Ok : goal.returns-in-Ok
returns-in-Ok g c = found g.T.BookRow.key c.args.key.now c.args.rows.now c.in-Ok.rank c.index-rows-rank.result c.requires.order c.index-rows-rank.is c.in-Ok.ensures

pub returns-in-Err : goal.returns-in-Err
returns-in-Err g c = missing g.T.BookRow.key c.args.key.now c.args.rows.now c.in-Err.field-0 c.in-Err.ensures
