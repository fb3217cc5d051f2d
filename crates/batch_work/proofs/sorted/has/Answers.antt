use Rattle.std.proofs.Common.{sym}
use Rattle.batch_work.proofs.Ranks.{is_missing, is_there}
use Rattle.batch_work.proofs.sorted.has.Goals as goal

pub returns-in-Ok : goal.returns-in-Ok
returns-in-Ok g c = sym (is_there g.T.Keyed.key (g.T.Keyed.key c.args.item.now) c.args.set.now c.in-Ok.field-0 c.in-Ok.ensures)

pub returns-in-Err : goal.returns-in-Err
returns-in-Err g c = sym (is_missing g.T.Keyed.key (g.T.Keyed.key c.args.item.now) c.args.set.now c.in-Err.field-0 c.in-Err.ensures)
