use Rattle.std.proofs.Common.{arith}
use Rattle.entry_book.proofs.Items.{within_get}
use Rattle.batch_work.proofs.advance.entries.update_next.Goals as goal

pub overflow_add-revision : goal.overflow_add-revision
overflow_add-revision c = let low = c.requires.counts c.old-item.result (within_get c.args.entries.now 0 c.old-item.result (omega arith) c.old-item.is) in let is = c.revision.ensures in omega arith
