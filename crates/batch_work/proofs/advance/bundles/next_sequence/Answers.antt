use Rattle.std.proofs.Common.{arith}
use Rattle.entry_book.proofs.Items.{within_get}
use Rattle.batch_work.proofs.advance.bundles.next_sequence.Goals as goal

pub overflow_add-result : goal.overflow_add-result
overflow_add-result c = let low = c.requires.counts c.bundle-item.result (within_get c.args.bundles.now 0 c.bundle-item.result (omega arith) c.bundle-item.is) in omega arith
