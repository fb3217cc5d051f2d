use Rattle.entry_book.proofs.Items.{within_get}
use Rattle.batch_work.proofs.advance.bundles.freed.Goals as goal

pub dissociated-requires : goal.dissociated-requires
dissociated-requires c = record {
  room = c.requires.counts c.entry-item.result (within_get c.args.entries.now c.loop-entry.entry-index c.entry-item.result c.loop-entry-test.true c.entry-item.is);
}
