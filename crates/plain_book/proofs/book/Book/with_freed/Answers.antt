use Rattle.entry_book.proofs.Items.{within_get}
use Rattle.plain_book.proofs.book.Book.with_freed.Goals as goal

pub dissociated-requires : goal.dissociated-requires
dissociated-requires c = record {
  room = c.requires.room c.entry-item.result (within_get c.args.users.now c.loop-entry.entry-index c.entry-item.result c.loop-entry-test.true c.entry-item.is);
}
