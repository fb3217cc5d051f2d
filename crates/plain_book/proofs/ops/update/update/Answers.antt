use Rattle.std.proofs.Common.{sym, arith}
use Rattle.entry_book.specs.Rows.{entry_key}
use Rattle.entry_book.proofs.Keys.{at_row}
use Rattle.plain_book.proofs.ops.update.update.Goals as goal

pub overflow_add-revision : goal.overflow_add-revision
overflow_add-revision c =
    let old = c.in-Some.old.now in
    let found = at_row entry_key c.get.result.now.id c.args.book.now.entries old (sym c.in-Some.ensures) in
    let low = c.requires.counts.revisions old found.0 in
    omega arith
