use Rattle.std.proofs.Common.{sym, arith}
use Rattle.entry_book.specs.Rows.{bundle_key}
use Rattle.entry_book.proofs.Keys.{at_row}
use Rattle.plain_book.proofs.ops.set_bundle.set_bundle.Goals as goal

pub overflow_add-sequence : goal.overflow_add-sequence
overflow_add-sequence c =
    let old = c.in-Some.old.now in
    let found = at_row bundle_key c.get.result.now c.args.book.now.bundles old (sym c.in-Some.ensures) in
    let low = c.requires.counts.sequences old found.0 in
    omega arith
