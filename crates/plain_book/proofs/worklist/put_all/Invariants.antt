use Rattle.std.proofs.Common.{◌≡◌, drop}
use Rattle.entry_book.specs.Order.{Ascending}
use Rattle.entry_book.specs.Rows.{entry_key}
use Rattle.plain_book.specs.Found.{with_all}
use Rattle.plain_book.proofs.worklist.put_all.Given as goal

abbrev pub invariant-loop-entry : goal.invariant-loop-entry
invariant-loop-entry l = record {
  rows : with_all (drop l.entry-index l.entries) l.found.items ≡ with_all l.entries l.fn.found.items;
  order : Ascending entry_key l.found.items;
}
