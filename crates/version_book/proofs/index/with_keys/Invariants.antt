use Rattle.std.proofs.Common.{◌≡◌, ◌+◌, ◌≤◌, ◌++◌, length}
use Rattle.version_book.proofs.Indexes.{Puts}
use Rattle.version_book.proofs.index.with_keys.Given as goal

abbrev pub invariant-loop-key : goal.invariant-loop-key
invariant-loop-key g l = record {
  split : l.yielded ++ l.key-iterator.rest.items ≡ l.fn.keys.items;
  size : length l.more ≤ length l.fn.index + length l.yielded;
  puts : Puts l.yielded l.row l.fn.index l.more;
}
