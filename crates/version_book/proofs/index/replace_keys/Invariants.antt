use Rattle.std.proofs.Common.{◌≡◌, ◌++◌}
use Rattle.version_book.proofs.Indexes.{Puts}
use Rattle.version_book.proofs.index.replace_keys.Given as goal

abbrev pub invariant-loop-key : goal.invariant-loop-key
invariant-loop-key g l = record {
  split : l.yielded ++ l.key-iterator.rest.items ≡ l.fn.keys.items;
  puts : Puts l.yielded l.row l.fn.index l.new;
}
