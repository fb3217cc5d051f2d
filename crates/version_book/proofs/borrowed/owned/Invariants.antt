use Rattle.std.proofs.Common.{◌≡◌, ◌++◌, drop}
use Rattle.version_book.proofs.borrowed.owned.Given as goal

abbrev pub invariant-loop-value : goal.invariant-loop-value
invariant-loop-value g l = l.owned.items ++ drop l.value-index l.values ≡ l.fn.values
