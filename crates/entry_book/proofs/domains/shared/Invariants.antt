use Rattle.std.proofs.Common.{◌≡◌}
use Rattle.entry_book.proofs.domains.shared.Given as goal

abbrev pub invariant-loop-domain : goal.invariant-loop-domain
invariant-loop-domain l = l.shared.items ≡ l.yielded
