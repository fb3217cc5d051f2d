use Rattle.std.proofs.Common.{◌≡◌, ◌++◌, drop}
use Rattle.batch_work.proofs.domains.push_all.Given as goal

abbrev pub invariant-loop-domain : goal.invariant-loop-domain
invariant-loop-domain l = l.all.items ++ drop l.domain-index l.domains ≡ l.fn.all.items ++ l.domains
