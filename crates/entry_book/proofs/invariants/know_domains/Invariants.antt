use Rattle.std.proofs.Common.{drop}
use Rattle.std.specs.List.{AllByRecursion}
use Rattle.spiffe_name.specs.Domain.{IsDomain}
use Rattle.entry_book.proofs.invariants.know_domains.Given as goal

abbrev pub invariant-loop-domain : goal.invariant-loop-domain
invariant-loop-domain l = AllByRecursion IsDomain (drop l.domain-index l.domains) → AllByRecursion IsDomain l.domains
