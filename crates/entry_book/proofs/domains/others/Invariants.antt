use Rattle.std.proofs.Common.{◌≡◌, ◌++◌, drop, not}
use Rattle.std.specs.Prelude.{filter, bytes_eq}
use Rattle.entry_book.proofs.domains.others.Given as goal

abbrev pub invariant-loop-other : goal.invariant-loop-other
invariant-loop-other l = l.kept.items ++ filter (λ other. not (bytes_eq other l.domain)) (drop l.other-index l.domains) ≡ filter (λ other. not (bytes_eq other l.domain)) l.domains
