use Rattle.std.proofs.Common.{◌≡◌, ◌++◌, drop}
use Rattle.std.specs.Prelude.{filter}
use Rattle.spiffe_name.specs.SelectorSet.{is_within}
use Rattle.plain_book.proofs.worklist.held_among.Given as goal

abbrev pub invariant-loop-entry : goal.invariant-loop-entry
invariant-loop-entry l = l.held.items ++ filter (λ entry. is_within entry.selectors l.agent.selectors) (drop l.entry-index l.aliases) ≡ filter (λ entry. is_within entry.selectors l.agent.selectors) l.aliases
