use Rattle.std.proofs.Common.{suc, inl, ⊎_elim}
use Rattle.entry_book.proofs.Aliases.{alias_is_held}
use Rattle.entry_book.proofs.Chains.{authorised_in_order, begun_is_authorised, bounded, child_is_authorised, ends_of_chains, less, more, others_dont_matter, start}
use Rattle.entry_book.proofs.laws.authorised_entries.Goals as goal

pub returns-clause-ends : goal.returns-clause-ends
returns-clause-ends c = ends_of_chains

pub returns-clause-order : goal.returns-clause-order
returns-clause-order c = authorised_in_order

pub returns-clause-held : goal.returns-clause-held
returns-clause-held c = λ server a b e w h. begun_is_authorised server a b e w (inl h)

pub returns-clause-child : goal.returns-clause-child
returns-clause-child c = child_is_authorised

pub returns-clause-alias : goal.returns-clause-alias
returns-clause-alias c = alias_is_held

pub returns-clause-others : goal.returns-clause-others
returns-clause-others c = others_dont_matter

pub returns-clause-begins : goal.returns-clause-begins
returns-clause-begins c = start

pub returns-clause-goes_on : goal.returns-clause-goes_on
returns-clause-goes_on c = λ server a es n e. (less server a es n e, λ h. ⊎_elim (start server a es (suc n) e) (λ r. more server a es n e r.0 r.1 r.2 r.3) h)

pub returns-clause-short : goal.returns-clause-short
returns-clause-short c = bounded
