use Rattle.std.proofs.Common.{not, sym, ap, subst, ◌∙◌}
use Rattle.std.specs.Prelude.{filter, bytes_eq}
use Rattle.entry_book.specs.Rows.{IsDomainSet}
use Rattle.entry_book.proofs.Sets.{ascending_filter}
use Rattle.entry_book.proofs.domains.DomainSet.without.Goals as goal

pub invariant_of-result : goal.invariant_of-result
invariant_of-result c =
    subst IsDomainSet (sym (c.in_ok-others.ensures ∙ ap (filter (λ other. not (bytes_eq other c.args.domain.now))) c.as_slice.ensures.items))
    (ascending_filter (λ domain. domain) _ c.args.self.now c.as_slice.ensures.set)
