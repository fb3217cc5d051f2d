use Rattle.std.proofs.Common.{subst, sym}
use Rattle.std.proofs.lemmas.List.Filters.{dedup_is}
use Rattle.std.proofs.lemmas.List.Kept.{Contains-dedup, Contains-from_dedup, IsStrictlySortedBy-dedup}
use Rattle.std.proofs.lemmas.List.Sorted.{Contains-permutation, IsPermutation-sym}
use Rattle.std.specs.List.{Contains}
use Rattle.spiffe_name.specs.SelectorOrder.{selector_cmp_total, selector_eq, selector_eq_equiv, selector_ties}
use Rattle.spiffe_name.specs.SelectorSet.{IsSelectorSet}
use Rattle.spiffe_name.specs.Selector.{SelectorPair}
use Rattle.spiffe_name.proofs.Pairs.{pair_is}
use Rattle.spiffe_name.proofs.SelectorSets.{from_set_of, in_set_of, set_of-sorted}
use Rattle.spiffe_name.proofs.Sets.{same_list}
use Rattle.spiffe_name.proofs.selector_set.SelectorSet.of.Goals as goal

is_set : (c : goal.After-dedup) → IsSelectorSet c.dedup.new.self.items
is_set c =
    subst IsSelectorSet (sym (dedup_is selector_eq _ _ c.dedup.ensures.filtered))
    (IsStrictlySortedBy-dedup selector_cmp_total selector_ties c.sort.new.self.items c.in_ok-sort.ensures.sorted)

pub invariant_of-result : goal.invariant_of-result
invariant_of-result c = is_set c

pub returns-clause-ordered : goal.returns-clause-ordered
returns-clause-ordered c = is_set c

members : (c : goal.After-dedup) → (s : SelectorPair) → (Contains c.dedup.new.self.items s → Contains c.args.selectors.items s) × (Contains c.args.selectors.items s → Contains c.dedup.new.self.items s)
members c = λ s.
    let e = dedup_is selector_eq _ _ c.dedup.ensures.filtered in
    let p = c.in_ok-sort.ensures.permutation in (
      λ h. Contains-permutation _ _ s (IsPermutation-sym _ _ p) (Contains-from_dedup selector_eq c.sort.new.self.items s (subst (λ xs. Contains xs s) e h)),
      λ h. subst (λ xs. Contains xs s) (sym e) (Contains-dedup selector_eq_equiv pair_is c.sort.new.self.items s (Contains-permutation _ _ s p h)),
    )

pub returns-clause-members : goal.returns-clause-members
returns-clause-members c = members c

pub returns-clause-computed : goal.returns-clause-computed
returns-clause-computed c =
    same_list selector_cmp_total _ _ (is_set c) (set_of-sorted c.args.selectors.items)
    (λ s h. in_set_of c.args.selectors.items s ((members c s).0 h))
    (λ s h. (members c s).1 (from_set_of c.args.selectors.items s h))
