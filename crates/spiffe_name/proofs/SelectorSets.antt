-- The set of the members of a list has them in ascending order.
use Rattle.std.proofs.Common.{◌≡◌, ◌∙◌, List, [], ◌∷◌, inl, inr, ⊎_elim, ap, subst}
use Rattle.std.specs.declared.cmp.Ordering.TheVariants.{Equal}
use Rattle.std.specs.Ordering.{is_eq}
use Rattle.std.specs.List.{Contains}
use Rattle.std.specs.List.Sorted.{IsStrictlySortedBy}
use Rattle.spiffe_name.specs.Selector.{SelectorPair}
use Rattle.spiffe_name.specs.SelectorOrder.{selector_cmp, selector_cmp_total, selector_ties}
use Rattle.spiffe_name.specs.SelectorSet.{IsSelectorSet, set_of}
use Rattle.spiffe_name.proofs.Pairs.{pair_is}
use Rattle.spiffe_name.proofs.Sets.{cases, from_with_member, here, in_with_member, none, there, with_member-sorted}

tied : (a b : SelectorPair) → selector_cmp a b ≡ Equal → a ≡ b
tied a b e = pair_is a b (selector_ties a b ∙ ap is_eq e)

pub set_of-sorted : (ss : List SelectorPair) → IsSelectorSet (set_of ss)
unfolding IsStrictlySortedBy
set_of-sorted [] = tt
set_of-sorted (s ∷ ss) = with_member-sorted selector_cmp_total s (set_of ss) (set_of-sorted ss)

pub in_set_of : (ss : List SelectorPair) (x : SelectorPair) → Contains ss x → Contains (set_of ss) x
in_set_of [] x c = absurd (none x c)
in_set_of (s ∷ ss) x c = in_with_member selector_cmp_total s (set_of ss) tied x (⊎_elim (λ e. inl e) (λ d. inr (in_set_of ss x d)) (cases s ss x c))

pub from_set_of : (ss : List SelectorPair) (x : SelectorPair) → Contains (set_of ss) x → Contains ss x
from_set_of [] x c = c
from_set_of (s ∷ ss) x c = ⊎_elim (λ e. subst (Contains (s ∷ ss)) e (here s ss)) (λ d. there s ss x (from_set_of ss x d)) (from_with_member selector_cmp_total s (set_of ss) x c)
