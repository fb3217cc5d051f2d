-- A set of selectors, represented by the ascending list of its members.
use Rattle.std.specs.Prelude.{Bool, List, [], ◌∷◌, ◌++◌, filter}
use Rattle.std.specs.Ordering.{is_lt}
use Rattle.std.specs.Cmp.{IsEquivalence}
use Rattle.std.specs.Cmp.Lexicographic.{lists_equiv, pointwise}
use Rattle.std.specs.List.{list_all, list_any}
use Rattle.std.specs.List.Sorted.{IsStrictlySortedBy}
use Rattle.spiffe_name.specs.Selector.{SelectorPair}
use Rattle.spiffe_name.specs.SelectorOrder.{selector_cmp, selector_eq, selector_eq_equiv}

-- each member once, in ascending order
abbrev pub IsSelectorSet : List SelectorPair → Type 0
IsSelectorSet set = IsStrictlySortedBy selector_cmp set

-- the set with one more member: the members below it, the member, the members above it
abbrev pub with_member : SelectorPair → List SelectorPair → List SelectorPair
with_member s set = filter (λ t. is_lt (selector_cmp t s)) set ++ s ∷ filter (λ t. is_lt (selector_cmp s t)) set

-- the set of the members of a list
abbrev pub set_of : List SelectorPair → List SelectorPair
set_of [] = []
set_of (s ∷ ss) = with_member s (set_of ss)

-- whether the set has this selector
abbrev pub has : List SelectorPair → SelectorPair → Bool
has set s = list_any (λ t. selector_eq t s) set

-- each selector of a is in b
abbrev pub is_within : List SelectorPair → List SelectorPair → Bool
is_within a b = list_all (λ s. has b s) a

-- some selector of a is in b
abbrev pub meets : List SelectorPair → List SelectorPair → Bool
meets a b = list_any (λ s. has b s) a

-- whether two sets are the same list
abbrev pub set_eq : List SelectorPair → List SelectorPair → Bool
set_eq = pointwise selector_eq

pub set_eq_equiv : IsEquivalence set_eq
set_eq_equiv = lists_equiv selector_eq_equiv
