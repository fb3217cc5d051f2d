-- Equality and order of selectors.
use Rattle.std.specs.Prelude.{◌≡◌, Bool, ◌&&◌, Some, bytes_eq}
use Rattle.std.specs.declared.cmp.Ordering.{Ordering}
use Rattle.std.specs.Cmp.{IsEquivalence, IsPartialOrder, IsTotalOrder, and_equiv, both_tied, on_equiv, on_total, po, then_total}
use Rattle.std.specs.Cmp.Lexicographic.{nat_list_cmp_total, nat_list_eq_equiv, slice_cmp, texts_ties}
use Rattle.std.specs.Ordering.{eq_by_cmp, nat_cmp, on, then_cmp}
use Rattle.spiffe_name.specs.Selector.{SelectorPair}

-- the type and the value are equal
abbrev pub selector_eq : SelectorPair → SelectorPair → Bool
selector_eq a b = bytes_eq a.type b.type && bytes_eq a.value b.value

-- by the bytes of the type, then by those of the value
abbrev pub selector_cmp : SelectorPair → SelectorPair → Ordering
selector_cmp = then_cmp (on (λ s. s.type) (slice_cmp nat_cmp)) (on (λ s. s.value) (slice_cmp nat_cmp))

pub selector_cmp_total : IsTotalOrder selector_cmp
selector_cmp_total = then_total (on_total (λ s. s.type) nat_list_cmp_total) (on_total (λ s. s.value) nat_list_cmp_total)

pub selector_eq_equiv : IsEquivalence selector_eq
selector_eq_equiv = and_equiv (on_equiv (λ s. s.type) nat_list_eq_equiv) (on_equiv (λ s. s.value) nat_list_eq_equiv)

pub selector_ties : (a b : SelectorPair) → selector_eq a b ≡ eq_by_cmp selector_cmp a b
selector_ties a b = both_tied _ _ _ _ (texts_ties a.type b.type) (texts_ties a.value b.value)

pub selector_po : IsPartialOrder selector_eq (λ a b. Some (selector_cmp a b))
selector_po = po selector_cmp_total selector_ties
