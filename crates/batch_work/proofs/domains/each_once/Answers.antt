use Rattle.std.proofs.Common.{◌≡◌, ◌↔◌, ℕ, true, List, [], ◌∷◌, Some, refl, ap, subst, sym, ◌∙◌}
use Rattle.std.specs.Prelude.{bytes_eq}
use Rattle.std.specs.Cmp.Lexicographic.{nat_list_cmp_total, nat_list_eq_equiv, slice_cmp, texts_ties}
use Rattle.std.specs.List.{AllByRecursion, Contains, dedup}
use Rattle.std.specs.List.Sorted.{IsStrictlySortedBy}
use Rattle.std.specs.Ordering.{is_lt, nat_cmp}
use Rattle.std.specs.declared.cmp.Ordering.TheVariants.{Less}
use Rattle.std.proofs.lemmas.List.Filters.{dedup_is}
use Rattle.std.proofs.lemmas.List.Kept.{Contains-dedup, Contains-from_dedup, IsStrictlySortedBy-dedup}
use Rattle.std.proofs.lemmas.List.Sorted.{Contains-permutation, IsPermutation-sym}
use Rattle.entry_book.specs.Order.{is_before, with_row}
use Rattle.entry_book.specs.Rows.{Bytes, IsDomainSet, domain_set}
use Rattle.entry_book.proofs.DomainSets.{is_domain_set}
use Rattle.entry_book.proofs.Sets.{text_is}
use Rattle.batch_work.specs.Reads.{text_set}
use Rattle.batch_work.proofs.domains.each_once.Goals as goal

all_before : (x : List ℕ) (ys : List (List ℕ)) → AllByRecursion (λ y. slice_cmp nat_cmp x y ≡ Less) ys → AllByRecursion (λ y. is_before x y ≡ true) ys
unfolding is_before
all_before x [] h = tt
all_before x (y ∷ ys) h = (ap is_lt h.0, all_before x ys h.1)

in_order : (xs : List (List ℕ)) → IsStrictlySortedBy (slice_cmp nat_cmp) xs → IsDomainSet xs
unfolding IsStrictlySortedBy
in_order [] h = tt
in_order (x ∷ xs) h = (all_before x xs h.0, in_order xs h.1)

-- the set of a list of texts, as each of the two crates defines it
same_set : (xs : List Bytes) → domain_set xs ≡ text_set xs
same_set [] = refl
same_set (x ∷ xs) = ap (with_row (λ t. t) x (Some x)) (same_set xs)

is_set : (c : goal.After-dedup) → IsDomainSet c.dedup.new.self.items
is_set c =
    subst IsDomainSet (sym (dedup_is bytes_eq _ _ c.dedup.ensures.filtered))
    (in_order (dedup bytes_eq c.sort.new.self.items) (IsStrictlySortedBy-dedup nat_list_cmp_total texts_ties c.sort.new.self.items c.in_ok-sort.ensures.sorted))

members : (c : goal.After-dedup) → (domain : Bytes) → Contains c.dedup.new.self.items domain ↔ Contains c.args.domains.items domain
members c = λ domain.
    let e = dedup_is bytes_eq _ _ c.dedup.ensures.filtered in
    let p = c.in_ok-sort.ensures.permutation in (
      λ h. Contains-permutation _ _ domain (IsPermutation-sym _ _ p) (Contains-from_dedup bytes_eq c.sort.new.self.items domain (subst (λ xs. Contains xs domain) e h)),
      λ h. subst (λ xs. Contains xs domain) (sym e) (Contains-dedup nat_list_eq_equiv text_is c.sort.new.self.items domain (Contains-permutation _ _ domain p h)),
    )

pub returns : goal.returns
returns c = is_domain_set _ c.args.domains.items (is_set c) (members c) ∙ same_set c.args.domains.items
