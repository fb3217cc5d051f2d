-- The length of a list without repeats.
use Rattle.std.proofs.Common.{◌≡◌, ◌<◌, ◌≤◌, suc, true, false, not, cond, List, [], ◌∷◌, length, refl, subst, inl, inr, ⊎_elim, arith}
use Rattle.std.specs.Prelude.{filter, bytes_eq}
use Rattle.std.proofs.lemmas.Bool.{both_ways, not_from_false, false_from_ne_true}
use Rattle.entry_book.specs.Rows.{Bytes}
use Rattle.entry_book.specs.Order.{Within, Ascending, is_before}
use Rattle.entry_book.proofs.Sets.{All-within, before-irrefl, within_filter, length_filter_le, text_is, text_same}
use Rattle.batch_work.specs.Walked.{EachOnce}

fewer_without : (x : Bytes) (ys : List Bytes) → Within ys x → length (filter (λ y. not (bytes_eq y x)) ys) < length ys
fewer_without x [] w = absurd w
fewer_without x (y ∷ ys) w = elim (bytes_eq y x) as (λ t. bytes_eq y x ≡ t → length (cond (not t) (y ∷ filter (λ y. not (bytes_eq y x)) ys) (filter (λ y. not (bytes_eq y x)) ys)) < suc (length ys)) [
  | true ↦ λ e. let l = length_filter_le (λ y. not (bytes_eq y x)) ys in omega arith
  | false ↦ λ e. let l = fewer_without x ys (⊎_elim (λ q. absurd (both_ways _ e (text_same y x q))) (λ v. v) w) in omega arith
] refl

-- it isn't longer than a list that has all its items
pub no_longer : (xs ys : List Bytes) → EachOnce xs → ((x : Bytes) → Within xs x → Within ys x) → length xs ≤ length ys
no_longer [] ys d h = omega arith
no_longer (x ∷ xs) ys d h =
    let l = fewer_without x ys (h x (inl refl)) in
    let r = no_longer xs (filter (λ y. not (bytes_eq y x)) ys) d.1 (λ z w. within_filter (λ y. not (bytes_eq y x)) ys z (h z (inr w)) (not_from_false _ (false_from_ne_true _ (λ t. d.0 (subst (Within xs) (text_is z x t) w))))) in
    omega arith

pub once : (xs : List Bytes) → Ascending (λ t. t) xs → EachOnce xs
once [] a = tt
once (x ∷ xs) a = (λ w. before-irrefl x (All-within (λ y. is_before x y ≡ true) xs x a.0 w), once xs a.1)
