-- Entries found by a walk, and others that are put among them.
use Rattle.std.proofs.Common.{◌≡◌, ◌+◌, Bool, true, false, cond, not, ◌&&◌, ◌||◌, ◌⊎◌, List, [], ◌∷◌, Some, length, refl, sym, ap, subst, ◌∙◌, inl, inr, ⊎_elim, arith}
use Rattle.std.specs.Prelude.{filter, bytes_eq, is_some}
use Rattle.std.proofs.lemmas.Bool.{both_ways, cases_Bool, or_cases, or_left, or_right}
use Rattle.entry_book.specs.Rows.{Entry, entry_key}
use Rattle.entry_book.specs.Order.{Ascending, Within, first, with_row}
use Rattle.entry_book.proofs.Filters.{filter-filter}
use Rattle.entry_book.proofs.InOrder.{ascending-with_row}
use Rattle.entry_book.proofs.Keys.{from_with_row, new_with_row, row_alone, same_key, within_with_row}
use Rattle.entry_book.proofs.Sets.{ascending_filter, from_within_filter, same_sets, text_is, text_same, within_filter}
use Rattle.plain_book.specs.Found.{is_missing, with_all}

-- ---- filters

pub same_filter : {X : Type 0} (p q : X → Bool) (xs : List X) → ((x : X) → Within xs x → p x ≡ q x) → filter p xs ≡ filter q xs
same_filter p q [] f = refl
same_filter p q (x ∷ xs) f = ap (λ b. cond b (x ∷ filter p xs) (filter p xs)) (f x (inl refl)) ∙ ap (λ l. cond (q x) (x ∷ l) l) (same_filter p q xs (λ y w. f y (inr w)))

pub filter_both : {X : Type 0} (p q : X → Bool) (xs : List X) → filter q (filter p xs) ≡ filter (λ x. p x && q x) xs
filter_both p q [] = refl
filter_both p q (x ∷ xs) =
    let rest = filter_both p q xs in
    elim (p x) as (λ a. filter q (cond a (x ∷ filter p xs) (filter p xs)) ≡ cond (a && q x) (x ∷ filter (λ x. p x && q x) xs) (filter (λ x. p x && q x) xs)) [
      | true ↦ ap (λ l. cond (q x) (x ∷ l) l) rest
      | false ↦ rest
    ]

pub counted : {X : Type 0} (p q : X → Bool) (xs : List X) → length (filter (λ x. p x || q x) xs) ≡ length (filter p xs) + length (filter (λ x. not (p x) && q x) xs)
counted p q [] = refl
counted {X} p q (x ∷ xs) =
    let either : List X = filter (λ x. p x || q x) xs in
    let new : List X = filter (λ x. not (p x) && q x) xs in
    let rest = counted p q xs in
    elim (p x) as (λ b. length (cond (b || q x) (x ∷ either) either) ≡ length (cond b (x ∷ filter p xs) (filter p xs)) + length (cond (not b && q x) (x ∷ new) new)) [
      | true ↦ omega arith
      | false ↦ elim (q x) as (λ c. length (cond c (x ∷ either) either) ≡ length (filter p xs) + length (cond c (x ∷ new) new)) [ true ↦ omega arith | false ↦ omega arith ]
    ]

-- ---- the entries that pass one test but not another

and_swapped : (a b : Bool) → (a && b) ≡ (b && a)
and_swapped true true = refl
and_swapped true false = refl
and_swapped false true = refl
and_swapped false false = refl

missing_is : (p : Entry → Bool) (es : List Entry) → Ascending entry_key es → (e : Entry) → Within es e → is_missing (filter p es) e ≡ not (p e)
missing_is p es a e w =
    ap (λ l. not (is_some (first l))) (filter-filter (λ x. bytes_eq x.id e.id) p es ∙ ap (filter p) (row_alone entry_key e.id es e a w refl))
    ∙ (elim (p e) as (λ b. not (is_some (first (cond b (e ∷ []) []))) ≡ not b) [ true ↦ refl | false ↦ refl ])

pub new_found : (p q : Entry → Bool) (es : List Entry) → Ascending entry_key es → filter (is_missing (filter p es)) (filter q es) ≡ filter (λ e. not (p e) && q e) es
new_found p q es a =
    filter_both q (is_missing (filter p es)) es
    ∙ same_filter (λ e. q e && is_missing (filter p es) e) (λ e. not (p e) && q e) es (λ e w. ap (λ b. q e && b) (missing_is p es a e w) ∙ and_swapped (q e) (not (p e)))

-- ---- entries put among others

with_all_ascend : (rows found : List Entry) → Ascending entry_key found → Ascending entry_key (with_all rows found)
with_all_ascend [] found a = a
with_all_ascend (e ∷ es) found a = with_all_ascend es (with_row entry_key e.id (Some e) found) (ascending-with_row entry_key e.id (Some e) found a refl)

from_with_all : (rows found : List Entry) (x : Entry) → Within (with_all rows found) x → Within rows x ⊎ Within found x
from_with_all [] found x w = inr w
from_with_all (e ∷ es) found x w = ⊎_elim
    (λ l. inl (inr l))
    (λ r. ⊎_elim (λ n. ⊎_elim (λ q. inl (inl q)) (λ z. absurd z) n) (λ k. inr k.0) (from_with_row entry_key e.id (Some e) found x r))
    (from_with_all es (with_row entry_key e.id (Some e) found) x w)

kept_by_all : (rows found : List Entry) (x : Entry) → Within found x → ((e : Entry) → Within rows e → x.id ≡ e.id → x ≡ e) → Within (with_all rows found) x
kept_by_all [] found x w h = w
kept_by_all (e ∷ es) found x w h = kept_by_all es (with_row entry_key e.id (Some e) found) x
    (⊎_elim
    (λ t. subst (Within (with_row entry_key e.id (Some e) found)) (sym (h e (inl refl) (text_is x.id e.id t))) (new_with_row entry_key e.id e found))
    (λ f. within_with_row entry_key e.id (Some e) found x w (λ q. both_ways (bytes_eq x.id e.id) f (text_same x.id e.id q)))
    (cases_Bool (bytes_eq x.id e.id)))
    (λ d v. h d (inr v))

put_by_all : (rows found : List Entry) (x : Entry) → Within rows x → ((d e : Entry) → Within rows d → Within rows e → d.id ≡ e.id → d ≡ e) → Within (with_all rows found) x
put_by_all [] found x w h = absurd w
put_by_all (e ∷ es) found x w h = ⊎_elim
    (λ q. kept_by_all es (with_row entry_key e.id (Some e) found) x (subst (Within (with_row entry_key e.id (Some e) found)) q (new_with_row entry_key e.id e found)) (λ d v i. h x d (inl q) (inr v) i))
    (λ v. put_by_all es (with_row entry_key e.id (Some e) found) x v (λ c d u t. h c d (inr u) (inr t)))
    w

pub all_found : (p q : Entry → Bool) (es : List Entry) → Ascending entry_key es → with_all (filter q es) (filter p es) ≡ filter (λ e. p e || q e) es
all_found p q es a = same_sets entry_key (with_all (filter q es) (filter p es)) (filter (λ e. p e || q e) es)
    (with_all_ascend (filter q es) (filter p es) (ascending_filter entry_key p es a))
    (ascending_filter entry_key (λ e. p e || q e) es a)
    (λ x w. ⊎_elim
    (λ l. let r = from_within_filter q es x l in within_filter (λ e. p e || q e) es x r.0 (or_right (p x) (q x) r.1))
    (λ l. let r = from_within_filter p es x l in within_filter (λ e. p e || q e) es x r.0 (or_left (p x) (q x) r.1))
    (from_with_all (filter q es) (filter p es) x w))
    (λ x w. let r = from_within_filter (λ e. p e || q e) es x w in
    ⊎_elim
    (λ t. kept_by_all (filter q es) (filter p es) x (within_filter p es x r.0 t) (λ e v i. same_key entry_key es a x e r.0 (from_within_filter q es e v).0 i))
    (λ t. put_by_all (filter q es) (filter p es) x (within_filter q es x r.0 t) (λ d e u v i. same_key entry_key es a d e (from_within_filter q es d u).0 (from_within_filter q es e v).0 i))
    (or_cases (p x) (q x) r.1))
