-- A text is a selector exactly if it isn't refused as one, and it spells one pair.
use Rattle.std.proofs.Common.{◌≡◌, ◌∙◌, ℕ, ◌+◌, ◌<◌, ◌≤◌, Bool, true, false, cond, not, ◌||◌, List, [], ◌∷◌, ◌++◌, length, take, drop, suc, Option, Some, None, refl, sym, ap, subst, arith}
use Rattle.std.specs.Prelude.{bytes_eq}
use Rattle.std.specs.Cmp.Lexicographic.{bytes_decides}
use Rattle.spiffe_name.specs.SelectorOrder.{selector_eq, selector_eq_equiv}
use Rattle.std.specs.Option.{IsSome, MatchOption}
use Rattle.std.specs.List.{list_all, list_any, position_or_len}
use Rattle.std.proofs.Math.Seq.{take-append_seam, drop-append-add}
use Rattle.std.proofs.lemmas.Bool.{eqb-true, ltb-false}
use Rattle.std.proofs.lemmas.List.Sums.{passes_at_first, split_at_first}
use Rattle.spiffe_name.specs.declared.refusals.SelectorRefusal.TheVariants.{NoColon}
use Rattle.spiffe_name.specs.Selector.{SelectorPair, SpellsSelector, is_colon, pair_of, selector_refusal, selector_text}
use Rattle.spiffe_name.proofs.Tables.{both_true, if_false, if_not, if_true, is_not, not_above, not_some, not_zero, zero_not}

-- ---- the first colon

pub position-any : (xs : List ℕ) → list_any is_colon xs ≡ true → position_or_len is_colon xs < length xs
position-any [] e = cc
position-any (x ∷ xs) e =
    elim (is_colon x) as (λ b. (b || list_any is_colon xs) ≡ true → cond (not b) (1 + position_or_len is_colon xs) 0 < length (x ∷ xs)) [
      | true ↦ λ k. omega arith
      | false ↦ λ k. let h = position-any xs k in omega arith
    ] e

pub position-none : (xs : List ℕ) → list_any is_colon xs ≡ false → position_or_len is_colon xs ≡ length xs
position-none [] e = refl
position-none (x ∷ xs) e =
    elim (is_colon x) as (λ b. (b || list_any is_colon xs) ≡ false → cond (not b) (1 + position_or_len is_colon xs) 0 ≡ length (x ∷ xs)) [
      | true ↦ λ k. cc
      | false ↦ λ k. let h = position-none xs k in omega arith
    ] e

-- a text with a colon is its two parts around the first one
pub joined-any : (xs : List ℕ) → list_any is_colon xs ≡ true → xs ≡ selector_text (pair_of xs)
joined-any xs e =
    let l = position-any xs e in
    let c = eqb-true _ _ (passes_at_first is_colon xs 0 l) in
    split_at_first is_colon xs 0 l ∙ ap (λ b. (pair_of xs).type ++ b ∷ (pair_of xs).value) c

take-front : (p : ℕ → Bool) (n : ℕ) (x : ℕ) (xs : List ℕ) → p x ≡ true → list_all p (take n xs) ≡ true → list_all p (take (1 + n) (x ∷ xs)) ≡ true
take-front p n x xs t h = let e : 1 + n ≡ suc n = omega arith in rw e (rw t h)

pub no_colon-before : (xs : List ℕ) → list_all (λ b. not (is_colon b)) (pair_of xs).type ≡ true
no_colon-before [] = refl
no_colon-before (x ∷ xs) =
    elim (is_colon x) as (λ b. is_colon x ≡ b → list_all (λ b. not (is_colon b)) (take (cond (not b) (1 + position_or_len is_colon xs) 0) (x ∷ xs)) ≡ true) [
      | true ↦ λ e. refl
      | false ↦ λ e. take-front (λ b. not (is_colon b)) (position_or_len is_colon xs) x xs (ap not e) (no_colon-before xs)
    ] refl

-- ---- in a concatenation, the first colon is the one after the type

one_more : (b : Bool) (n k : ℕ) → b ≡ true → n ≡ k → cond b (1 + n) 0 ≡ suc k
one_more true n k t e = omega arith
one_more false n k t e = cc

position-joined : (t v : List ℕ) → list_all (λ b. not (is_colon b)) t ≡ true → position_or_len is_colon (t ++ 58 ∷ v) ≡ length t
position-joined [] v h = refl
position-joined (b ∷ t) v h = let k = both_true _ _ h in one_more _ _ _ k.0 (position-joined t v k.1)

pub same_pair : (a b : SelectorPair) → a.type ≡ b.type → a.value ≡ b.value → a ≡ b
same_pair a b t v =
    let f : List ℕ → SelectorPair = λ x. record { type = x; value = a.value } in
    let g : List ℕ → SelectorPair = λ y. record { type = b.type; value = y } in
    ap f t ∙ ap g v

pub pair_of-joined : (pair : SelectorPair) → list_all (λ b. not (is_colon b)) pair.type ≡ true → pair_of (selector_text pair) ≡ pair
pair_of-joined pair h =
    let e = position-joined pair.type pair.value h in
    let t : (pair_of (selector_text pair)).type ≡ pair.type = ap (λ n. take n (selector_text pair)) e ∙ take-append_seam pair.type (58 ∷ pair.value) in
    let v : (pair_of (selector_text pair)).value ≡ pair.value = ap (λ n. drop (n + 1) (selector_text pair)) e ∙ drop-append-add pair.type (58 ∷ pair.value) 1 in
    same_pair (pair_of (selector_text pair)) pair t v

any-joined : (t v : List ℕ) → list_any is_colon (t ++ 58 ∷ v) ≡ true
any-joined [] v = refl
any-joined (b ∷ t) v = elim (is_colon b) as (λ c. (c || list_any is_colon (t ++ 58 ∷ v)) ≡ true) [ true ↦ refl | false ↦ any-joined t v ]

-- ---- a text that isn't refused is a selector

pub SpellsSelector-from_none : (text : List ℕ) → selector_refusal text ≡ None → SpellsSelector text (pair_of text)
unfolding selector_refusal
SpellsSelector-from_none text e =
    let a = not_some _ _ _ e in
    let b = is_not _ _ _ a.1 in
    let c = not_some _ _ _ b.1 in
    let d = not_some _ _ _ c.1 in
    record {
      joined = joined-any text b.0;
      fits = ltb-false _ _ a.0;
      has_type = not_zero _ c.0;
      has_value = not_zero _ d.0;
      no_colon = no_colon-before text;
    }

-- the one pair that a text spells
pub pair_of-Spells : (text : List ℕ) (pair : SelectorPair) → SpellsSelector text pair → pair_of text ≡ pair
pair_of-Spells text pair h = ap pair_of h.joined ∙ pair_of-joined pair h.no_colon

pub none_from_SpellsSelector : (text : List ℕ) (pair : SelectorPair) → SpellsSelector text pair → selector_refusal text ≡ None
unfolding selector_refusal
none_from_SpellsSelector text pair h =
    let e = pair_of-Spells text pair h in
    let t : 0 < length (pair_of text).type = subst (λ (p : SelectorPair). 0 < length p.type) (sym e) h.has_type in
    let v : 0 < length (pair_of text).value = subst (λ (p : SelectorPair). 0 < length p.value) (sym e) h.has_value in
    if_false _ _ _ (not_above _ _ h.fits)
    ∙ (if_not _ _ _ (ap (list_any is_colon) h.joined ∙ any-joined pair.type pair.value)
    ∙ (if_false _ _ _ (zero_not _ t) ∙ if_false _ _ _ (zero_not _ v)))

-- ---- if no colon is found, the text has none

none-colon : (xs : List ℕ) (b : Bool) → list_any is_colon xs ≡ b → position_or_len is_colon xs ≡ length xs → b ≡ false
none-colon xs true e h = let l = position-any xs e in absurd (omega arith)
none-colon xs false e h = refl

pub refused-no_colon : (text : List ℕ) → length text ≤ 512 → position_or_len is_colon text ≡ length text → selector_refusal text ≡ Some NoColon
unfolding selector_refusal
refused-no_colon text l h = if_false _ _ _ (not_above _ _ l) ∙ if_true _ _ _ (ap not (none-colon text _ refl h))

pub found_colon : (text : List ℕ) → selector_refusal text ≡ None → position_or_len is_colon text < length text
unfolding selector_refusal
found_colon text e = position-any text (is_not _ _ _ (not_some _ _ _ e).1).0

pub cut_somewhere : {A : Type 0} (cut : Option A) (p n : ℕ) (Q : A → Type 0) → MatchOption cut (p ≡ n) Q → p < n → IsSome cut
cut_somewhere None p n Q h l = absurd (omega arith)
cut_somewhere (Some x) p n Q h l = refl

-- ---- equality

pub pair_is : (a b : SelectorPair) → selector_eq a b ≡ true → a ≡ b
pair_is a b e = let k = both_true _ _ e in same_pair a b ((bytes_decides a.type b.type).0 k.0) ((bytes_decides a.value b.value).0 k.1)

pub pair_same : (a b : SelectorPair) → a ≡ b → selector_eq a b ≡ true
pair_same a b e = ap (selector_eq a) (sym e) ∙ selector_eq_equiv.refl a

-- texts are equal exactly if their pairs are
pub bytes_eq-Spells : (t u : List ℕ) (a b : SelectorPair) → SpellsSelector t a → SpellsSelector u b → bytes_eq t u ≡ selector_eq a b
bytes_eq-Spells t u a b g h =
    elim (selector_eq a b) as (λ s. selector_eq a b ≡ s → bytes_eq t u ≡ s) [
      | true ↦ λ e. (bytes_decides t u).1 (g.joined ∙ (ap selector_text (pair_is a b e) ∙ sym h.joined))
      | false ↦ λ e. elim (bytes_eq t u) as (λ r. bytes_eq t u ≡ r → r ≡ false) [
        | true ↦ λ k. sym (pair_same a b (sym (pair_of-Spells t a g) ∙ (ap pair_of ((bytes_decides t u).0 k) ∙ pair_of-Spells u b h))) ∙ e
        | false ↦ λ k. refl
      ] refl
    ] refl
