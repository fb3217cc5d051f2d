-- The listed calls of a sound machine, sorted by their turns, are in the order of the line.
use Rattle.std.proofs.Common.{◌≡◌, ◌↔◌, ℕ, zero, suc, ◌<◌, ◌≤◌, Bool, true, false, cond, List, [], ◌∷◌, length, refl, sym, ap, subst, ◌∙◌, inl, inr, ⊎_elim, arith}
use Rattle.std.specs.Prelude.{map, filter, ⊤, nat_eq, slice_index_or}
use Rattle.std.specs.List.{AllByRecursion, IsDistinct}
use Rattle.std.specs.List.Sorted.{IsPermutation, IsNonDecreasingBy}
use Rattle.std.proofs.lemmas.Bool.{eqb-true, cases_Bool}
use Rattle.std.proofs.lemmas.Bool.Decides.{nat_tests}
use Rattle.std.proofs.lemmas.List.Elements.{recursion_from_All, All-from_recursion}
use Rattle.std.proofs.lemmas.List.Sorted.{All-permutation, IsPermutation-sym}
use Rattle.std.proofs.lemmas.Map.Keys.{IsDistinct-IsPermutation, IsDistinct-head, IsDistinct-tail, IsDistinct-cons}
use Rattle.entry_book.specs.Order.{Within}
use Rattle.entry_book.proofs.Sets.{All-within, All-from_within, within_filter, from_within_filter}
use Rattle.call_machine.specs.Schedules.{Different}
use Rattle.call_machine.specs.Calls.{Call}
use Rattle.call_machine.specs.Laws.{is_listed, turn_of, turn_in, number_of_turn}
use Rattle.call_machine.specs.Kept.{AscendingTurns, number_of}

-- ---- ascending pairs

abbrev Rises : List (ℕ × ℕ) → Type 0
Rises [] = ⊤
Rises (p ∷ ps) = AllByRecursion (λ q. p.0 < q.0) ps × Rises ps

same_rising : (xs ys : List (ℕ × ℕ)) → Rises xs → Rises ys → ((x : ℕ × ℕ) → Within xs x → Within ys x) → ((x : ℕ × ℕ) → Within ys x → Within xs x) → xs ≡ ys
same_rising [] [] a b f g = refl
same_rising [] (y ∷ ys) a b f g = absurd (g y (inl refl))
same_rising (x ∷ xs) [] a b f g = absurd (f x (inl refl))
same_rising (x ∷ xs) (y ∷ ys) a b f g =
    let below : (z : ℕ × ℕ) → Within ys z → y.0 < z.0 = λ z w. All-within (λ z. y.0 < z.0) ys z b.0 w in
    let above : (z : ℕ × ℕ) → Within xs z → x.0 < z.0 = λ z w. All-within (λ z. x.0 < z.0) xs z a.0 w in
    let head : x ≡ y = ⊎_elim (λ e. sym e) (λ v. ⊎_elim (λ e. e) (λ w. let p = above y w in let q = below x v in absurd (omega arith)) (g y (inl refl))) (f x (inl refl)) in
    let tail : xs ≡ ys = same_rising xs ys a.1 b.1
    (λ z w. ⊎_elim (λ e. let p = above z w in let q : z ≡ x = sym e ∙ sym head in let r = ap turn_in q in absurd (omega arith)) (λ v. v) (f z (inr w)))
    (λ z w. ⊎_elim (λ e. let p = below z w in let q : z ≡ y = sym e ∙ head in let r = ap turn_in q in absurd (omega arith)) (λ v. v) (g z (inr w))) in
    cc

-- ---- from what a sort ensures

all_by_index : (P : ℕ × ℕ → Type 0) (xs : List (ℕ × ℕ)) → ((j : ℕ) (d : ℕ × ℕ) → j < length xs → P (slice_index_or xs j d)) → AllByRecursion P xs
all_by_index P [] f = tt
all_by_index P (x ∷ xs) f = (f zero x (omega arith), all_by_index P xs (λ j d l. f (suc j) d (omega arith)))

tail_sorted : (x : ℕ × ℕ) (xs : List (ℕ × ℕ)) → IsNonDecreasingBy turn_in (x ∷ xs) → IsNonDecreasingBy turn_in xs
tail_sorted x xs h i j d l m = h (suc i) (suc j) d (omega arith) (omega arith)

abbrev same_turn : ℕ × ℕ → ℕ × ℕ → Bool
same_turn p q = nat_eq p.0 q.0

flips : (x y : ℕ × ℕ) → same_turn x y ≡ same_turn y x
flips x y = grind (arith, nat_tests)

apart : (a b : ℕ) → a ≤ b → nat_eq a b ≡ false → a < b
apart a b l e = grind (arith, nat_tests)

both : {X : Type 0} (P Q R : X → Type 0) (xs : List X) → ((x : X) → P x → Q x → R x) → AllByRecursion P xs → AllByRecursion Q xs → AllByRecursion R xs
both P Q R [] f p q = tt
both P Q R (x ∷ xs) f p q = (f x p.0 q.0, both P Q R xs f p.1 q.1)

rises : (xs : List (ℕ × ℕ)) → IsNonDecreasingBy turn_in xs → IsDistinct same_turn xs → Rises xs
rises [] h d = tt
rises (x ∷ xs) h d = (
  both (λ y. x.0 ≤ y.0) (λ y. same_turn x y ≡ false) (λ y. x.0 < y.0) xs (λ y l e. apart x.0 y.0 l e)
      (all_by_index (λ y. x.0 ≤ y.0) xs (λ j e l. h zero (suc j) e (omega arith) (omega arith)))
      (IsDistinct-head same_turn x xs d),
  rises xs (tail_sorted x xs h) (IsDistinct-tail same_turn x xs d),
)

-- ---- the calls

within_turns : (cs : List Call) (c : Call) → Within cs c → Within (map turn_of cs) (turn_of c)
within_turns [] c w = absurd w
within_turns (d ∷ ds) c w = ⊎_elim (λ e. inl (ap turn_of e)) (λ v. inr (within_turns ds c v)) w

from_within_turns : (cs : List Call) (p : ℕ × ℕ) → Within (map turn_of cs) p → (c : Call) × Within cs c × (turn_of c ≡ p)
from_within_turns [] p w = absurd w
from_within_turns (d ∷ ds) p w = ⊎_elim (λ e. (d, inl refl, e)) (λ v. let r = from_within_turns ds p v in (r.0, inr r.1, r.2)) w

rising_turns : (cs : List Call) → AscendingTurns cs → Rises (map turn_of cs)
rising_turns [] a = tt
rising_turns (c ∷ cs) a = (
  All-from_within (λ q. c.turn < q.0) (map turn_of cs) (λ q w. let r = from_within_turns cs q w in let l = All-within (λ d. c.turn < d.turn) cs r.0 a.0 r.1 in let e = ap turn_in r.2 in omega arith),
  rising_turns cs a.1,
)

number_within : (cs : List Call) (c : Call) → Within cs c → Within (map number_of cs) c.number
number_within [] c w = absurd w
number_within (d ∷ ds) c w = ⊎_elim (λ e. inl (ap number_of e)) (λ v. inr (number_within ds c v)) w

none_distinct : IsDistinct same_turn []
unfolding IsDistinct
none_distinct = tt

-- calls of different numbers have different turns, if calls of equal turns are equal
distinct_turns : (cs : List Call) → Different (map number_of cs) → ((x y : Call) → Within cs x → Within cs y → x.turn ≡ y.turn → x ≡ y) → IsDistinct same_turn (map turn_of cs)
distinct_turns [] d f = none_distinct
distinct_turns (c ∷ cs) d f = IsDistinct-cons same_turn (turn_of c) (map turn_of cs)
    (All-from_within (λ q. same_turn (turn_of c) q ≡ false) (map turn_of cs) (λ q w.
    let r = from_within_turns cs q w in
    ⊎_elim
    (λ t.
    let e : c ≡ r.0 = f c r.0 (inl refl) (inr r.1) (eqb-true c.turn q.0 t ∙ sym (ap turn_in r.2)) in
    absurd (All-within (λ n. c.number ≡ n → ⊥) (map number_of cs) r.0.number d.0 (number_within cs r.0 r.1) (ap number_of e)))
    (λ t. t)
    (cases_Bool (same_turn (turn_of c) q))))
    (distinct_turns cs d.1 (λ x y w v e. f x y (inr w) (inr v) e))

different_filter : (cs : List Call) → Different (map number_of cs) → Different (map number_of (filter is_listed cs))
different_filter [] d = tt
different_filter (c ∷ cs) d =
    let rest = different_filter cs d.1 in
    elim (is_listed c) as (λ b. Different (map number_of (cond b (c ∷ filter is_listed cs) (filter is_listed cs)))) [
      | true ↦ (
        All-from_within (λ n. c.number ≡ n → ⊥) (map number_of (filter is_listed cs)) (λ n w.
            let r = back (filter is_listed cs) n w in
            subst (λ m. c.number ≡ m → ⊥) r.2 (All-within (λ n. c.number ≡ n → ⊥) (map number_of cs) r.0.number d.0 (number_within cs r.0 (from_within_filter is_listed cs r.0 r.1).0))),
        rest,
      )
      | false ↦ rest
    ]
  where
    back : (cs : List Call) (n : ℕ) → Within (map number_of cs) n → (c : Call) × Within cs c × (c.number ≡ n)
    back [] n w = absurd w
    back (d ∷ ds) n w = ⊎_elim (λ e. (d, inl refl, e)) (λ v. let r = back ds n v in (r.0, inr r.1, r.2)) w

same_by_turn : (cs : List Call) (x y : Call) → AscendingTurns cs → Within cs x → Within cs y → x.turn ≡ y.turn → x ≡ y
same_by_turn [] x y a w v e = absurd w
same_by_turn (c ∷ cs) x y a w v e = ⊎_elim
    (λ i. ⊎_elim
    (λ j. sym i ∙ j)
    (λ k. let l = All-within (λ d. c.turn < d.turn) cs y a.0 k in let q = ap (λ (d : Call). d.turn) i in absurd (omega arith))
    v)
    (λ h. ⊎_elim
    (λ j. let l = All-within (λ d. c.turn < d.turn) cs x a.0 h in let q = ap (λ (d : Call). d.turn) j in absurd (omega arith))
    (λ k. same_by_turn cs x y a.1 h k e)
    v)
    w

-- ---- all together

pub turns_are : (calls line : List Call) (turns : List (ℕ × ℕ)) → Different (map number_of calls) → AscendingTurns line → ((c : Call) → Within line c ↔ (Within calls c × (is_listed c ≡ true))) → IsPermutation (map turn_of (filter is_listed calls)) turns → IsNonDecreasingBy turn_in turns → turns ≡ map turn_of line
turns_are calls line turns d a m p n =
    let cs = filter is_listed calls in
    let to_line : (c : Call) → Within cs c → Within line c = λ c w. (m c).1 (from_within_filter is_listed calls c w) in
    let from_line : (c : Call) → Within line c → Within cs c = λ c w. let q = (m c).0 w in within_filter is_listed calls c q.0 q.1 in
    let distinct = distinct_turns cs (different_filter calls d) (λ x y w v e. same_by_turn line x y a (to_line x w) (to_line y v) e) in
    let back = recursion_from_All (Within (map turn_of cs)) turns (All-permutation (Within (map turn_of cs)) (map turn_of cs) turns p (All-from_recursion (Within (map turn_of cs)) (map turn_of cs) (All-from_within (Within (map turn_of cs)) (map turn_of cs) (λ x w. w)))) in
    let forth = recursion_from_All (Within turns) (map turn_of cs) (All-permutation (Within turns) turns (map turn_of cs) (IsPermutation-sym (map turn_of cs) turns p) (All-from_recursion (Within turns) turns (All-from_within (Within turns) turns (λ x w. w)))) in
    same_rising turns (map turn_of line)
    (rises turns n (IsDistinct-IsPermutation same_turn flips (map turn_of cs) turns p distinct))
    (rising_turns line a)
    (λ x w. let r = from_within_turns cs x (All-within (Within (map turn_of cs)) turns x back w) in subst (Within (map turn_of line)) r.2 (within_turns line r.0 (to_line r.0 r.1)))
    (λ x w. let r = from_within_turns line x w in All-within (Within turns) (map turn_of cs) x forth (subst (Within (map turn_of cs)) r.2 (within_turns cs r.0 (from_line r.0 r.1))))

pub numbers_are : (cs : List Call) → map number_of_turn (map turn_of cs) ≡ map number_of cs
numbers_are [] = refl
numbers_are (c ∷ cs) = ap (λ l. c.number ∷ l) (numbers_are cs)
