-- The calls of a seat in a journal and in a prefix of it.
use Rattle.std.proofs.Common.{◌≡◌, ◌≢◌, ℕ, ◌≤◌, ◌+◌, ◌==◌, MatchBool, Bool, true, false, cond, List, [], ◌∷◌, ◌++◌, length, refl, sym, ap, subst, ◌∙◌, arith, length-append}
use Rattle.std.proofs.lemmas.List.{append-nil}
use Rattle.std.proofs.lemmas.Bool.Decides.{nat_tests}
use mathlib.Core.List.{IsPrefix}
use Rattle.commit_head.specs.declared.item.Item.{Item}
use Rattle.shared_registry.specs.SeatCalls.{calls_of, AllBelow}

calls_prefix : (s : ℕ) (i : Item) (t : Bool) (xs ys zs : List ℕ) → zs ≡ xs ++ ys → cond t (i.call ∷ zs) zs ≡ cond t (i.call ∷ xs) xs ++ ys
calls_prefix s i true xs ys zs e = ap (λ w. i.call ∷ w) e
calls_prefix s i false xs ys zs e = e

pub calls_more : (s : ℕ) (xs ys : List Item) → calls_of s (xs ++ ys) ≡ calls_of s xs ++ calls_of s ys
calls_more s [] ys = refl
calls_more s (i ∷ xs) ys = calls_prefix s i (i.seat == s) (calls_of s xs) (calls_of s ys) (calls_of s (xs ++ ys)) (calls_more s xs ys)

none_left : (xs : List ℕ) → length xs ≡ 0 → xs ≡ []
none_left [] e = refl
none_left (x ∷ xs) e = absurd (omega arith)

-- a journal with as many calls as its prefix has no others
pub calls_same : (s : ℕ) (xs ys : List Item) → IsPrefix xs ys → length (calls_of s xs) ≡ length (calls_of s ys) → calls_of s ys ≡ calls_of s xs
calls_same s xs ys p e =
    let m = calls_more s xs p.0 in
    let whole : calls_of s ys ≡ calls_of s xs ++ calls_of s p.0 = ap (λ l. calls_of s l) (sym p.1) ∙ m in
    let n : length (calls_of s p.0) ≡ 0 = omega (arith, e, ap length whole, length-append (calls_of s xs) (calls_of s p.0)) in
    whole ∙ ap (λ w. calls_of s xs ++ w) (none_left (calls_of s p.0) n) ∙ append-nil (calls_of s xs)

-- so the counts of its calls decide whether it has others
pub same_by_count : (s n k : ℕ) (xs ys : List Item) → IsPrefix xs ys → n ≡ length (calls_of s ys) → k ≡ length (calls_of s xs)
    → (b : Bool) → (n == k) ≡ b → MatchBool b (calls_of s ys ≡ calls_of s xs) (calls_of s ys ≢ calls_of s xs)
same_by_count s n k xs ys p m l true is = let same : n ≡ k = grind (arith, nat_tests) in calls_same s xs ys p (omega arith)
same_by_count s n k xs ys p m l false is = λ e. let same = ap length e in let equal : n ≡ k = omega arith in grind (arith, nat_tests)

pub below_more : (c d : ℕ) (xs : List ℕ) → c ≤ d → AllBelow c xs → AllBelow d xs
below_more c d [] le b = tt
below_more c d (x ∷ xs) le b = (omega arith, below_more c d xs le b.1)

calls_here : (s : ℕ) (e : Item) → e.seat ≡ s → calls_of s (e ∷ []) ≡ e.call ∷ []
calls_here s e is = let t : (e.seat == s) ≡ true = grind (arith, nat_tests) in ap (λ b. cond b (e.call ∷ []) []) t

-- one more call
pub calls_snoc : (s : ℕ) (log : List Item) (e : Item) → e.seat ≡ s → calls_of s (log ++ e ∷ []) ≡ calls_of s log ++ e.call ∷ []
calls_snoc s log e is = calls_more s log (e ∷ []) ∙ ap (λ w. calls_of s log ++ w) (calls_here s e is)

calls_short : (s : ℕ) (i : Item) (t : Bool) (xs : List ℕ) (n : ℕ) → length xs ≤ n → length (cond t (i.call ∷ xs) xs) ≤ n + 1
calls_short s i true xs n le = omega arith
calls_short s i false xs n le = omega arith

pub calls_length : (s : ℕ) (log : List Item) → length (calls_of s log) ≤ length log
calls_length s [] = omega arith
calls_length s (i ∷ log) = let h = calls_short s i (i.seat == s) (calls_of s log) (length log) (calls_length s log) in omega arith

pub below_snoc : (c : ℕ) (xs : List ℕ) → AllBelow (c + 1) xs → AllBelow (c + 1) (xs ++ c ∷ [])
below_snoc c [] b = (omega arith, tt)
below_snoc c (x ∷ xs) b = (b.0, below_snoc c xs b.1)

-- ---- a prefix whose last item is the seat's own

pub own_more : (s : ℕ) (prefix log : List Item) (e : Item) → prefix ≡ log ++ e ∷ [] → e.seat ≡ s → calls_of s prefix ≡ calls_of s log ++ e.call ∷ []
own_more s prefix log e f is = ap (calls_of s) f ∙ calls_snoc s log e is

pub count_more : (s : ℕ) (prefix log : List Item) (e : Item) → prefix ≡ log ++ e ∷ [] → e.seat ≡ s → length (calls_of s prefix) ≡ length (calls_of s log) + 1
count_more s prefix log e f is = ap length (own_more s prefix log e f is) ∙ length-append (calls_of s log) (e.call ∷ [])

pub below_own : (c s : ℕ) (prefix log : List Item) (e : Item) → prefix ≡ log ++ e ∷ [] → e.seat ≡ s → e.call ≡ c → AllBelow (c + 1) (calls_of s log) → AllBelow (c + 1) (calls_of s prefix)
below_own c s prefix log e f is call b = subst (AllBelow (c + 1)) (ap (λ k. calls_of s log ++ k ∷ []) (sym call) ∙ sym (own_more s prefix log e f is)) (below_snoc c (calls_of s log) b)
