-- The calls of a machine, each under its number.
use Rattle.std.proofs.Common.{◌≡◌, ◌≢◌, ℕ, true, false, cond, ◌⊎◌, List, [], ◌∷◌, ◌++◌, Some, None, refl, sym, ap, subst, ◌∙◌, inl, inr, ⊎_elim}
use Rattle.std.specs.Prelude.{map, nat_eq}
use Rattle.std.proofs.lemmas.Bool.{both_ways, eq-eqb, eqb-true}
use Rattle.entry_book.specs.Order.{Within}
use Rattle.entry_book.proofs.Sets.{All-within, All-from_within}
use Rattle.call_machine.specs.Schedules.{Different}
use Rattle.call_machine.specs.Calls.{Call, call_at, with_call}
use Rattle.call_machine.specs.Kept.{number_of}

within_map : (cs : List Call) (c : Call) → Within cs c → Within (map number_of cs) c.number
within_map [] c w = absurd w
within_map (d ∷ ds) c w = ⊎_elim (λ e. inl (ap number_of e)) (λ v. inr (within_map ds c v)) w

pub from_within_map : (cs : List Call) (n : ℕ) → Within (map number_of cs) n → (c : Call) × Within cs c × (c.number ≡ n)
from_within_map [] n w = absurd w
from_within_map (d ∷ ds) n w = ⊎_elim (λ e. (d, inl refl, e)) (λ v. let r = from_within_map ds n v in (r.0, inr r.1, r.2)) w

pub call_within : (n : ℕ) (cs : List Call) (c : Call) → call_at n cs ≡ Some c → Within cs c × (c.number ≡ n)
call_within n [] c = λ e. cc
call_within n (d ∷ ds) c =
    elim (nat_eq n d.number) as (λ b. nat_eq n d.number ≡ b → cond b (Some d) (call_at n ds) ≡ Some c → Within (d ∷ ds) c × (c.number ≡ n)) [
      | true ↦ λ t e. let q : d ≡ c = cc in (inl q, ap number_of (sym q) ∙ sym (eqb-true n d.number t))
      | false ↦ λ t e. let r = call_within n ds c e in (inr r.0, r.1)
    ] refl

pub call_none : (n : ℕ) (cs : List Call) → call_at n cs ≡ None → (c : Call) → Within cs c → c.number ≡ n → ⊥
call_none n [] = λ e c w. absurd w
call_none n (d ∷ ds) =
    elim (nat_eq n d.number) as (λ b. nat_eq n d.number ≡ b → cond b (Some d) (call_at n ds) ≡ None → (c : Call) → Within (d ∷ ds) c → c.number ≡ n → ⊥) [
      | true ↦ λ t e. cc
      | false ↦ λ t e c w q. ⊎_elim (λ i. both_ways (nat_eq n d.number) t (eq-eqb n d.number (sym (ap number_of i ∙ q)))) (λ v. call_none n ds e c v q) w
    ] refl

-- two calls of one number are the same
pub same_call : (cs : List Call) (x y : Call) → Different (map number_of cs) → Within cs x → Within cs y → x.number ≡ y.number → x ≡ y
same_call [] x y d v w e = absurd v
same_call (z ∷ zs) x y d v w e = ⊎_elim
    (λ i. ⊎_elim
    (λ j. sym i ∙ j)
    (λ k. absurd (All-within (λ n. z.number ≡ n → ⊥) (map number_of zs) y.number d.0 (within_map zs y k) (ap number_of i ∙ e)))
    w)
    (λ h. ⊎_elim
    (λ j. absurd (All-within (λ n. z.number ≡ n → ⊥) (map number_of zs) x.number d.0 (within_map zs x h) (ap number_of j ∙ sym e)))
    (λ k. same_call zs x y d.1 h k e)
    w)
    v

-- a call is found by its number
pub call_found : (cs : List Call) (c : Call) → Different (map number_of cs) → Within cs c → call_at c.number cs ≡ Some c
call_found [] c d w = absurd w
call_found (x ∷ xs) c d w =
    elim (nat_eq c.number x.number) as (λ b. nat_eq c.number x.number ≡ b → cond b (Some x) (call_at c.number xs) ≡ Some c) [
      | true ↦ λ t. ap Some (same_call (x ∷ xs) x c d (inl refl) w (sym (eqb-true c.number x.number t)))
      | false ↦ λ t. ⊎_elim (λ i. absurd (both_ways (nat_eq c.number x.number) t (eq-eqb c.number x.number (ap number_of (sym i))))) (λ v. call_found xs c d.1 v) w
    ] refl

-- ---- a call replaces the one of its number

pub numbers-with_call : (c : Call) (cs : List Call) → map number_of (with_call c cs) ≡ map number_of cs
numbers-with_call c [] = refl
numbers-with_call c (d ∷ ds) =
    elim (nat_eq c.number d.number) as (λ b. nat_eq c.number d.number ≡ b → map number_of (cond b (c ∷ ds) (d ∷ with_call c ds)) ≡ d.number ∷ map number_of ds) [
      | true ↦ λ t. ap (λ n. n ∷ map number_of ds) (eqb-true c.number d.number t)
      | false ↦ λ t. ap (λ l. d.number ∷ l) (numbers-with_call c ds)
    ] refl

pub within_new : (c : Call) (cs : List Call) (r : Call) → Within cs r → r.number ≡ c.number → Within (with_call c cs) c
within_new c [] r w e = absurd w
within_new c (d ∷ ds) r w e =
    elim (nat_eq c.number d.number) as (λ b. nat_eq c.number d.number ≡ b → Within (cond b (c ∷ ds) (d ∷ with_call c ds)) c) [
      | true ↦ λ t. inl refl
      | false ↦ λ t. ⊎_elim (λ i. absurd (both_ways (nat_eq c.number d.number) t (eq-eqb c.number d.number (sym (ap number_of i ∙ e))))) (λ v. inr (within_new c ds r v e)) w
    ] refl

pub within_other : (c : Call) (cs : List Call) (x : Call) → Within cs x → x.number ≢ c.number → Within (with_call c cs) x
within_other c [] x w n = absurd w
within_other c (d ∷ ds) x w n =
    elim (nat_eq c.number d.number) as (λ b. nat_eq c.number d.number ≡ b → Within (cond b (c ∷ ds) (d ∷ with_call c ds)) x) [
      | true ↦ λ t. ⊎_elim (λ i. absurd (n (ap number_of (sym i) ∙ sym (eqb-true c.number d.number t)))) (λ v. inr v) w
      | false ↦ λ t. ⊎_elim (λ i. inl i) (λ v. inr (within_other c ds x v n)) w
    ] refl

pub from_with_call : (c : Call) (cs : List Call) (x : Call) → Different (map number_of cs) → Within (with_call c cs) x → (x ≡ c) ⊎ (Within cs x × (x.number ≢ c.number))
from_with_call c [] x d = λ w. absurd w
from_with_call c (y ∷ ys) x d =
    elim (nat_eq c.number y.number) as (λ b. nat_eq c.number y.number ≡ b → Within (cond b (c ∷ ys) (y ∷ with_call c ys)) x → (x ≡ c) ⊎ (Within (y ∷ ys) x × (x.number ≢ c.number))) [
      | true ↦ λ t. ⊎_elim (λ i. inl (sym i)) (λ v. inr (inr v, λ q. All-within (λ n. y.number ≡ n → ⊥) (map number_of ys) x.number d.0 (within_map ys x v) (sym (eqb-true c.number y.number t) ∙ sym q)))
      | false ↦ λ t. ⊎_elim
          (λ i. inr (inl i, λ q. both_ways (nat_eq c.number y.number) t (eq-eqb c.number y.number (sym (ap number_of i ∙ q)))))
          (λ v. ⊎_elim (λ e. inl e) (λ r. inr (inr r.0, r.1)) (from_with_call c ys x d.1 v))
    ] refl

-- ---- a new number

not_among : (cs : List Call) (n : ℕ) → ((c : Call) → Within cs c → c.number ≡ n → ⊥) → (m : ℕ) → Within (map number_of cs) m → m ≡ n → ⊥
not_among cs n h m w e = let r = from_within_map cs m w in h r.0 r.1 (r.2 ∙ e)

pub different_snoc : (ns : List ℕ) (n : ℕ) → Different ns → ((m : ℕ) → Within ns m → m ≡ n → ⊥) → Different (ns ++ n ∷ [])
different_snoc [] n d h = (tt, tt)
different_snoc (m ∷ ms) n d h = (
  All-from_within (λ k. m ≡ k → ⊥) (ms ++ n ∷ []) (λ k w e. among ms n k m (All-within (λ k. m ≡ k → ⊥) ms k d.0) (h m (inl refl)) w e),
  different_snoc ms n d.1 (λ k w. h k (inr w)),
)
  where
    among : (ms : List ℕ) (n k m : ℕ) → (Within ms k → m ≡ k → ⊥) → (m ≡ n → ⊥) → Within (ms ++ n ∷ []) k → m ≡ k → ⊥
    among ms n k m f g w e = ⊎_elim (λ v. f v e) (λ l. ⊎_elim (λ i. g (e ∙ sym i)) (λ v. absurd v) l) (from_snoc ms n k w)
      where
        from_snoc : (ms : List ℕ) (n k : ℕ) → Within (ms ++ n ∷ []) k → Within ms k ⊎ ((n ≡ k) ⊎ ⊥)
        from_snoc [] n k w = inr w
        from_snoc (z ∷ zs) n k w = ⊎_elim (λ e. inl (inl e)) (λ v. ⊎_elim (λ l. inl (inr l)) (λ r. inr r) (from_snoc zs n k v)) w

pub map-snoc : (cs : List Call) (c : Call) → map number_of (cs ++ c ∷ []) ≡ map number_of cs ++ c.number ∷ []
map-snoc [] c = refl
map-snoc (d ∷ ds) c = ap (λ l. d.number ∷ l) (map-snoc ds c)

pub one_number_more : (cs : List Call) (c : Call) → Different (map number_of cs) → ((x : Call) → Within cs x → x.number ≡ c.number → ⊥) → Different (map number_of (cs ++ c ∷ []))
one_number_more cs c d h = subst Different (sym (map-snoc cs c)) (different_snoc (map number_of cs) c.number d (not_among cs c.number h))
