-- The numbers of the seats' calls in a journal.
use Rattle.std.proofs.Common.{◌≡◌, ◌≢◌, ℕ, zero, suc, ◌+◌, ◌<◌, ◌==◌, false, cond, List, [], ◌∷◌, ◌++◌, length, get_or, refl, ap, sym, subst, ◌∙◌, arith, length-append, length-set}
use Rattle.std.specs.Prelude.{slice_index, slice_set}
use Rattle.std.proofs.lemmas.List.{get_or-set_same, get_or-set_other}
use Rattle.std.proofs.lemmas.Bool.Decides.{nat_tests}
use mathlib.Core.Logic.{dite}
use native.Mathlib.Decide.{ℕ_discrete}
use Rattle.commit_head.specs.declared.item.Item.{Item}
use Rattle.shared_registry.specs.SeatCalls.{calls_of}
use Rattle.shared_registry.specs.ShownPrivate.{IsCounted}
use Rattle.shared_registry.proofs.Calls.{calls_snoc, calls_more}

calls_else : (s : ℕ) (e : Item) → e.seat ≢ s → calls_of s (e ∷ []) ≡ []
calls_else s e ne = let t : (e.seat == s) ≡ false = grind (arith, nat_tests) in ap (λ b. cond b (e.call ∷ []) []) t

pub counted_more : (counts : List ℕ) (log : List Item) (e : Item) → IsCounted counts log → e.seat < 32 → IsCounted (slice_set counts e.seat (slice_index counts e.seat + 1)) (log ++ e ∷ [])
counted_more counts log e c lt = record {
  wide = length-set counts e.seat (slice_index counts e.seat + 1) ∙ c.wide;
  each = λ s less. dite (ℕ_discrete e.seat s)
      (λ same. let wide = c.wide in let here : e.seat < length counts = omega arith in
      ap (λ k. slice_index (slice_set counts e.seat (slice_index counts e.seat + 1)) k) (sym same) ∙ get_or-set_same counts e.seat (slice_index counts e.seat + 1) 0 here
      ∙ (let a = c.each e.seat lt in let b = ap length (calls_snoc s log e same) in let n = length-append (calls_of s log) (e.call ∷ []) in let f = ap (λ k. length (calls_of k log)) same in omega arith))
      (λ ne. get_or-set_other counts e.seat s (slice_index counts e.seat + 1) 0 (λ back. ne (sym back)) ∙ c.each s less
      ∙ (let b = ap length (calls_more s log (e ∷ [])) in let n = length-append (calls_of s log) (calls_of s (e ∷ [])) in let z = ap length (calls_else s e ne) in omega arith));
}

abbrev pub zeros : ℕ → List ℕ
zeros zero = []
zeros (suc n) = 0 ∷ zeros n

zero_at : (n s : ℕ) → get_or (zeros n) s 0 ≡ 0
zero_at zero s = refl
zero_at (suc n) zero = refl
zero_at (suc n) (suc s) = zero_at n s

pub none_counted : (counts : List ℕ) (log : List Item) → counts ≡ zeros 32 → length counts ≡ 32 → log ≡ [] → IsCounted counts log
none_counted counts log z wide e = record {
  wide = wide;
  each = λ s less. ap (λ l. slice_index l s) z ∙ zero_at 32 s ∙ ap (λ l. length (calls_of s l)) (sym e);
}

-- one more item of this seat
pub counted_here : (counts : List ℕ) (log : List Item) (e : Item) (s : ℕ) → IsCounted counts log → e.seat ≡ s → s < 32 → IsCounted (slice_set counts s (slice_index counts s + 1)) (log ++ e ∷ [])
counted_here counts log e s c is less = subst (λ k. IsCounted (slice_set counts k (slice_index counts k + 1)) (log ++ e ∷ [])) is (counted_more counts log e c (subst (λ k. k < 32) (sym is) less))
