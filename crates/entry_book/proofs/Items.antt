-- Items of a list by their index.
use Rattle.std.proofs.Common.{◌≡◌, ℕ, zero, suc, ◌+◌, ◌<◌, List, [], ◌∷◌, drop, length, get_or, refl, sym, ap, ◌∙◌, inl, inr, arith}
use Rattle.std.specs.Prelude.{slice_get}
use Rattle.entry_book.specs.Order.{Within}

module _ {X : Type 0} where
  pub within_get : (xs : List X) (n : ℕ) (x : X) → n < length xs → x ≡ get_or xs n x → Within xs x
  within_get [] n x h e = absurd (omega arith)
  within_get (y ∷ ys) zero x h e = inl (sym e)
  within_get (y ∷ ys) (suc n) x h e = inr (within_get ys n x (omega arith) e)

  -- an item of the rest after the first d
  pub slice_get-drop : (d : ℕ) (xs : List X) (n : ℕ) → slice_get (drop d xs) n ≡ slice_get xs (d + n)
  slice_get-drop zero xs n = let q : n ≡ 0 + n = omega arith in ap (slice_get xs) q
  slice_get-drop (suc d) [] n = refl
  slice_get-drop (suc d) (x ∷ xs) n = let q : suc (d + n) ≡ suc d + n = omega arith in slice_get-drop d xs n ∙ ap (slice_get (x ∷ xs)) q
