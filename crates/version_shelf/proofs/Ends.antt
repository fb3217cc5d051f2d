-- Whether the last or the first of a list of parts passes, and the number of comparisons of a binary search.
use Rattle.std.proofs.Common.{◌≡◌, ℕ, ◌+◌, ◌/◌, ◌<◌, ◌≤◌, suc, zero, Bool, false, List, [], ◌∷◌, ◌++◌, length, get_or, take, drop, refl, ap, ◌∙◌, arith}
use Rattle.std.proofs.lemmas.List.{drop_more, take_more}
use Rattle.version_shelf.specs.Nodes.{last_passes, first_passes}

module _ {X : Type 0} (p : X → Bool) where
  pub ends_push : (xs : List X) (x : X) → last_passes p (xs ++ x ∷ []) ≡ p x
  ends_push [] x = refl
  ends_push (y ∷ []) x = refl
  ends_push (y ∷ z ∷ xs) x = ends_push (z ∷ xs) x

  -- the same for the part at an index
  pub ends_take : (xs : List X) (i : ℕ) (d : X) → i < length xs → last_passes p (take (i + 1) xs) ≡ p (get_or xs i d)
  ends_take xs i d inside = ap (last_passes p) (take_more xs i d inside) ∙ ends_push (take i xs) (get_or xs i d)

  pub starts_drop : (xs : List X) (i : ℕ) (d : X) → i < length xs → first_passes p (drop i xs) ≡ p (get_or xs i d)
  starts_drop xs i d inside = ap (first_passes p) (drop_more xs i d inside)

  pub starts_past : (xs : List X) → first_passes p (drop (length xs) xs) ≡ false
  starts_past [] = refl
  starts_past (x ∷ xs) = starts_past xs

-- ---- binary search

-- two to the power of n
abbrev pub doubled : ℕ → ℕ
doubled zero = 1
doubled (suc n) = doubled n + doubled n

-- a binary search in this number of parts, after count comparisons, ends with at most this total
pub data Finds (size count most : ℕ) : Type 0 where
  halvings : (left : ℕ) → size < doubled left → count + left ≤ most → Finds size count most

-- the same for at most half of the parts, after one more comparison
pub finds_less : (size count most half more : ℕ) → 0 < size → half ≤ size / 2 → more ≤ count + 1 → Finds size count most → Finds half more most
finds_less size count most half more some smaller one (halvings zero few bound) = absurd (omega arith)
finds_less size count most half more some smaller one (halvings (suc left) few bound) = halvings left (omega arith) (omega arith)
