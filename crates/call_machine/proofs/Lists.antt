-- Members of lists, by index.
use Rattle.std.proofs.Common.{◌≡◌, ℕ, ◌<◌, ◌≤◌, ◌⊎◌, List, [], ◌∷◌, ◌++◌, length, take, Some, zero, suc, refl, ap, inl, inr, ⊎_elim, arith}
use Rattle.std.specs.Prelude.{slice_get}
use Rattle.entry_book.specs.Order.{Within}

module _ {X : Type 0} where
  -- a member is at some index
  pub record Split (xs : List X) (x : X) : Type 0 where
    pub front : List X
    pub rest : List X
    pub is : xs ≡ front ++ x ∷ rest

  pub split_at : (xs : List X) (x : X) → Within xs x → Split xs x
  split_at [] x w = absurd w
  split_at (y ∷ ys) x w = ⊎_elim
      (λ e. record { front = []; rest = ys; is = ap (λ z. z ∷ ys) e })
      (λ v. let s = split_at ys x v in record { front = y ∷ s.front; rest = s.rest; is = ap (λ zs. y ∷ zs) s.is })
      w

  -- ---- by index

  pub get_left : (xs ys : List X) (k : ℕ) (x : X) → slice_get xs k ≡ Some x → slice_get (xs ++ ys) k ≡ Some x
  get_left [] ys k x e = cc
  get_left (z ∷ zs) ys zero x e = e
  get_left (z ∷ zs) ys (suc k) x e = get_left zs ys k x e

  pub get_last : (xs : List X) (x : X) → slice_get (xs ++ x ∷ []) (length xs) ≡ Some x
  get_last [] x = refl
  get_last (z ∷ zs) x = get_last zs x

  pub from_get_snoc : (xs : List X) (y : X) (k : ℕ) (x : X) → slice_get (xs ++ y ∷ []) k ≡ Some x → (slice_get xs k ≡ Some x) ⊎ ((k ≡ length xs) × (y ≡ x))
  from_get_snoc [] y zero x e = let q : y ≡ x = cc in inr (refl, q)
  from_get_snoc [] y (suc k) x e = cc
  from_get_snoc (z ∷ zs) y zero x e = inl e
  from_get_snoc (z ∷ zs) y (suc k) x e = ⊎_elim (λ v. inl v) (λ r. inr (ap suc r.0, r.1)) (from_get_snoc zs y k x e)

  pub get_within : (xs : List X) (k : ℕ) (x : X) → slice_get xs k ≡ Some x → k < length xs
  get_within [] k x e = cc
  get_within (z ∷ zs) zero x e = omega arith
  get_within (z ∷ zs) (suc k) x e = let h = get_within zs k x e in omega arith

  pub take_left : (xs ys : List X) (k : ℕ) → k ≤ length xs → take k (xs ++ ys) ≡ take k xs
  take_left xs ys zero h = refl
  take_left [] ys (suc k) h = absurd (omega arith)
  take_left (z ∷ zs) ys (suc k) h = ap (λ l. z ∷ l) (take_left zs ys k (omega arith))

  pub take_front : (xs ys : List X) → take (length xs) (xs ++ ys) ≡ xs
  take_front [] ys = refl
  take_front (z ∷ zs) ys = ap (λ l. z ∷ l) (take_front zs ys)
