-- Rows by their keys, and what a write of one row does to the others.
use Rattle.std.proofs.Common.{◌≡◌, true, ◌⊎◌, List, [], ◌∷◌, Option, Some, None, refl, sym, ap, subst, ◌∙◌, inl, inr, ⊎_elim}
use Rattle.std.specs.Prelude.{filter, option_to_list, bytes_eq}
use Rattle.entry_book.specs.Rows.{Bytes}
use Rattle.entry_book.specs.Order.{Within, Ascending, is_before, with_row, first}
use Rattle.entry_book.proofs.Sets.{All-within, within_filter, from_within_filter, within_left, within_right, from_within_append, same_sets, ascending_filter, before-irrefl, before-total, text_is, text_same}
use Rattle.entry_book.proofs.InOrder.{ascending-with_row}

module _ {X : Type 0} (key : X → Bytes) where
  -- two rows with the same key are the same row
  pub same_key : (rows : List X) → Ascending key rows → (x y : X) → Within rows x → Within rows y → key x ≡ key y → x ≡ y
  same_key [] a x y w v e = absurd w
  same_key (z ∷ zs) a x y w v e =
      let up : (u : X) → Within zs u → is_before (key z) (key u) ≡ true = λ u t. All-within (λ u. is_before (key z) (key u) ≡ true) zs u a.0 t in
      ⊎_elim
      (λ p. ⊎_elim (λ q. sym p ∙ q) (λ t. absurd (before-irrefl (key z) (subst (λ k. is_before (key z) k ≡ true) (sym (ap key p ∙ e)) (up y t)))) v)
      (λ t. ⊎_elim (λ q. absurd (before-irrefl (key z) (subst (λ k. is_before (key z) k ≡ true) (e ∙ sym (ap key q)) (up x t)))) (λ u. same_key zs a.1 x y t u e) v)
      w

  pub first_within : (xs : List X) (x : X) → first xs ≡ Some x → Within xs x
  first_within [] x e = cc
  first_within (y ∷ ys) x e = let q : y ≡ x = cc in inl q

  pub first_none : (xs : List X) → first xs ≡ None → xs ≡ []
  first_none [] e = refl
  first_none (y ∷ ys) e = cc

  pub at_row : (k : Bytes) (rows : List X) (x : X) → first (filter (λ x. bytes_eq (key x) k) rows) ≡ Some x → Within rows x × (key x ≡ k)
  at_row k rows x e = let r = from_within_filter (λ x. bytes_eq (key x) k) rows x (first_within _ x e) in (r.0, text_is (key x) k r.1)

  pub no_row : (k : Bytes) (rows : List X) → first (filter (λ x. bytes_eq (key x) k) rows) ≡ None → (x : X) → Within rows x → key x ≡ k → ⊥
  no_row k rows e x w q = subst (λ l. Within l x) (first_none _ e) (within_filter (λ x. bytes_eq (key x) k) rows x w (text_same (key x) k q))

  -- the row of a key, alone
  pub row_alone : (k : Bytes) (rows : List X) (x : X) → Ascending key rows → Within rows x → key x ≡ k → filter (λ x. bytes_eq (key x) k) rows ≡ x ∷ []
  row_alone k rows x a w e = same_sets key (filter (λ x. bytes_eq (key x) k) rows) (x ∷ []) (ascending_filter key _ rows a) (tt, tt)
      (λ y v. let r = from_within_filter (λ x. bytes_eq (key x) k) rows y v in inl (same_key rows a x y w r.0 (e ∙ sym (text_is (key y) k r.1))))
      (λ y v. ⊎_elim (λ q. subst (Within (filter (λ x. bytes_eq (key x) k) rows)) q (within_filter (λ x. bytes_eq (key x) k) rows x w (text_same (key x) k e))) (λ n. absurd n) v)

  pub rows_at : (k : Bytes) (rows : List X) → Ascending key rows → filter (λ x. bytes_eq (key x) k) rows ≡ option_to_list (first (filter (λ x. bytes_eq (key x) k) rows))
  rows_at k rows a = elim (first (filter (λ x. bytes_eq (key x) k) rows)) as (λ o. first (filter (λ x. bytes_eq (key x) k) rows) ≡ o → filter (λ x. bytes_eq (key x) k) rows ≡ option_to_list o) [
    | None ↦ λ e. first_none _ e
    | Some x ↦ λ e. let r = at_row k rows x e in row_alone k rows x a r.0 r.1
  ] refl

  -- the members after a write
  pub from_with_row : (k : Bytes) (new : Option X) (rows : List X) (x : X) → Within (with_row key k new rows) x → Within (option_to_list new) x ⊎ (Within rows x × (key x ≡ k → ⊥))
  unfolding with_row
  from_with_row k new rows x w = ⊎_elim
      (λ l. let r = from_within_filter (λ x. is_before (key x) k) rows x l in inr (r.0, λ e. before-irrefl k (subst (λ t. is_before t k ≡ true) e r.1)))
      (λ v. ⊎_elim (λ n. inl n) (λ h. let r = from_within_filter (λ x. is_before k (key x)) rows x h in inr (r.0, λ e. before-irrefl k (subst (λ t. is_before k t ≡ true) e r.1))) (from_within_append (option_to_list new) _ x v))
      (from_within_append (filter (λ x. is_before (key x) k) rows) _ x w)

  pub within_with_row : (k : Bytes) (new : Option X) (rows : List X) (x : X) → Within rows x → (key x ≡ k → ⊥) → Within (with_row key k new rows) x
  unfolding with_row
  within_with_row k new rows x w n = ⊎_elim
      (λ l. within_left _ _ x (within_filter (λ x. is_before (key x) k) rows x w l))
      (λ v. ⊎_elim (λ e. absurd (n e)) (λ h. within_right _ _ x (within_right (option_to_list new) _ x (within_filter (λ x. is_before k (key x)) rows x w h))) v)
      (before-total (key x) k)

  pub new_with_row : (k : Bytes) (n : X) (rows : List X) → Within (with_row key k (Some n) rows) n
  unfolding with_row
  new_with_row k n rows = within_right (filter (λ x. is_before (key x) k) rows) (n ∷ filter (λ x. is_before k (key x)) rows) n (inl refl)

  -- removing a key that is not there
  pub without_none : (k : Bytes) (rows : List X) → Ascending key rows → ((x : X) → Within rows x → key x ≡ k → ⊥) → with_row key k None rows ≡ rows
  without_none k rows a n = same_sets key (with_row key k None rows) rows (ascending-with_row key k None rows a tt) a
      (λ x w. ⊎_elim (λ v. absurd v) (λ r. r.0) (from_with_row k None rows x w))
      (λ x w. within_with_row k None rows x w (n x w))
