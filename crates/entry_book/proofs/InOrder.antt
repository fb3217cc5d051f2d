-- A write keeps rows in ascending order.
use Rattle.std.proofs.Common.{◌≡◌, true, List, [], ◌∷◌, ◌++◌, Option, Some, None, refl, subst, inl, inr, ⊎_elim, IfSome}
use Rattle.std.specs.Prelude.{filter}
use Rattle.entry_book.specs.Rows.{Bytes}
use Rattle.entry_book.specs.Order.{Within, Ascending, is_before, with_row}
use Rattle.entry_book.proofs.Sets.{All-within, All-from_within, from_within_filter, from_within_append, ascending_filter, before-trans}

module _ {X : Type 0} (key : X → Bytes) where
  ascending_append : (xs ys : List X) → Ascending key xs → Ascending key ys → ((x y : X) → Within xs x → Within ys y → is_before (key x) (key y) ≡ true) → Ascending key (xs ++ ys)
  ascending_append [] ys a b f = b
  ascending_append (x ∷ xs) ys a b f = (
    All-from_within (λ z. is_before (key x) (key z) ≡ true) (xs ++ ys) (λ z w. ⊎_elim (λ l. All-within (λ z. is_before (key x) (key z) ≡ true) xs z a.0 l) (λ r. f x z (inl refl) r) (from_within_append xs ys z w)),
    ascending_append xs ys a.1 b (λ z y w v. f z y (inr w) v),
  )

  pub ascending-with_row : (k : Bytes) (new : Option X) (rows : List X) → Ascending key rows → IfSome new (λ x. key x ≡ k) → Ascending key (with_row key k new rows)
  unfolding with_row
  ascending-with_row k None rows a h = ascending_append (filter (λ x. is_before (key x) k) rows) (filter (λ x. is_before k (key x)) rows) (ascending_filter key _ rows a) (ascending_filter key _ rows a)
      (λ x y w v. before-trans (key x) k (key y) (from_within_filter (λ x. is_before (key x) k) rows x w).1 (from_within_filter (λ x. is_before k (key x)) rows y v).1)
  ascending-with_row k (Some n) rows a h =
      let low : (x : X) → Within (filter (λ x. is_before (key x) k) rows) x → is_before (key x) (key n) ≡ true = λ x w. rw h (from_within_filter (λ x. is_before (key x) k) rows x w).1 in
      let high : (x : X) → Within (filter (λ x. is_before k (key x)) rows) x → is_before (key n) (key x) ≡ true = λ x w. rw h (from_within_filter (λ x. is_before k (key x)) rows x w).1 in
      ascending_append (filter (λ x. is_before (key x) k) rows) (n ∷ filter (λ x. is_before k (key x)) rows) (ascending_filter key _ rows a)
      (All-from_within _ _ high, ascending_filter key _ rows a)
      (λ x y w v. ⊎_elim (λ e. subst (λ z. is_before (key x) (key z) ≡ true) e (low x w)) (λ u. before-trans (key x) (key n) (key y) (low x w) (high y u)) v)
