-- Lists in ascending order as sets.
use Rattle.std.proofs.Common.{◌≡◌, Bool, true, false, cond, ◌||◌, ◌⊎◌, List, [], ◌∷◌, ◌++◌, refl, sym, ap, subst, ◌∙◌, inl, inr, ⊎_elim, arith, length, ◌<◌, ◌≤◌, suc}
use Rattle.std.specs.Prelude.{filter, bytes_eq}
use Rattle.std.specs.List.{AllByRecursion, list_any}
use Rattle.std.specs.declared.cmp.Ordering.{Ordering}
use Rattle.std.specs.declared.cmp.Ordering.TheVariants.{Less, Equal, Greater}
use Rattle.std.specs.Ordering.{is_lt, nat_cmp, ordering_reverse}
use Rattle.std.specs.Cmp.Lexicographic.{slice_cmp, bytes_decides}
use Rattle.std.specs.FinMap.{slice_cmp-IsAntisymmetric, nat_cmp-IsAntisymmetric}
use Rattle.std.proofs.lemmas.Cmp.{nat_list_cmp_total, tied_itself}
use Rattle.std.proofs.lemmas.Bool.{both_ways, false≢true, or_cases}
use Rattle.entry_book.specs.Rows.{Bytes}
use Rattle.entry_book.specs.Order.{is_before, Ascending, Within}

less_is : (o : Ordering) → is_lt o ≡ true → o ≡ Less
less_is Less e = refl
less_is Equal e = cc
less_is Greater e = cc

pub before-irrefl : (x : Bytes) → is_before x x ≡ true → ⊥
unfolding is_before
before-irrefl x h = let e = less_is _ h in let t = tied_itself nat_list_cmp_total x in cc

pub before-trans : (x y z : Bytes) → is_before x y ≡ true → is_before y z ≡ true → is_before x z ≡ true
unfolding is_before
before-trans x y z h k = ap is_lt (nat_list_cmp_total.trans x y z (less_is _ h) (less_is _ k))

pub before-total : (x y : Bytes) → (is_before x y ≡ true) ⊎ ((x ≡ y) ⊎ (is_before y x ≡ true))
unfolding is_before
before-total x y = elim (slice_cmp nat_cmp x y) as (λ o. slice_cmp nat_cmp x y ≡ o → (is_lt (slice_cmp nat_cmp x y) ≡ true) ⊎ ((x ≡ y) ⊎ (is_lt (slice_cmp nat_cmp y x) ≡ true))) [
  | Less ↦ λ e. inl (ap is_lt e)
  | Equal ↦ λ e. inr (inl (slice_cmp-IsAntisymmetric nat_cmp-IsAntisymmetric x y e))
  | Greater ↦ λ e. inr (inr (ap is_lt (nat_list_cmp_total.antisymm y x ∙ ap ordering_reverse e)))
] refl

pub text_is : (x y : Bytes) → bytes_eq x y ≡ true → x ≡ y
text_is x y h = (bytes_decides x y).0 h

pub text_same : (x y : Bytes) → x ≡ y → bytes_eq x y ≡ true
text_same x y h = (bytes_decides x y).1 h

module _ {X : Type 0} where
  pub All-within : (P : X → Type 0) (xs : List X) (x : X) → AllByRecursion P xs → Within xs x → P x
  All-within P [] x h w = absurd w
  All-within P (y ∷ ys) x h w = ⊎_elim (λ e. subst P e h.0) (λ v. All-within P ys x h.1 v) w

  pub All-from_within : (P : X → Type 0) (xs : List X) → ((x : X) → Within xs x → P x) → AllByRecursion P xs
  All-from_within P [] h = tt
  All-from_within P (y ∷ ys) h = (h y (inl refl), All-from_within P ys (λ x w. h x (inr w)))

  pub within_filter : (p : X → Bool) (xs : List X) (x : X) → Within xs x → p x ≡ true → Within (filter p xs) x
  within_filter p [] x w t = absurd w
  within_filter p (y ∷ ys) x w t =
      elim (p y) as (λ b. p y ≡ b → Within (cond b (y ∷ filter p ys) (filter p ys)) x) [
        | true ↦ λ e. ⊎_elim (λ q. inl q) (λ v. inr (within_filter p ys x v t)) w
        | false ↦ λ e. ⊎_elim (λ q. absurd (both_ways (p y) e (ap p q ∙ t))) (λ v. within_filter p ys x v t) w
      ] refl

  pub from_within_filter : (p : X → Bool) (xs : List X) (x : X) → Within (filter p xs) x → Within xs x × (p x ≡ true)
  from_within_filter p [] x = λ w. absurd w
  from_within_filter p (y ∷ ys) x =
      elim (p y) as (λ b. p y ≡ b → Within (cond b (y ∷ filter p ys) (filter p ys)) x → (Within (y ∷ ys) x) × (p x ≡ true)) [
        | true ↦ λ e. ⊎_elim (λ q. (inl q, ap p (sym q) ∙ e)) (λ v. let r = from_within_filter p ys x v in (inr r.0, r.1))
        | false ↦ λ e v. let r = from_within_filter p ys x v in (inr r.0, r.1)
      ] refl

  pub within_left : (xs ys : List X) (x : X) → Within xs x → Within (xs ++ ys) x
  within_left [] ys x w = absurd w
  within_left (z ∷ zs) ys x w = ⊎_elim (λ e. inl e) (λ v. inr (within_left zs ys x v)) w

  pub within_right : (xs ys : List X) (x : X) → Within ys x → Within (xs ++ ys) x
  within_right [] ys x w = w
  within_right (z ∷ zs) ys x w = inr (within_right zs ys x w)

  pub from_within_append : (xs ys : List X) (x : X) → Within (xs ++ ys) x → Within xs x ⊎ Within ys x
  from_within_append [] ys x w = inr w
  from_within_append (z ∷ zs) ys x w = ⊎_elim (λ e. inl (inl e)) (λ v. ⊎_elim (λ l. inl (inr l)) (λ r. inr r) (from_within_append zs ys x v)) w

  pub within_any : (p : X → Bool) (xs : List X) (x : X) → Within xs x → p x ≡ true → list_any p xs ≡ true
  within_any p [] x w t = absurd w
  within_any p (y ∷ ys) x w t = ⊎_elim (λ e. let q : p y ≡ true = ap p e ∙ t in rw q refl) (λ v. let q = within_any p ys x v t in elim (p y) as (λ b. (b || list_any p ys) ≡ true) [ true ↦ refl | false ↦ q ]) w

  pub from_any : (p : X → Bool) (xs : List X) → list_any p xs ≡ true → (x : X) × Within xs x × (p x ≡ true)
  from_any p [] h = absurd (false≢true h)
  from_any p (y ∷ ys) h = ⊎_elim (λ e. (y, inl refl, e)) (λ v. let r = from_any p ys v in (r.0, inr r.1, r.2)) (or_cases (p y) (list_any p ys) h)

  -- ascending lists with the same members are equal
  module _ (key : X → Bytes) where
    pub same_sets : (xs ys : List X) → Ascending key xs → Ascending key ys → ((x : X) → Within xs x → Within ys x) → ((x : X) → Within ys x → Within xs x) → xs ≡ ys
    same_sets [] [] a b f g = refl
    same_sets [] (y ∷ ys) a b f g = absurd (g y (inl refl))
    same_sets (x ∷ xs) [] a b f g = absurd (f x (inl refl))
    same_sets (x ∷ xs) (y ∷ ys) a b f g =
        let below : (z : X) → Within ys z → is_before (key y) (key z) ≡ true = λ z w. All-within (λ z. is_before (key y) (key z) ≡ true) ys z b.0 w in
        let above : (z : X) → Within xs z → is_before (key x) (key z) ≡ true = λ z w. All-within (λ z. is_before (key x) (key z) ≡ true) xs z a.0 w in
        let head : x ≡ y = ⊎_elim (λ e. sym e) (λ v. ⊎_elim (λ e. e) (λ w. absurd (before-irrefl (key x) (before-trans (key x) (key y) (key x) (above y w) (below x v)))) (g y (inl refl))) (f x (inl refl)) in
        let tail : xs ≡ ys = same_sets xs ys a.1 b.1
        (λ z w. ⊎_elim (λ e. absurd (before-irrefl (key x) (subst (λ t. is_before (key x) (key t) ≡ true) (sym e ∙ sym head) (above z w)))) (λ v. v) (f z (inr w)))
        (λ z w. ⊎_elim (λ e. absurd (before-irrefl (key y) (subst (λ t. is_before (key y) (key t) ≡ true) (sym e ∙ head) (below z w)))) (λ v. v) (g z (inr w))) in
        cc

    pub ascending_filter : (p : X → Bool) (xs : List X) → Ascending key xs → Ascending key (filter p xs)
    ascending_filter p [] a = tt
    ascending_filter p (x ∷ xs) a =
        let rest = ascending_filter p xs a.1 in
        elim (p x) as (λ b. Ascending key (cond b (x ∷ filter p xs) (filter p xs))) [
          | true ↦ (All-from_within (λ y. is_before (key x) (key y) ≡ true) (filter p xs) (λ y w. All-within (λ y. is_before (key x) (key y) ≡ true) xs y a.0 (from_within_filter p xs y w).0), rest)
          | false ↦ rest
        ]

  pub length_filter_le : (p : X → Bool) (xs : List X) → length (filter p xs) ≤ length xs
  length_filter_le p [] = omega arith
  length_filter_le p (x ∷ xs) = let h = length_filter_le p xs in elim (p x) as (λ b. length (cond b (x ∷ filter p xs) (filter p xs)) ≤ suc (length xs)) [ true ↦ omega arith | false ↦ omega arith ]

  -- if as many pass as there are, all pass
  pub all_pass : (p : X → Bool) (xs : List X) → length xs ≤ length (filter p xs) → (x : X) → Within xs x → p x ≡ true
  all_pass p [] h x w = absurd w
  all_pass p (y ∷ ys) h x w =
      elim (p y) as (λ b. p y ≡ b → suc (length ys) ≤ length (cond b (y ∷ filter p ys) (filter p ys)) → p x ≡ true) [
        | true ↦ λ e k. ⊎_elim (λ q. ap p (sym q) ∙ e) (λ v. all_pass p ys (omega arith) x v) w
        | false ↦ λ e k. let l = length_filter_le p ys in absurd (omega arith)
      ] refl h

  -- a weaker test passes at least as many
  pub count_grows : (p q : X → Bool) (xs : List X) → ((x : X) → Within xs x → p x ≡ true → q x ≡ true) → (length (filter p xs) < length (filter q xs)) ⊎ ((length (filter p xs) ≤ length (filter q xs)) × ((x : X) → Within xs x → q x ≡ true → p x ≡ true))
  count_grows p q [] f = inr (omega arith, λ x w t. absurd w)
  count_grows p q (y ∷ ys) f =
      let rest = count_grows p q ys (λ x w t. f x (inr w) t) in
      elim (p y) as (λ b. p y ≡ b → (length (cond b (y ∷ filter p ys) (filter p ys)) < length (cond (q y) (y ∷ filter q ys) (filter q ys))) ⊎ ((length (cond b (y ∷ filter p ys) (filter p ys)) ≤ length (cond (q y) (y ∷ filter q ys) (filter q ys))) × ((x : X) → Within (y ∷ ys) x → q x ≡ true → p x ≡ true))) [
        | true ↦ λ e. let k : q y ≡ true = f y (inl refl) e in rw k (⊎_elim (λ l. inl (omega arith)) (λ r. let l = r.0 in inr (omega arith, λ x w t. ⊎_elim (λ i. ap p (sym i) ∙ e) (λ v. r.1 x v t) w)) rest)
        | false ↦ λ e. elim (q y) as (λ c. q y ≡ c → (length (filter p ys) < length (cond c (y ∷ filter q ys) (filter q ys))) ⊎ ((length (filter p ys) ≤ length (cond c (y ∷ filter q ys) (filter q ys))) × ((x : X) → Within (y ∷ ys) x → q x ≡ true → p x ≡ true))) [
          | true ↦ λ k. inl (⊎_elim (λ l. omega arith) (λ r. let l = r.0 in omega arith) rest)
          | false ↦ λ k. ⊎_elim (λ l. inl l) (λ r. inr (r.0, λ x w t. ⊎_elim (λ i. absurd (both_ways (q y) k (ap q i ∙ t))) (λ v. r.1 x v t) w)) rest
        ] refl
      ] refl

  pub All-more : (P : X → Type 0) (xs : List X) (x : X) → AllByRecursion P xs → P x → AllByRecursion P (xs ++ x ∷ [])
  All-more P [] x h p = (p, tt)
  All-more P (y ∷ ys) x h p = (h.0, All-more P ys x h.1 p)
