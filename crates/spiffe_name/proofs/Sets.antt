-- Lists in strictly ascending order are equal if they have the same members.
use Rattle.std.proofs.Common.{ap, Bool, true, false, cond, ◌++◌, ◌≡◌, ◌⊎◌, List, [], ◌∷◌, zero, suc, refl, sym, subst, ◌∙◌, inl, inr, ⊎_elim, arith, ℕ, ◌<◌, length, get_or}
use Rattle.std.specs.declared.cmp.Ordering.{Ordering}
use Rattle.std.specs.declared.cmp.Ordering.TheVariants.{Less, Equal, Greater}
use Rattle.std.specs.Ordering.{is_lt, ordering_reverse}
use Rattle.std.specs.Prelude.{filter}
use Rattle.std.proofs.lemmas.Bool.{both_ways}
use Rattle.std.proofs.lemmas.List.Elements.{Contains-append_cases, Contains-append_left, Contains-append_right}
use Rattle.std.proofs.lemmas.List.Kept.{IsStrictlySortedBy-filter}
use Rattle.std.specs.Cmp.{IsTotalOrder}
use Rattle.std.specs.List.{AllByRecursion, Contains}
use Rattle.std.specs.List.Sorted.{IsStrictlySortedBy}
use Rattle.std.proofs.lemmas.Cmp.{tied_itself}

module _ {X : Type 0} where
  pub here : (x : X) (xs : List X) → Contains (x ∷ xs) x
  here x xs = (0, omega arith, refl)

  pub there : (y : X) (xs : List X) (x : X) → Contains xs x → Contains (y ∷ xs) x
  there y xs x c = (suc c.0, omega arith, c.2)

  first_or_later : (y : X) (xs : List X) (x : X) (k : ℕ) → (k < length (y ∷ xs)) → get_or (y ∷ xs) k x ≡ x → (y ≡ x) ⊎ Contains xs x
  first_or_later y xs x zero l e = inl e
  first_or_later y xs x (suc k) l e = inr (k, omega arith, e)

  pub cases : (y : X) (xs : List X) (x : X) → Contains (y ∷ xs) x → (y ≡ x) ⊎ Contains xs x
  cases y xs x c = first_or_later y xs x c.0 c.1 c.2

  pub none : (x : X) → Contains [] x → ⊥
  none x c = let l = c.1 in omega arith

  of_each : (P : X → Type 0) (xs : List X) (x : X) → AllByRecursion P xs → Contains xs x → P x
  of_each P [] x h c = absurd (none x c)
  of_each P (y ∷ ys) x h c = ⊎_elim (λ e. subst P e h.0) (λ d. of_each P ys x h.1 d) (cases y ys x c)

  each_from : (P : X → Type 0) (xs : List X) → ((x : X) → Contains xs x → P x) → AllByRecursion P xs
  each_from P [] f = tt
  each_from P (y ∷ ys) f = (f y (here y ys), each_from P ys (λ x c. f x (there y ys x c)))

  in_filter : (p : X → Bool) (xs : List X) (x : X) → Contains xs x → p x ≡ true → Contains (filter p xs) x
  in_filter p [] x c t = absurd (none x c)
  in_filter p (y ∷ ys) x c t =
      elim (p y) as (λ b. p y ≡ b → Contains (cond b (y ∷ filter p ys) (filter p ys)) x) [
        | true ↦ λ e. ⊎_elim (λ q. subst (Contains (y ∷ filter p ys)) q (here y (filter p ys))) (λ d. there y (filter p ys) x (in_filter p ys x d t)) (cases y ys x c)
        | false ↦ λ e. ⊎_elim (λ q. absurd (both_ways (p y) e (ap p q ∙ t))) (λ d. in_filter p ys x d t) (cases y ys x c)
      ] refl

  from_filter : (p : X → Bool) (xs : List X) (x : X) → Contains (filter p xs) x → Contains xs x × (p x ≡ true)
  from_filter p [] x = λ c. absurd (none x c)
  from_filter p (y ∷ ys) x =
      elim (p y) as (λ b. p y ≡ b → Contains (cond b (y ∷ filter p ys) (filter p ys)) x → Contains (y ∷ ys) x × (p x ≡ true)) [
        | true ↦ λ e c. ⊎_elim (λ q. (subst (Contains (y ∷ ys)) q (here y ys), ap p (sym q) ∙ e)) (λ d. let r = from_filter p ys x d in (there y ys x r.0, r.1)) (cases y (filter p ys) x c)
        | false ↦ λ e c. let r = from_filter p ys x c in (there y ys x r.0, r.1)
      ] refl

  module _ {R : X → X → Ordering} (order : IsTotalOrder R) where
    not_below_itself : (x : X) → R x x ≡ Less → ⊥
    not_below_itself x h = let t = tied_itself order x in cc

    pub same_list : (xs ys : List X) → IsStrictlySortedBy R xs → IsStrictlySortedBy R ys → ((x : X) → Contains xs x → Contains ys x) → ((x : X) → Contains ys x → Contains xs x) → xs ≡ ys
    unfolding IsStrictlySortedBy
    same_list [] [] a b f g = refl
    same_list [] (y ∷ ys) a b f g = absurd (none y (g y (here y ys)))
    same_list (x ∷ xs) [] a b f g = absurd (none x (f x (here x xs)))
    same_list (x ∷ xs) (y ∷ ys) a b f g =
        let below : (z : X) → Contains ys z → R y z ≡ Less = λ z c. of_each (λ z. R y z ≡ Less) ys z b.0 c in
        let above : (z : X) → Contains xs z → R x z ≡ Less = λ z c. of_each (λ z. R x z ≡ Less) xs z a.0 c in
        let head : x ≡ y =
        ⊎_elim (λ e. sym e)
        (λ c. ⊎_elim (λ e. e) (λ d. absurd (not_below_itself x (order.trans x y x (above y d) (below x c)))) (cases x xs y (g y (here y ys))))
        (cases y ys x (f x (here x xs))) in
        let tail : xs ≡ ys =
        same_list xs ys a.1 b.1
        (λ z c. ⊎_elim (λ e. absurd (not_below_itself x (subst (λ t. R x t ≡ Less) (sym e ∙ sym head) (above z c)))) (λ d. d) (cases y ys z (f z (there x xs z c))))
        (λ z c. ⊎_elim (λ e. absurd (not_below_itself y (subst (λ t. R y t ≡ Less) (sym e ∙ head) (below z c)))) (λ d. d) (cases x xs z (g z (there y ys z c)))) in
        cc

    joined : (xs ys : List X) → IsStrictlySortedBy R xs → IsStrictlySortedBy R ys → ((x y : X) → Contains xs x → Contains ys y → R x y ≡ Less) → IsStrictlySortedBy R (xs ++ ys)
    unfolding IsStrictlySortedBy
    joined [] ys a b f = b
    joined (x ∷ xs) ys a b f = (
      each_from (λ z. R x z ≡ Less) (xs ++ ys) (λ z c. ⊎_elim (λ d. of_each (λ z. R x z ≡ Less) xs z a.0 d) (λ d. f x z (here x xs) d) (Contains-append_cases xs ys z c)),
      joined xs ys a.1 b (λ u v c d. f u v (there x xs u c) d),
    )

    on_top : (x : X) (ys : List X) → ((y : X) → Contains ys y → R x y ≡ Less) → IsStrictlySortedBy R ys → IsStrictlySortedBy R (x ∷ ys)
    unfolding IsStrictlySortedBy
    on_top x ys f b = (each_from (λ y. R x y ≡ Less) ys f, b)

    is_less : (o : Ordering) → is_lt o ≡ true → o ≡ Less
    is_less Less e = refl
    is_less Equal e = cc
    is_less Greater e = cc

    -- a set with one more member
    module _ (s : X) (set : List X) where
      before : List X
      before = filter (λ t. is_lt (R t s)) set

      behind : List X
      behind = filter (λ t. is_lt (R s t)) set

      before_is : (t : X) → Contains before t → R t s ≡ Less
      unfolding before
      before_is t c = is_less _ (from_filter (λ t. is_lt (R t s)) set t c).1

      behind_is : (t : X) → Contains behind t → R s t ≡ Less
      unfolding behind
      behind_is t c = is_less _ (from_filter (λ t. is_lt (R s t)) set t c).1

      pub with_member-sorted : IsStrictlySortedBy R set → IsStrictlySortedBy R (filter (λ t. is_lt (R t s)) set ++ s ∷ filter (λ t. is_lt (R s t)) set)
      unfolding before behind
      with_member-sorted a =
          joined before (s ∷ behind) (IsStrictlySortedBy-filter R _ set a) (on_top s behind behind_is (IsStrictlySortedBy-filter R _ set a))
          (λ x y c d. ⊎_elim (λ e. subst (λ z. R x z ≡ Less) e (before_is x c)) (λ k. order.trans x s y (before_is x c) (behind_is y k)) (cases s behind y d))

      pub from_with_member : (x : X) → Contains (filter (λ t. is_lt (R t s)) set ++ s ∷ filter (λ t. is_lt (R s t)) set) x → (s ≡ x) ⊎ Contains set x
      unfolding before behind
      from_with_member x c =
          ⊎_elim (λ d. inr (from_filter (λ t. is_lt (R t s)) set x d).0)
          (λ d. ⊎_elim (λ e. inl e) (λ k. inr (from_filter (λ t. is_lt (R s t)) set x k).0) (cases s behind x d))
          (Contains-append_cases before (s ∷ behind) x c)

      pub in_with_member : ((x y : X) → R x y ≡ Equal → x ≡ y) → (x : X) → (s ≡ x) ⊎ Contains set x → Contains (filter (λ t. is_lt (R t s)) set ++ s ∷ filter (λ t. is_lt (R s t)) set) x
      unfolding before behind
      in_with_member tied x (inl e) = Contains-append_right before (s ∷ behind) x (subst (Contains (s ∷ behind)) e (here s behind))
      in_with_member tied x (inr c) =
          elim (R x s) as (λ o. R x s ≡ o → Contains (before ++ s ∷ behind) x) [
            | Less ↦ λ e. Contains-append_left before (s ∷ behind) x (in_filter (λ t. is_lt (R t s)) set x c (ap is_lt e))
            | Equal ↦ λ e. Contains-append_right before (s ∷ behind) x (subst (Contains (s ∷ behind)) (sym (tied x s e)) (here s behind))
            | Greater ↦ λ e. Contains-append_right before (s ∷ behind) x (there s behind x (in_filter (λ t. is_lt (R s t)) set x c (ap is_lt (order.antisymm s x ∙ ap ordering_reverse e))))
          ] refl
