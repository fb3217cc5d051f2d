-- Sets of texts, and the members of lists.
use Rattle.std.proofs.Common.{◌≡◌, true, false, ◌⊎◌, List, [], ◌∷◌, Some, map, refl, sym, ap, subst, inl, inr, ⊎_elim}
use Rattle.std.specs.Prelude.{bytes_eq, flat_map}
use Rattle.std.proofs.lemmas.Bool.{both_ways, false_from_ne_true}
use Rattle.entry_book.specs.Rows.{Bytes}
use Rattle.entry_book.specs.Order.{Within, Ascending}
use Rattle.entry_book.proofs.Sets.{text_is, text_same, within_left, within_right, from_within_append, within_any, from_any}
use Rattle.entry_book.proofs.InOrder.{ascending-with_row}
use Rattle.entry_book.proofs.Keys.{from_with_row, within_with_row, new_with_row}
use Rattle.batch_work.specs.Reads.{text_set, is_one_of}
use Rattle.batch_work.specs.WalkStates.{with_text}

pub text_set-ascending : (xs : List Bytes) → Ascending (λ t. t) (text_set xs)
text_set-ascending [] = tt
text_set-ascending (x ∷ xs) = ascending-with_row (λ t. t) x (Some x) (text_set xs) (text_set-ascending xs) refl

pub from_text_set : (xs : List Bytes) (x : Bytes) → Within (text_set xs) x → Within xs x
from_text_set [] x w = w
from_text_set (y ∷ ys) x w = ⊎_elim (λ v. ⊎_elim (λ q. inl q) (λ n. absurd n) v) (λ r. inr (from_text_set ys x r.0)) (from_with_row (λ t. t) y (Some y) (text_set ys) x w)

pub within_text_set : (xs : List Bytes) (x : Bytes) → Within xs x → Within (text_set xs) x
within_text_set [] x w = w
within_text_set (y ∷ ys) x w =
    let new : Within (text_set (y ∷ ys)) y = new_with_row (λ t. t) y y (text_set ys) in
    elim (bytes_eq x y) as (λ t. bytes_eq x y ≡ t → Within (text_set (y ∷ ys)) x) [
      | true ↦ λ q. subst (Within (text_set (y ∷ ys))) (sym (text_is x y q)) new
      | false ↦ λ q. within_with_row (λ t. t) y (Some y) (text_set ys) x
          (within_text_set ys x (⊎_elim (λ i. absurd (both_ways _ q (text_same x y (sym i)))) (λ v. v) w))
          (λ i. both_ways _ q (text_same x y i))
    ] refl

-- ---- adding a text to a set

pub into_text : (x y : Bytes) (set : List Bytes) → Within set y → Within (with_text x set) y
into_text x y set w = elim (bytes_eq y x) as (λ t. bytes_eq y x ≡ t → Within (with_text x set) y) [
  | true ↦ λ q. subst (Within (with_text x set)) (sym (text_is y x q)) (new_with_row (λ t. t) x x set)
  | false ↦ λ q. within_with_row (λ t. t) x (Some x) set y w (λ i. both_ways _ q (text_same y x i))
] refl

pub new_text : (x : Bytes) (set : List Bytes) → Within (with_text x set) x
new_text x set = new_with_row (λ t. t) x x set

pub from_text : (x y : Bytes) (set : List Bytes) → Within (with_text x set) y → (x ≡ y) ⊎ Within set y
from_text x y set w = ⊎_elim (λ v. ⊎_elim (λ q. inl q) (λ n. absurd n) v) (λ r. inr r.0) (from_with_row (λ t. t) x (Some x) set y w)

pub text-ascending : (x : Bytes) (set : List Bytes) → Ascending (λ t. t) set → Ascending (λ t. t) (with_text x set)
text-ascending x set a = ascending-with_row (λ t. t) x (Some x) set a refl

pub one_of : (x : Bytes) (xs : List Bytes) → Within xs x → is_one_of x xs ≡ true
one_of x xs w = within_any (λ y. bytes_eq y x) xs x w (text_same x x refl)

pub from_one_of : (x : Bytes) (xs : List Bytes) → is_one_of x xs ≡ true → Within xs x
from_one_of x xs t = let r = from_any (λ y. bytes_eq y x) xs t in subst (Within xs) (text_is r.0 x r.2) r.1

pub not_one_of : (x : Bytes) (xs : List Bytes) → (Within xs x → ⊥) → is_one_of x xs ≡ false
not_one_of x xs n = false_from_ne_true _ (λ t. n (from_one_of x xs t))

pub within_map : {X Y : Type 0} (f : X → Y) (xs : List X) (x : X) → Within xs x → Within (map f xs) (f x)
within_map f [] x w = absurd w
within_map f (z ∷ zs) x w = ⊎_elim (λ e. inl (ap f e)) (λ v. inr (within_map f zs x v)) w

pub from_within_map : {X Y : Type 0} (f : X → Y) (xs : List X) (y : Y) → Within (map f xs) y → (x : X) × Within xs x × (f x ≡ y)
from_within_map f [] y w = absurd w
from_within_map f (z ∷ zs) y w = ⊎_elim (λ e. (z, inl refl, e)) (λ v. let r = from_within_map f zs y v in (r.0, inr r.1, r.2)) w

pub within_flat : {X Y : Type 0} (f : X → List Y) (xs : List X) (x : X) (y : Y) → Within xs x → Within (f x) y → Within (flat_map f xs) y
within_flat f [] x y w v = absurd w
within_flat f (z ∷ zs) x y w v = ⊎_elim (λ e. within_left (f z) _ y (subst (λ u. Within (f u) y) (sym e) v)) (λ u. within_right (f z) _ y (within_flat f zs x y u v)) w

pub from_within_flat : {X Y : Type 0} (f : X → List Y) (xs : List X) (y : Y) → Within (flat_map f xs) y → (x : X) × Within xs x × Within (f x) y
from_within_flat f [] y w = absurd w
from_within_flat f (z ∷ zs) y w = ⊎_elim (λ v. (z, inl refl, v)) (λ v. let r = from_within_flat f zs y v in (r.0, inr r.1, r.2)) (from_within_append (f z) _ y w)
