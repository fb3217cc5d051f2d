-- What follows if a test in a table of refusals is passed.
use Rattle.std.proofs.Common.{ltb, not, ◌≡◌, ◌≢◌, List, ℕ, ◌<◌, ◌≤◌, Bool, true, false, cond, ◌&&◌, ◌==◌, Option, None, Some, refl, ap, arith}
use Rattle.std.specs.Prelude.{bytes_eq}
use Rattle.std.specs.Cmp.Lexicographic.{bytes_decides}
use Rattle.std.proofs.lemmas.Bool.Decides.{nat_tests}

pub not_some : {A : Type 0} (b : Bool) (x : A) (o : Option A) → cond b (Some x) o ≡ None → (b ≡ false) × (o ≡ None)
not_some true x o e = cc
not_some false x o e = (refl, e)

pub is_not : {A : Type 0} (b : Bool) (x : A) (o : Option A) → cond (not b) (Some x) o ≡ None → (b ≡ true) × (o ≡ None)
is_not true x o e = (refl, e)
is_not false x o e = cc

pub if_false : {A : Type 0} (b : Bool) (x y : A) → b ≡ false → cond b x y ≡ y
if_false b x y e = ap (λ v. cond v x y) e

pub if_true : {A : Type 0} (b : Bool) (x y : A) → b ≡ true → cond b x y ≡ x
if_true b x y e = ap (λ v. cond v x y) e

pub if_not : {A : Type 0} (b : Bool) (x y : A) → b ≡ true → cond (not b) x y ≡ y
if_not b x y e = ap (λ v. cond (not v) x y) e

pub not_zero : (n : ℕ) → (n == 0) ≡ false → 0 < n
not_zero n e = grind (arith, nat_tests)

pub zero_not : (n : ℕ) → 0 < n → (n == 0) ≡ false
zero_not n h = grind (arith, nat_tests)

pub not_above : (m n : ℕ) → n ≤ m → ltb m n ≡ false
not_above m n h = grind (arith, nat_tests)

pub both_true : (a b : Bool) → (a && b) ≡ true → (a ≡ true) × (b ≡ true)
both_true true b e = (refl, e)
both_true false b e = cc

-- texts that differ compare as unequal
pub bytes_eq-differ : (xs ys : List ℕ) → xs ≢ ys → bytes_eq xs ys ≡ false
bytes_eq-differ xs ys h =
    elim (bytes_eq xs ys) as (λ b. bytes_eq xs ys ≡ b → b ≡ false) [ true ↦ λ e. absurd (h ((bytes_decides xs ys).0 e)) | false ↦ λ e. refl ] refl
