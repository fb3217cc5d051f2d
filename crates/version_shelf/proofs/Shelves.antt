-- Inner nodes that satisfy the invariant of a shelf, and the rows of a changed shelf.
use Rattle.std.proofs.Common.{◌≡◌, ℕ, ◌*◌, ◌≤◌, Bool, false, cond, List, ◌∷◌, ◌++◌, length, Option, Some, None, is_some, Bor, Result, Ok, Err, refl, ap, ◌∙◌, append_assoc, inl, inr, arith}
use Rattle.std.specs.Option.{option_copied}
use Rattle.std.specs.Result.{IfOk, MatchResult}
use Rattle.std.proofs.lemmas.Bool.{cases_lt}
use Rattle.std.specs.declared.cmp.Ordering.{Ordering}
use Rattle.version_shelf.specs.Shelf.{IsInOrder, most_rows, rows_below, rows_above, with_key, without_key}
use Rattle.version_shelf.specs.Nodes.{AreNodes, AreFullNodes, IsShelf, flatten, least_leaves, least_rows, most_inners}
use Rattle.version_shelf.proofs.Flat.{full_from_nodes, full_least}

few_middles : {X : Type 0} (inners : List (List (List X))) → AreNodes least_rows (flatten inners) → AreNodes least_leaves inners → length (flatten (flatten inners)) ≤ most_rows → (n : ℕ) → length inners ≡ n → n ≤ most_inners
few_middles inners leaves are room n is = elim (cases_lt n 513) [
  | inl few ↦ omega arith
  | inr many ↦
      let full : AreFullNodes least_leaves inners = full_from_nodes least_leaves inners are (omega arith) in
      let least : least_leaves * length inners ≤ length (flatten inners) = full_least least_leaves inners full in
      let full_leaves : AreFullNodes least_rows (flatten inners) = full_from_nodes least_rows (flatten inners) leaves (omega arith) in
      let rows : least_rows * length (flatten inners) ≤ length (flatten (flatten inners)) = full_least least_rows (flatten inners) full_leaves in
      absurd (omega arith)
]

pub new_shelf : {K V : Type 0} (cmp : K → K → Ordering) (inners : List (List (List (K × V)))) (count : ℕ) → IsInOrder cmp (flatten (flatten inners)) → count ≡ length (flatten (flatten inners)) → count ≤ most_rows → AreNodes least_rows (flatten inners) → AreNodes least_leaves inners → IsShelf cmp inners count
new_shelf cmp inners count order counted room leaves are = record {
  order = order;
  counted = counted;
  room = omega arith;
  are_leaves = leaves;
  are_inners = are;
  size = few_middles inners leaves are (omega arith) (length inners) refl;
}

-- ---- the rows of a changed shelf

joined_with : {X : Type 0} (x y b : List X) (r : X) (a z : List X) → x ++ (y ++ ((b ++ r ∷ a) ++ z)) ≡ (x ++ (y ++ b)) ++ r ∷ (a ++ z)
joined_with x y b r a z = simp append_assoc

joined_without : {X : Type 0} (x y b a z : List X) → x ++ (y ++ ((b ++ a) ++ z)) ≡ (x ++ (y ++ b)) ++ (a ++ z)
joined_without x y b a z = simp append_assoc

module _ {K V : Type 0} (cmp : K → K → Ordering) (key : K) (old all new x y b a z rows : List (K × V)) where
  pub rows_with_key : (value : V) (row : K × V) → new ≡ x ++ (y ++ (rows ++ z)) → rows ≡ b ++ row ∷ a → row ≡ (key, value) → x ++ (y ++ b) ≡ rows_below cmp all key → a ++ z ≡ rows_above cmp all key → all ≡ old → new ≡ with_key cmp old key value
  rows_with_key value row is parts made below above same =
      is ∙ ap (λ l. x ++ (y ++ (l ++ z))) parts ∙ joined_with x y b row a z
      ∙ ap (λ l. l ++ row ∷ (a ++ z)) below
      ∙ ap (λ l. rows_below cmp all key ++ row ∷ l) above
      ∙ ap (λ r. rows_below cmp all key ++ r ∷ rows_above cmp all key) made
      ∙ ap (λ l. with_key cmp l key value) same

  pub rows_without_key : new ≡ x ++ (y ++ (rows ++ z)) → rows ≡ b ++ a → x ++ (y ++ b) ≡ rows_below cmp all key → a ++ z ≡ rows_above cmp all key → all ≡ old → new ≡ without_key cmp old key
  rows_without_key is parts below above same =
      is ∙ ap (λ l. x ++ (y ++ (l ++ z))) parts ∙ joined_without x y b a z
      ∙ ap (λ l. l ++ (a ++ z)) below
      ∙ ap (λ l. rows_below cmp all key ++ l) above
      ∙ ap (λ l. without_key cmp l key) same

-- a property of a value is one of each successful result that equals it
pub if_same : {T E : Type 0} (value : T) (Q : T → Type 0) → Q value → (r : Result T E) → IfOk r (λ new. new ≡ value) → IfOk r Q
if_same value Q holds (Ok v) is = rw is holds
if_same value Q holds (Err e) is = tt

pub match_same : {T E : Type 0} (value : T) (Q : T → Type 0) → Q value → (other : E → Type 0) (r : Result T E) → MatchResult r (λ new. new ≡ value) other → IfOk r Q
match_same value Q holds other (Ok v) is = rw is holds
match_same value Q holds other (Err e) is = tt

-- ---- whether a value was found

pub is_some_copied : {V : Type 0} (found : Option (Bor V)) → is_some found ≡ is_some (option_copied found)
is_some_copied None = refl
is_some_copied (Some v) = refl

pub none_from : {V : Type 0} (found : Option V) → is_some found ≡ false → found ≡ None
none_from None not = refl
none_from (Some v) not = cc

abbrev one_if : Bool → ℕ
one_if b = cond b 1 0

pub same_count : (a b : Bool) → a ≡ b → one_if a ≡ one_if b
same_count a b same = ap one_if same
