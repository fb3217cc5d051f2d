-- A finite set of rows, represented by the list of its members in strictly ascending order of their keys. Equal sets are
-- equal lists.
use Rattle.std.specs.Prelude.{◌≡◌, ℕ, Bool, true, ⊤, ◌⊎◌, List, [], ◌∷◌, ◌++◌, filter, Option, Some, None, option_to_list}
use Rattle.std.specs.Ordering.{is_lt, nat_cmp}
use Rattle.std.specs.Cmp.Lexicographic.{slice_cmp}
use Rattle.std.specs.List.{AllByRecursion}

-- x is one of the list's items
abbrev pub Within : {X : Type 0} → List X → X → Type 0
Within [] x = ⊥
Within (y ∷ ys) x = (y ≡ x) ⊎ Within ys x

-- keys are ordered by their bytes
unfoldable pub is_before : List ℕ → List ℕ → Bool
is_before x y = is_lt (slice_cmp nat_cmp x y)

-- each key is less than all later ones
abbrev pub Ascending : {X : Type 0} → (X → List ℕ) → List X → Type 0
Ascending key [] = ⊤
Ascending key (x ∷ xs) = AllByRecursion (λ y. is_before (key x) (key y) ≡ true) xs × Ascending key xs

-- the rows, with the new row, if any, in place of the row at k: the rows below k, the new row, the rows above k
unfoldable pub with_row : {X : Type 0} → (X → List ℕ) → List ℕ → Option X → List X → List X
with_row key k new rows = filter (λ x. is_before (key x) k) rows ++ (option_to_list new ++ filter (λ x. is_before k (key x)) rows)

-- the first item, if there is one
abbrev pub first : {X : Type 0} → List X → Option X
first [] = None
first (x ∷ xs) = Some x
