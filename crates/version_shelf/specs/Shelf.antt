-- A shelf as the list of its rows, each a key with its value, in strictly ascending order of keys. Two keys are the same if
-- the order says that they are equal.
use Rattle.std.specs.Prelude.{◌≡◌, ℕ, ◌<◌, ◌&&◌, if◌then◌else◌, List, ◌∷◌, ◌++◌, length, filter, Option, is_some}
use Rattle.std.specs.declared.cmp.Ordering.{Ordering}
use Rattle.std.specs.Ordering.{is_eq, is_lt, is_gt, is_ge}
use Rattle.std.specs.List.Sorted.{IsStrictlySortedBy}
use Rattle.std.specs.Map.{keys_of, lookup}

-- each clone equals its original
abbrev pub ClonesEqual : {T : Type 0} → (T → T → Type 0) → Type 0
ClonesEqual {T} is_clone = (x y : T) → is_clone x y → y ≡ x

-- the largest number of rows in a shelf
abbrev pub most_rows : ℕ
most_rows = 262144

-- there are fewer rows than the largest number
abbrev pub HasRoom : {K V : Type 0} → List (K × V) → Type 0
HasRoom rows = length rows < most_rows

module _ {K V : Type 0} (cmp : K → K → Ordering) where
  -- each key is below all keys after it, so no key occurs twice
  abbrev pub IsInOrder : List (K × V) → Type 0
  IsInOrder rows = IsStrictlySortedBy cmp (keys_of rows)

  -- the value at the key, if a row has the key
  abbrev pub get : List (K × V) → K → Option V
  get rows key = lookup (λ k. is_eq (cmp k key)) rows

  -- 1 if a row has the key, and otherwise 0
  abbrev pub count_of : List (K × V) → K → ℕ
  count_of rows key = if is_some (get rows key) then 1 else 0

  -- the rows with lo <= key < hi
  abbrev pub rows_between : List (K × V) → K → K → List (K × V)
  rows_between rows lo hi = filter (λ row. is_ge (cmp row.0 lo) && is_lt (cmp row.0 hi)) rows

  -- the rows whose keys are equal to the key or above it
  abbrev pub rows_from : List (K × V) → K → List (K × V)
  rows_from rows key = filter (λ row. is_ge (cmp row.0 key)) rows

  -- the rows whose keys are below the key
  abbrev pub rows_below : List (K × V) → K → List (K × V)
  rows_below rows key = filter (λ row. is_lt (cmp row.0 key)) rows

  -- the rows whose keys are above the key
  abbrev pub rows_above : List (K × V) → K → List (K × V)
  rows_above rows key = filter (λ row. is_gt (cmp row.0 key)) rows

  -- the rows below the key, this row, and the rows above the key
  abbrev pub with_key : List (K × V) → K → V → List (K × V)
  with_key rows key value = rows_below rows key ++ (key, value) ∷ rows_above rows key

  -- the rows below the key, and the rows above it
  abbrev pub without_key : List (K × V) → K → List (K × V)
  without_key rows key = rows_below rows key ++ rows_above rows key

  -- as maps, new equals old except at the key, where it has this value, or none
  abbrev pub ChangesAt : List (K × V) → List (K × V) → K → Option V → Type 0
  ChangesAt old new key value = (q : K) → get new q ≡ (if is_eq (cmp key q) then value else get old q)
