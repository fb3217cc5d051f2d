-- The workers of a server, as a list.
use Rattle.std.proofs.Common.{ℕ, List, [], ◌∷◌, ◌<◌, length, arith}

-- a list that has this index has an item
pub some_item : {A : Type 0} (xs : List A) (i : ℕ) → i < length xs → A
some_item [] i low = absurd (omega arith)
some_item (x ∷ xs) i low = x
