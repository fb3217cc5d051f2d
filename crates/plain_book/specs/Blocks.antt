-- Rows in blocks. For this crate's own contracts.
use Rattle.std.specs.Prelude.{◌≡◌, ◌<◌, ◌≤◌, ◌-◌, ℕ, Bool, true, false, List, [], ◌∷◌, ◌++◌, length}
use Rattle.std.specs.List.{AllByRecursion, HoldsAt}
use Rattle.entry_book.specs.Rows.{Bytes}
use Rattle.entry_book.specs.Order.{is_before}

-- the concatenation of the blocks
abbrev pub joined : {X : Type 0} → List (List X) → List X
joined [] = []
joined (block ∷ blocks) = block ++ joined blocks

-- a block has 1 to 256 rows
abbrev pub IsBlock : {X : Type 0} → List X → Type 0
IsBlock block = (0 < length block) × (length block ≤ 256)

-- Each of these is a block, and together they have `count` rows.
pub record AreBlocks {X : Type 0} (blocks : List (List X)) (count : ℕ) : Type 0 where
  pub filled : AllByRecursion IsBlock blocks
  pub counted : count ≡ length (joined blocks)

-- the block has a first row, and its key is after this key
abbrev pub begins_behind : {X : Type 0} → (X → Bytes) → Bytes → List X → Bool
begins_behind key k [] = false
begins_behind key k (x ∷ xs) = is_before k (key x)

-- The index n is at most the number of blocks. The block before it, if there is one, doesn't begin after the key. The block
-- at it, if there is one, does.
pub record IsBlockRank {X : Type 0} (key : X → Bytes) (k : Bytes) (blocks : List (List X)) (n : ℕ) : Type 0 where
  pub inside : n ≤ length blocks
  pub before : 0 < n → HoldsAt (λ block. begins_behind key k block ≡ false) blocks (n - 1)
  pub behind : n < length blocks → HoldsAt (λ block. begins_behind key k block ≡ true) blocks n

-- The rows of the blocks are those of `before`, then those in `rows`, then those of `behind`. Those of `before` are below
-- the key, and those of `behind` are above it. `before` and `behind` consist of blocks, and `rows` has at most 256.
pub record IsCut {X : Type 0} (key : X → Bytes) (k : Bytes) (blocks before : List (List X)) (rows : List X) (behind : List (List X)) : Type 0 where
  pub whole : joined blocks ≡ joined before ++ (rows ++ joined behind)
  pub below : AllByRecursion (λ x. is_before (key x) k ≡ true) (joined before)
  pub above : AllByRecursion (λ x. is_before k (key x) ≡ true) (joined behind)
  pub filled_before : AllByRecursion IsBlock before
  pub filled_behind : AllByRecursion IsBlock behind
  pub size : length rows ≤ 256
