-- The index of a key's row in a list of rows, or where it would be inserted. For this crate's own contracts.
use Rattle.std.specs.Prelude.{◌≡◌, ◌<◌, ◌≤◌, ℕ, suc, List, filter, take, drop, length, Result, Ok, Err}
use Rattle.std.specs.List.{HoldsAt}
use Rattle.entry_book.specs.Rows.{Bytes}
use Rattle.entry_book.specs.Order.{is_before}

-- The rows before this index are exactly those below the key. Ok: the row at it has the key, and the rows after it are exactly
-- those above the key. Err: the rows from it on are exactly those above the key.
abbrev pub IsRank : {X : Type 0} → (X → Bytes) → List X → Bytes → Result ℕ ℕ → Type 0
IsRank key rows k (Ok at) = (at < length rows) × HoldsAt (λ x. key x ≡ k) rows at × (take at rows ≡ filter (λ x. is_before (key x) k) rows) × (drop (suc at) rows ≡ filter (λ x. is_before k (key x)) rows)
IsRank key rows k (Err at) = (at ≤ length rows) × (take at rows ≡ filter (λ x. is_before (key x) k) rows) × (drop at rows ≡ filter (λ x. is_before k (key x)) rows)
