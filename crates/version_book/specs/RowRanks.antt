-- The index of the row of a key in a sorted list, or the index at which to insert it. For this crate's own contracts.
use Rattle.std.specs.Prelude.{◌≡◌, ◌<◌, ◌≤◌, ℕ, suc, List, filter, take, drop, length, Result, Ok, Err}
use Rattle.std.specs.List.{HoldsAt}
use Rattle.entry_book.specs.Rows.{Bytes}
use Rattle.entry_book.specs.Order.{is_before}

-- the row of the key is at this index, between the rows below it and those above it; or it is missing, and belongs at this
-- index
abbrev pub IsRowRank : {X : Type 0} → (X → Bytes) → List X → Bytes → Result ℕ ℕ → Type 0
IsRowRank key rows k (Ok at) = (at < length rows) × HoldsAt (λ x. key x ≡ k) rows at × (take at rows ≡ filter (λ x. is_before (key x) k) rows) × (drop (suc at) rows ≡ filter (λ x. is_before k (key x)) rows)
IsRowRank key rows k (Err at) = (at ≤ length rows) × (take at rows ≡ filter (λ x. is_before (key x) k) rows) × (drop at rows ≡ filter (λ x. is_before k (key x)) rows)
