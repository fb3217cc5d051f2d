-- The one list of committed batches, of which all callers of a registry have seen a prefix.
use Rattle.std.specs.Prelude.{◌≡◌, ◌≤◌, ◌⊎◌, ℕ, zero, suc, List, Option, None, length, slice_get, take}
use mathlib.Core.List.{IsPrefix}
use Rattle.commit_head.specs.declared.item.Item.{Item}

-- the commit at this index of a journal, if the journal has as many; the first commit has index 1, whatever the first books are
abbrev pub commit_at : ℕ → List Item → Option Item
commit_at zero journal = None
commit_at (suc n) journal = slice_get journal n

-- Of the two journals one is a prefix of the other. So up to each index that both have, they are the same list: they have the same
-- commit there, and the same commits before it.
pub record AreOneList (one other : List Item) : Type 0 where
  pub prefix : IsPrefix one other ⊎ IsPrefix other one
  pub commit : (place : ℕ) → place ≤ length one → place ≤ length other → commit_at place one ≡ commit_at place other
  pub until : (place : ℕ) → place ≤ length one → place ≤ length other → take place one ≡ take place other
