-- The right to append to a history, the invariant of the history's words, and the effect of a step. For this crate's own contracts.
use Rattle.std.specs.Prelude.{⊤, ℕ, ◌≡◌, true, List, [], ◌∷◌, ◌++◌, length, None}
use Rattle.logbook.specs.Pages.{Cell, Step, View, cell, may_make}
use Rattle.shared_registry.specs.declared.entry.HistoryEntry.{HistoryEntry}

-- ---- the right to append

-- The right to append an entry is the pen with this key, after these entries. The right to append the first one has the key `first`.
abbrev pub right_after : ℕ → List HistoryEntry → ℕ
right_after first [] = first
right_after first (e ∷ log) = right_after e.next log

-- the book of words holds the value of the word with this key, so that no pen may write the word
abbrev pub IsHome : List Cell → ℕ → Type 0
IsHome cells key = (cell cells key).1 ≡ true

-- Each right that an entry was appended by is used up.
abbrev pub AreUsedUp : List Cell → ℕ → List HistoryEntry → Type 0
AreUsedUp cells first [] = ⊤
AreUsedUp cells first (e ∷ log) = IsHome cells first × AreUsedUp cells e.next log

-- ---- the words

-- The first word is the length of the history. The second word is 0 until the first pen is made, which has the key 2 and is the right
-- to append the first entry.
pub record IsKept (cells : List Cell) (log : List HistoryEntry) : Type 0 where
  pub count : cell cells 0 ≡ (length log, true)
  pub pens : IsHome cells 1
  pub unmade : (cell cells 1).0 ≡ 0 → length cells ≡ 2
  pub used_up : AreUsedUp cells 2 log

-- ---- the effects of steps

-- a pen was made, which is the first one if the second word was 0
abbrev pub MakesPen : Step HistoryEntry → View HistoryEntry ℕ → ℕ → View HistoryEntry ℕ → Type 0
MakesPen s v found w = (w.1.0.right ≡ may_make) × (found ≡ 0 → w.1.0.key ≡ 2)

-- the entry was appended to all that had been seen
abbrev pub Appends : Step HistoryEntry → View HistoryEntry ℕ → ℕ → View HistoryEntry ℕ → Type 0
Appends s v found w = w.0 ≡ v.0 ++ s.ask ∷ []

-- the history has this length, and the caller has still its pen
abbrev pub Looks : Step HistoryEntry → View HistoryEntry ℕ → ℕ → View HistoryEntry ℕ → Type 0
Looks s v found w = (length w.0 ≡ s.old) × (w.1.0 ≡ v.1.0)

-- an entry for the steps that append none
abbrev pub no_entry : HistoryEntry
no_entry = record {
  item = record { seat = 0; call = 0; batch = record { domain = []; ops = []; after = 0; token = None }; replies = []; changes = [] };
  next = 0;
}
