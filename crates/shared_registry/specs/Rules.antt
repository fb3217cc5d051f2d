-- The entries of a history and its words. The invariant of the words is in `RulesPrivate`.
use Rattle.std.specs.Prelude.{ℕ, true, List, [], ◌∷◌}
use Rattle.logbook.specs.Pages.{Book, Named}
use Rattle.commit_head.specs.declared.item.Item.{Item}
use Rattle.shared_registry.specs.declared.entry.HistoryEntry.{HistoryEntry}

-- the items of these entries, in order
abbrev pub items_of : List HistoryEntry → List Item
items_of [] = []
items_of (e ∷ entries) = e.item ∷ items_of entries

-- the word of a history that has this key; `Book` is the name of a history in `logbook`, and no registration book
abbrev pub word_of : ℕ → Book → Named
word_of key b = record { tracked = true; key = key; book = b }
