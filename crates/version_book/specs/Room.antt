-- How many rows a version may have: each set must fit in a shelf, and so must the index of entries by trust domain.
use Rattle.std.specs.Prelude.{◌≤◌, ◌+◌, ⊤, ℕ, List, [], ◌∷◌, length, IfSome}
use Rattle.version_shelf.specs.Shelf.{most_rows}
use Rattle.entry_book.specs.Rows.{Entry}
use Rattle.entry_book.specs.Book.{Book}
use Rattle.entry_book.specs.Writes.{RowWrite, wrote_entry, wrote_agent, wrote_bundle, wrote_token, after_write}

-- the sum, over the entries, of the number of trust domains that each names
abbrev pub count_of_names : List Entry → ℕ
count_of_names [] = 0
count_of_names (e ∷ es) = length e.domains + count_of_names es

-- there is room for the row that a write puts, if it puts one
abbrev pub RoomFor : RowWrite → Book → Type 0
RoomFor (wrote_entry c) b = IfSome c.new (λ e. (length (after_write (wrote_entry c) b).entries ≤ most_rows) × (count_of_names (after_write (wrote_entry c) b).entries ≤ most_rows))
RoomFor (wrote_agent c) b = IfSome c.new (λ a. length (after_write (wrote_agent c) b).agents ≤ most_rows)
RoomFor (wrote_bundle c) b = IfSome c.new (λ d. length (after_write (wrote_bundle c) b).bundles ≤ most_rows)
RoomFor (wrote_token c) b = IfSome c.new (λ k. length (after_write (wrote_token c) b).tokens ≤ most_rows)

-- there is room for each write, on the book that the earlier ones left
abbrev pub RoomAll : List RowWrite → Book → Type 0
RoomAll [] b = ⊤
RoomAll (w ∷ ws) b = RoomFor w b × RoomAll ws (after_write w b)
