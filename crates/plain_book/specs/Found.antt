-- The entries that a walk has found. For this crate's own contracts.
use Rattle.std.specs.Prelude.{Bool, List, [], ◌∷◌, filter, not, Some, bytes_eq, is_some}
use Rattle.entry_book.specs.Rows.{Entry, entry_key}
use Rattle.entry_book.specs.Order.{first, with_row}

-- no entry found has this one's id
abbrev pub is_missing : List Entry → Entry → Bool
is_missing found e = not (is_some (first (filter (λ x. bytes_eq x.id e.id) found)))

-- the entries found after these are put among them in turn; each replaces the one with its id, if there is one
abbrev pub with_all : List Entry → List Entry → List Entry
with_all [] found = found
with_all (e ∷ es) found = with_all es (with_row entry_key e.id (Some e) found)
