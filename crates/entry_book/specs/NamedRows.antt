-- Which rows an operation writes. A theorem of this crate says that it writes these rows, in this order, and no other.
use Rattle.std.specs.Prelude.{List, [], ◌∷◌, ◌++◌, map}
use Rattle.entry_book.specs.declared.op.Op.{Op}
use Rattle.entry_book.specs.declared.op.Op.TheVariants.{Create, Update, Delete, Show, ShowAgent, ShowBundle, Children, Page, Authorised, Trust, Prune, SetAgent, DropAgent, SetBundle, DropBundle}
use Rattle.entry_book.specs.Rows.{Bytes, Entry}
use Rattle.entry_book.specs.Book.{Book, users_of, expired_before}
use Rattle.entry_book.specs.Writes.{RowWrite, wrote_entry, wrote_agent, wrote_bundle, wrote_token}

-- The name of a row: the entry of an id, the agent of an ID, the bundle of a trust domain, or the batch stored under a token.
pub data RowName : Type 0 where
  entry_of : Bytes → RowName
  agent_of : Bytes → RowName
  bundle_of : Bytes → RowName
  token_of : Bytes → RowName

-- the row that a write changes
abbrev pub row_written : RowWrite → RowName
row_written (wrote_entry c) = entry_of c.key
row_written (wrote_agent c) = agent_of c.key
row_written (wrote_bundle c) = bundle_of c.key
row_written (wrote_token c) = token_of c.key

-- the name of an entry's row
abbrev pub entry_name : Entry → RowName
entry_name e = entry_of e.id

-- A prune names the expired entries. A dropped bundle comes after the entries that name its domain; there are none of these if a
-- restricted drop is accepted.
abbrev pub rows_named : Op → Book → List RowName
rows_named (Create e) b = entry_of e.id ∷ []
rows_named (Update e expected) b = entry_of e.id ∷ []
rows_named (Delete k expected) b = entry_of k ∷ []
rows_named (Show k) b = []
rows_named (ShowAgent k) b = []
rows_named (ShowBundle domain) b = []
rows_named (Children p) b = []
rows_named (Page q) b = []
rows_named (Authorised k) b = []
rows_named (Trust k) b = []
rows_named (Prune moment) b = map entry_name (expired_before moment b)
rows_named (SetAgent a) b = agent_of a.id ∷ []
rows_named (DropAgent k) b = agent_of k ∷ []
rows_named (SetBundle domain text) b = bundle_of domain ∷ []
rows_named (DropBundle domain mode) b = map entry_name (users_of domain b) ++ bundle_of domain ∷ []
