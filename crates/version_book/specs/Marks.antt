-- What a batch can read, and which writes hit it. A mark is represented by the crate's own type `MarkKind`.
use Rattle.std.specs.Prelude.{◌≡◌, Bool, true, false, ◌||◌, filter, Option, Some, None, bytes_eq, if◌then◌else◌}
use Rattle.entry_book.specs.declared.agent.Agent.{Agent}
use Rattle.entry_book.specs.declared.bundle.Bundle.{Bundle}
use Rattle.entry_book.specs.declared.kept.KeptBatch.{KeptBatch}
use Rattle.entry_book.specs.Rows.{Bytes, Entry}
use Rattle.entry_book.specs.Book.{Book, in_group, names, expires_before}
use Rattle.entry_book.specs.Writes.{RowChange, RowWrite, wrote_entry, wrote_agent, wrote_bundle, wrote_token}
use Rattle.version_book.specs.declared.mark.MarkKind.{MarkKind}
use Rattle.version_book.specs.declared.mark.MarkKind.TheVariants as mark

-- ---- which rows a mark names

-- whether the mark names the entry
abbrev pub names_entry : MarkKind → Entry → Bool
names_entry (mark.Entry id) e = bytes_eq e.id id
names_entry (mark.Group parent identity) e = in_group parent identity e
names_entry (mark.Children parent) e = bytes_eq e.parent parent
names_entry (mark.Users domain) e = names domain e
names_entry (mark.Expiring moment) e = expires_before moment e
names_entry mark.All e = true
names_entry m e = false

-- whether the mark names the agent
abbrev pub names_agent : MarkKind → Agent → Bool
names_agent (mark.Agent id) a = bytes_eq a.id id
names_agent m a = false

-- whether the mark names the bundle
abbrev pub names_bundle : MarkKind → Bundle → Bool
names_bundle (mark.Bundle domain) d = bytes_eq d.domain domain
names_bundle m d = false

-- the mark is that of this token
abbrev pub is_of_token : Bytes → MarkKind → Bool
is_of_token k (mark.Token token) = bytes_eq k token
is_of_token k m = false

-- whether the mark names the stored batch
abbrev pub names_token : MarkKind → KeptBatch → Bool
names_token m k = is_of_token k.token m

-- what a mark reads from a book: the book of the rows that it names, possibly none
abbrev pub reads : MarkKind → Book → Book
reads m b = record { entries = filter (names_entry m) b.entries; agents = filter (names_agent m) b.agents; bundles = filter (names_bundle m) b.bundles; tokens = filter (names_token m) b.tokens }

-- both books read the same at the mark
abbrev pub Agree : Book → Book → MarkKind → Type 0
Agree b c m = reads m b ≡ reads m c

-- ---- which writes hit a mark

-- there is a row, and it passes the test
abbrev pub passes_if_some : {X : Type 0} → (X → Bool) → Option X → Bool
passes_if_some p None = false
passes_if_some p (Some x) = p x

-- the mark is that of the entry of this id, or of all entries
abbrev pub is_of_entry : Bytes → MarkKind → Bool
is_of_entry k (mark.Entry id) = bytes_eq k id
is_of_entry k mark.All = true
is_of_entry k m = false

-- The mark names the old row or the new one. A write of an entry also hits the mark of the entry's id, and that of all entries.
abbrev pub hits : RowWrite → MarkKind → Bool
hits (wrote_entry c) m = is_of_entry c.key m || (passes_if_some (names_entry m) c.old || passes_if_some (names_entry m) c.new)
hits (wrote_agent c) m = passes_if_some (names_agent m) c.old || passes_if_some (names_agent m) c.new
hits (wrote_bundle c) m = passes_if_some (names_bundle m) c.old || passes_if_some (names_bundle m) c.new
hits (wrote_token c) m = passes_if_some (names_token m) c.old || passes_if_some (names_token m) c.new

-- ---- the part of a write that a mark sees

-- the row, if there is one and it passes the test
abbrev pub kept_if : {X : Type 0} → (X → Bool) → Option X → Option X
kept_if p None = None
kept_if p (Some x) = if p x then Some x else None

-- the change, with the old and the new row only if they pass the test
abbrev pub seen_change : {X : Type 0} → (X → Bool) → RowChange X → RowChange X
seen_change p c = record { key = c.key; old = kept_if p c.old; new = kept_if p c.new }

-- the write, with the old and the new row only if the mark names them
abbrev pub seen : MarkKind → RowWrite → RowWrite
seen m (wrote_entry c) = wrote_entry (seen_change (names_entry m) c)
seen m (wrote_agent c) = wrote_agent (seen_change (names_agent m) c)
seen m (wrote_bundle c) = wrote_bundle (seen_change (names_bundle m) c)
seen m (wrote_token c) = wrote_token (seen_change (names_token m) c)
