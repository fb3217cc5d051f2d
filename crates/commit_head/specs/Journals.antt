-- The journal (commit log): one item for each commit, and how the items lead from version to version.
use Rattle.std.specs.Prelude.{◌≡◌, ◌⊎◌, ⊤, ℕ, ◌+◌, List, [], ◌∷◌, ◌++◌, length, map, Some}
use Rattle.std.specs.List.{AllByRecursion}
use Rattle.entry_book.specs.declared.reply.ReplyOutcome.TheVariants.{Committed}
use Rattle.entry_book.specs.declared.reply.Reply.{Reply}
use Rattle.entry_book.specs.Rows.{Bytes}
use Rattle.entry_book.specs.Batches.{Batch, IsMadeFor}
use Rattle.entry_book.specs.Book.{Book}
use Rattle.entry_book.specs.History.{verdict, adds, CommitAll, IsFirst, last_book, place_of, replies_from}
use Rattle.version_book.specs.CommittedRows.{CommittedRows, VersionState, book_of, no_rows, numbered}
use Rattle.version_book.specs.History.{version_with, writes_of}
use Rattle.commit_head.specs.declared.item.Item.{Item}

-- the rows of a book, each as if commit n had written it
abbrev pub rows_numbered : ℕ → Book → CommittedRows
rows_numbered n b = record { entries = map (numbered n) b.entries; agents = map (numbered n) b.agents; bundles = map (numbered n) b.bundles; tokens = map (numbered n) b.tokens }

-- the version of the last of the books with which a history begins
abbrev pub first_version : Bytes → List Book → VersionState
first_version own_domain first = record { domain = own_domain; number = place_of first; rows = rows_numbered (place_of first) (last_book first) }

-- the version of book 0, which is that of `first_books`
abbrev pub empty_version : Bytes → VersionState
empty_version own_domain = record { domain = own_domain; number = 0; rows = no_rows }

-- The item's batch commits on the version. Its replies are those of the specification, and its writes are those of the batch,
-- with the place 0.
pub record Joins (item : Item) (s : VersionState) : Type 0 where
  pub made : IsMadeFor s.domain item.batch
  pub added : verdict item.batch s.number (Some (book_of s.rows)) ≡ adds item.replies (book_of (version_with item.batch s).rows)
  pub writes : item.changes ≡ writes_of item.batch 0 (book_of s.rows)

-- the items lead from the older version to the newer one: each joins the version that the items before it left
abbrev pub Leads : VersionState → List Item → VersionState → Type 0
Leads older [] newer = older ≡ newer
Leads older (item ∷ items) newer = Joins item older × Leads (version_with item.batch older) items newer

-- the batches of the items, in order
abbrev pub batches_of : List Item → List Batch
batches_of items = map (λ item. item.batch) items

-- the second list is a suffix of the first
abbrev pub IsSuffix : List Item → List Item → Type 0
IsSuffix whole end = (front : List Item) × (whole ≡ front ++ end)

-- one list is a suffix of the other
abbrev pub Agrees : List Item → List Item → Type 0
Agrees items others = IsSuffix items others ⊎ IsSuffix others items

-- ---- in relation to the specification

-- the number of the last book after the items of a journal that begins with the first books
abbrev pub place_after : List Book → List Item → ℕ
place_after first items = length items + place_of first

-- the replies of these committed batches, if n commits came before them
abbrev pub committed_after : ℕ → List Item → List Reply
committed_after n [] = []
committed_after n (item ∷ items) = record { place = n + 1; outcome = Committed item.replies } ∷ committed_after (n + 1) items

-- The two items differ in seat or call.
pub record IsOther (item other : Item) : Type 0 where
  pub apart : item.seat ≡ other.seat → item.call ≡ other.call → ⊥

-- no two items have the same seat and call
abbrev pub EachCallOnce : List Item → Type 0
EachCallOnce [] = ⊤
EachCallOnce (item ∷ items) = AllByRecursion (IsOther item) items × EachCallOnce items

-- A lawful journal of a history that begins with the first books, as a history may. Its batches were made for the trust domain.
-- The specification commits each of them in turn at its number, with the item's replies. No two items have the same seat and call.
pub record IsLawfulJournal (first : List Book) (own_domain : Bytes) (items : List Item) : Type 0 where
  pub is_first : IsFirst own_domain first
  pub made : AllByRecursion (IsMadeFor own_domain) (batches_of items)
  pub committed : CommitAll first (batches_of items)
  pub replies : replies_from first (batches_of items) ≡ committed_after (place_of first) items
  pub once : EachCallOnce items
