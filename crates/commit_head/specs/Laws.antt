-- Theorems about journals and heads. Each is a clause of a function of the module `laws`.
use Rattle.std.specs.Prelude.{◌≡◌, ℕ, ◌+◌, ◌<◌, ◌≤◌, ◌^◌, List, [], ◌∷◌, ◌++◌, length, Option, Some}
use Rattle.entry_book.specs.Rows.{Bytes}
use Rattle.entry_book.specs.declared.reply.ReplyOutcome.TheVariants.{Committed}
use Rattle.entry_book.specs.Batches.{Batch, IsMadeFor}
use Rattle.entry_book.specs.Book.{Book}
use Rattle.entry_book.specs.History.{CommitAll, IsFirst, books_after, books_from, first_books, reply_to}
use Rattle.version_book.specs.CommittedRows.{VersionState}
use Rattle.version_book.specs.History.{Follows, IsLast, version_with}
use Rattle.batch_work.specs.Reads.{footprint_of}
use Rattle.batch_work.specs.Windows.{WindowRepresents}
use Rattle.batch_work.specs.Working.{Base}
use Rattle.commit_head.specs.declared.item.Item.{Item}
use Rattle.commit_head.specs.Heads.{BeganOn, Head, IsAppended, IsJournal, IsUnchangedHead, last_items, newest_of, head_place}
use Rattle.commit_head.specs.Journals.{Agrees, Joins, Leads, EachCallOnce, IsLawfulJournal, batches_of, empty_version, first_version, place_after}

-- The batches of the items lead from the older version to the newer one, whose number has grown by one for each item.
pub record AreBatches (older : VersionState) (items : List Item) (newer : VersionState) : Type 0 where
  pub follows : Follows older (batches_of items) newer
  pub count : length items + older.number ≡ newer.number

-- if items lead from one version to another, so do their batches
abbrev pub ItemsFollow : Type 0
ItemsFollow = (items : List Item) (older newer : VersionState) → Leads older items newer → AreBatches older items newer

-- after one more item, which joins the newer version, they lead to the version after it
abbrev pub LeadsFurther : Type 0
LeadsFurther = (items : List Item) (item : Item) (older newer : VersionState) → Leads older items newer → Joins item newer → Leads older (items ++ item ∷ []) (version_with item.batch newer)

-- a journal has one batch for each item
abbrev pub CountOfBatches : Type 0
CountOfBatches = (items : List Item) → length (batches_of items) ≡ length items

-- the batches of two lists of items joined are those of the first, then those of the second
abbrev pub BatchesJoin : Type 0
BatchesJoin = (first second : List Item) → batches_of (first ++ second) ≡ batches_of first ++ batches_of second

-- the version of the first books, if these are the empty book alone, is the version of book 0
abbrev pub EmptyIsFirstVersion : Type 0
EmptyIsFirstVersion = (own_domain : Bytes) → first_version own_domain first_books ≡ empty_version own_domain

-- and the number of the last book is then the number of items
abbrev pub EmptyPlace : Type 0
EmptyPlace = (items : List Item) → place_after first_books items ≡ length items

-- A version to which items lead from that of the first books has the last of the books of their batches, and each of them commits. Its
-- number counts them, from the place of the first books on.
pub record LedTo (first : List Book) (items : List Item) (s : VersionState) : Type 0 where
  pub commit : CommitAll first (batches_of items)
  pub last : IsLast s (books_from first (batches_of items))
  pub number : s.number ≡ place_after first items

-- so it is with each such version
abbrev pub LeadsOnBooks : Type 0
LeadsOnBooks = (first : List Book) (own_domain : Bytes) (items : List Item) (s : VersionState) → 0 < length first → Leads (first_version own_domain first) items s → LedTo first items s

-- a new head's journal has no items
abbrev pub JournalBegins : Type 0
JournalBegins = (own_domain : Bytes) (h : Head) → h.window ≡ record { older = []; newest = empty_version own_domain } → h.kept ≡ [] → IsJournal first_books [] h

-- nor has that of a head whose newest version is `first_version`, and whose window represents the first books
abbrev pub JournalStarts : Type 0
JournalStarts = (first : List Book) (h : Head) → h.window.newest ≡ first_version h.window.newest.domain first → WindowRepresents h.window first → h.kept ≡ [] → IsJournal first [] h

-- if nothing has changed but the room, the journal is the same
abbrev pub JournalKept : Type 0
JournalKept = (first : List Book) (items : List Item) (old new : Head) → IsJournal first items old → IsUnchangedHead old new → IsJournal first items new

-- an item that joins the newest version and is appended is the last one of the journal
abbrev pub JournalExtends : Type 0
JournalExtends = (first : List Book) (items : List Item) (item : Item) (old new : Head) → IsJournal first items old → Joins item (newest_of old) → IsAppended old item new → IsJournal first (items ++ item ∷ []) new

-- On the list of all books, the specification commits the item's batch at this number with the item's replies. The list after
-- it is that of the longer journal.
pub record IsCommittedOnBooks (first : List Book) (items : List Item) (item : Item) (n : ℕ) : Type 0 where
  pub reply : reply_to item.batch (books_from first (batches_of items)) ≡ record { place = n; outcome = Committed item.replies }
  pub books : books_after item.batch (books_from first (batches_of items)) ≡ books_from first (batches_of (items ++ item ∷ []))

-- so it is with an item that joins the newest version of a head
abbrev pub JoinsOnBooks : Type 0
JoinsOnBooks = (first : List Book) (items : List Item) (item : Item) (h : Head) → IsJournal first items h → Joins item (newest_of h) → IsCommittedOnBooks first items item (head_place h + 1)

-- the newest version has the last book of the journal, and its number
abbrev pub JournalLast : Type 0
JournalLast = (first : List Book) (items : List Item) (h : Head) → IsJournal first items h → IsLast (newest_of h) (books_from first (batches_of items))

-- and this number is at most 2^48
abbrev pub JournalBounded : Type 0
JournalBounded = (first : List Book) (items : List Item) (h : Head) → IsFirst h.window.newest.domain first → IsJournal first items h → h.window.newest.number ≤ 2 ^ 48

-- if no two items have the same seat and call, a journal is lawful
abbrev pub JournalIsLawful : Type 0
JournalIsLawful = (first : List Book) (own_domain : Bytes) (items : List Item) (s : VersionState) → IsFirst own_domain first → Leads (first_version own_domain first) items s → EachCallOnce items → IsLawfulJournal first own_domain items

-- on the books of a journal, the footprint of a batch has at most 2^21 marks
abbrev pub JournalReadsFew : Type 0
JournalReadsFew = (first : List Book) (own_domain : Bytes) (items : List Item) (s : VersionState) (batch : Batch) → IsFirst own_domain first → Leads (first_version own_domain first) items s → IsMadeFor own_domain batch → length (footprint_of batch (books_from first (batches_of items))) ≤ 2 ^ 21

-- a checkpoint doesn't change the journal
abbrev pub JournalUnchanged : Type 0
JournalUnchanged = (first : List Book) (items : List Item) (old new : Head) → IsJournal first items old → new.window ≡ old.window → new.kept ≡ last_items old.kept → IsJournal first items new

-- items in two parts lead to a version in between
abbrev pub LeadsInParts : Type 0
LeadsInParts = (first second : List Item) (older newer : VersionState) → Leads older (first ++ second) newer → (between : VersionState) × Leads older first between × Leads between second newer

-- a list of items leads from a version to only one other
abbrev pub LeadsToOne : Type 0
LeadsToOne = (items : List Item) (older newer other : VersionState) → Leads older items newer → Leads older items other → newer ≡ other

-- ---- when a work began on the newest version of a head or an earlier one of its history

-- a work that begins on the head's window
abbrev pub BeganHere : Type 0
BeganHere = (base : Base) (h : Head) → base.newest ≡ newest_of h → BeganOn (Some base) h

-- A version inside a journal: the items since then lead to the newest version and agree with the retained ones, so a work may
-- have begun on it.
pub record IsInside (base : Base) (since : List Item) (h : Head) : Type 0 where
  pub leads : Leads base.newest since (newest_of h)
  pub agrees : Agrees since h.kept
  pub began : BeganOn (Some base) h

-- a work that began on a version inside the journal
abbrev pub BeganInside : Type 0
BeganInside = (first : List Book) (before since : List Item) (base : Base) (h : Head) → IsJournal first (before ++ since) h → Leads (first_version h.window.newest.domain first) before base.newest → IsInside base since h

-- if nothing changed but the room
abbrev pub BeganKept : Type 0
BeganKept = (base : Option Base) (old new : Head) → BeganOn base old → IsUnchangedHead old new → BeganOn base new

-- after an item is appended
abbrev pub BeganExtends : Type 0
BeganExtends = (base : Option Base) (item : Item) (old new : Head) → BeganOn base old → Joins item (newest_of old) → IsAppended old item new → BeganOn base new

-- after a checkpoint
abbrev pub BeganUnchanged : Type 0
BeganUnchanged = (base : Option Base) (old new : Head) → BeganOn base old → new.window ≡ old.window → new.kept ≡ last_items old.kept → BeganOn base new
