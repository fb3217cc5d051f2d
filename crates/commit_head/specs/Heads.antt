-- What a head is, and what a commit does to it.
use Rattle.std.specs.Prelude.{◌≡◌, ⊤, ℕ, ◌+◌, ◌-◌, ◌<◌, ◌≤◌, true, List, [], ◌∷◌, ◌++◌, drop, length, nat_lt, slice_get, Option, Some, None, if◌then◌else◌}
use Rattle.std.specs.List.{AllByRecursion, list_any}
use Rattle.entry_book.specs.declared.reply.Refusal.TheVariants.{Full as TooMuch}
use Rattle.entry_book.specs.Book.{Book}
use Rattle.entry_book.specs.Batches.{Batch}
use Rattle.entry_book.specs.History.{verdict, refuses, books_from, first_books}
use Rattle.version_book.specs.CommittedRows.{VersionState, book_of}
use Rattle.version_book.specs.History.{any_hits, version_with}
use Rattle.version_book.specs.Marks.{Agree}
use Rattle.batch_work.specs.Windows.{Window, WindowRepresents, pushed}
use Rattle.batch_work.specs.Working.{Base, Work, HasReplies, HasWrites, footprint_there}
use Rattle.commit_head.specs.declared.commit.Commit.{Commit}
use Rattle.commit_head.specs.declared.commit.Commit.TheVariants.{Conflict, Full, Committed, NoMemory}
use Rattle.commit_head.specs.declared.item.Item.{Item}
use Rattle.commit_head.specs.Journals.{Joins, Leads, Agrees, IsSuffix, batches_of, first_version}

-- A head as contracts see it: the window on which works begin, the retained items of the journal, and the number of items for
-- which it has room.
pub record Head : Type 0 where
  pub window : Window
  pub kept : List Item
  pub room : ℕ

-- the newest version of a head
abbrev pub newest_of : Head → VersionState
newest_of h = h.window.newest

-- the number of committed batches
abbrev pub head_place : Head → ℕ
head_place h = h.window.newest.number

-- These are all items of the head's journal, from the first books on. They lead to the newest version, the retained items are
-- the last of them, and the window represents the list of the first books and all of theirs.
pub record IsJournal (first : List Book) (items : List Item) (h : Head) : Type 0 where
  pub leads : Leads (first_version h.window.newest.domain first) items h.window.newest
  pub ending : IsSuffix items h.kept
  pub shown : WindowRepresents h.window (books_from first (batches_of items))

-- some items are the head's journal, which begins with the empty book
abbrev pub HasJournal : Head → Type 0
HasJournal h = (items : List Item) × IsJournal first_books items h

-- the item of commit n, if it is retained
abbrev pub item_at : ℕ → Head → Option Item
item_at n h = if nat_lt (head_place h) (n + length h.kept) then slice_get h.kept (n + length h.kept - (head_place h + 1)) else None

-- the last 64 items, or all if there are fewer
abbrev pub last_items : List Item → List Item
last_items items = drop (length items - 64) items

-- nothing has changed but the room, which hasn't shrunk
pub record IsUnchangedHead (old new : Head) : Type 0 where
  pub window : new.window ≡ old.window
  pub kept : new.kept ≡ old.kept
  pub room : old.room ≤ new.room

-- ---- a prepared commit

-- The item of a commit that has passed its checks, and the version after its batch.
pub record Prepared : Type 0 where
  pub item : Item
  pub version : VersionState

-- A prepared commit fits a version: its item joins the version, and its version is the one after the item's batch.
pub record IsPreparedFor (newest : VersionState) (p : Prepared) : Type 0 where
  pub joins : Joins p.item newest
  pub version : p.version ≡ version_with p.item.batch newest

-- A prepared commit fits the head's newest version, and the head has room for the item.
pub record Fits (h : Head) (p : Prepared) : Type 0 where
  pub goes : IsPreparedFor (newest_of h) p
  pub room : 0 < h.room

-- The item is that of this seat, call and work: it has the work's batch, replies and writes.
pub record IsItemOf (seat call : ℕ) (w : Work) (item : Item) : Type 0 where
  pub seat_is : item.seat ≡ seat
  pub call_is : item.call ≡ call
  pub batch_is : item.batch ≡ w.batch
  pub replies : HasReplies w item.replies
  pub changes : HasWrites w item.changes

-- The item is appended to the retained ones, and the version after its batch is appended to the window.
pub record IsAppended (old : Head) (item : Item) (new : Head) : Type 0 where
  pub window : new.window ≡ pushed (version_with item.batch (newest_of old)) old.window
  pub kept : new.kept ≡ old.kept ++ item ∷ []

-- ---- what a commit requires of a work, and its outcome

-- The work began on the newest version or an earlier one of its history: some items lead from there to the newest version and
-- agree with the retained ones.
abbrev pub BeganBefore : Option Base → VersionState → List Item → Type 0
BeganBefore None newest kept = ⊥
BeganBefore (Some base) newest kept = (items : List Item) × Leads base.newest items newest × Agrees items kept

-- Consider any items that agree with the retained ones and lead from the version on which the batch began to the newest one.
-- Among them is a batch that hits a mark of the batch's footprint.
abbrev pub IsDueOnVersions : Option Base → Batch → VersionState → List Item → Type 0
IsDueOnVersions None batch newest kept = ⊥
IsDueOnVersions (Some base) batch newest kept = (items : List Item) → Leads base.newest items newest → Agrees items kept → list_any (λ m. any_hits m base.newest (batches_of items)) (footprint_there batch base) ≡ true

-- At each mark of the batch's footprint on its base, this book reads the same as the book on which the work began.
abbrev pub ReadsAreUnchanged : Option Base → Batch → Book → Type 0
ReadsAreUnchanged None batch now = ⊥
ReadsAreUnchanged (Some base) batch now = AllByRecursion (Agree (book_of base.newest.rows) now) (footprint_there batch base)

-- why a ready work isn't committed on this version, with these retained items; running out of memory is always allowed
abbrev pub IsRefusal : VersionState → List Item → Work → Commit → Type 0
IsRefusal newest kept w (Conflict n) = (n ≡ newest.number) × IsDueOnVersions w.base w.batch newest kept
IsRefusal newest kept w (Full limit n) = (n ≡ newest.number) × (verdict w.batch newest.number (Some (book_of newest.rows)) ≡ refuses (TooMuch limit))
IsRefusal newest kept w (Committed n) = ⊥
IsRefusal newest kept w NoMemory = ⊤

-- a work that began on `base` may have begun on this head or an earlier state of it
abbrev pub BeganOn : Option Base → Head → Type 0
BeganOn base h = BeganBefore base (newest_of h) h.kept

-- why a ready work isn't committed by this head
abbrev pub IsRefused : Head → Work → Commit → Type 0
IsRefused h w c = IsRefusal (newest_of h) h.kept w c

-- The batch is committed: what it read is unchanged on the newest version, and its item joins that version and is appended.
pub record IsCommitted (old : Head) (seat call : ℕ) (w : Work) (n : ℕ) (new : Head) : Type 0 where
  pub item : Item
  pub of_work : IsItemOf seat call w item
  pub validated : ReadsAreUnchanged w.base w.batch (book_of (newest_of old).rows)
  pub joins : Joins item (newest_of old)
  pub number : n ≡ head_place old + 1
  pub appended : IsAppended old item new

-- a commit of a work for this seat and call: its outcome, and the head after it
abbrev pub IsCommit : Head → ℕ → ℕ → Work → Commit → Head → Type 0
IsCommit old seat call w (Conflict n) new = IsUnchangedHead old new × IsRefused old w (Conflict n)
IsCommit old seat call w (Full limit n) new = IsUnchangedHead old new × IsRefused old w (Full limit n)
IsCommit old seat call w (Committed n) new = IsCommitted old seat call w n new
IsCommit old seat call w NoMemory new = IsUnchangedHead old new
