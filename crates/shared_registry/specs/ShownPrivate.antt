-- The invariants of the published state and of the views of it. For this crate's own contracts.
use Rattle.std.specs.Prelude.{◌≡◌, ℕ, List, ◌<◌, length, slice_index}
use mathlib.Core.Option.{some}
use mathlib.Core.List.{IsPrefix}
use lib.ListN.{get_elem?}
use Rattle.logbook.specs.Pages.{Book as WordBook}
use Rattle.entry_book.specs.Rows.{Bytes}
use Rattle.entry_book.specs.Book.{Book}
use Rattle.entry_book.specs.History.{IsFirst}
use Rattle.batch_work.specs.Windows.{Window}
use Rattle.commit_head.specs.declared.item.Item.{Item}
use Rattle.commit_head.specs.Heads.{Head, IsJournal}
use Rattle.commit_head.specs.Journals.{EachCallOnce}
use Rattle.shared_registry.specs.SeatCalls.{calls_of}
use Rattle.shared_registry.specs.Shown.{Shown}

-- There are 32 counts, each the number of the seat's calls in the journal.
pub record IsCounted (counts : List ℕ) (journal : List Item) : Type 0 where
  pub wide : length counts ≡ 32
  pub each : (s : ℕ) → s < 32 → slice_index counts s ≡ length (calls_of s journal)

-- a head that has this window and stores all these items
abbrev pub whole_head : Window → List Item → Head
whole_head window items = record { window = window; kept = items; room = 0 }

-- The window is that of a head of this trust domain. Its history begins with the first books, and its whole journal is these
-- items. No two items have the same seat and call.
pub record ShowsJournal (first : List Book) (domain : Bytes) (items : List Item) (window : Window) : Type 0 where
  pub is_first : IsFirst domain first
  pub domain_is : window.newest.domain ≡ domain
  pub journal : IsJournal first items (whole_head window items)
  pub once : EachCallOnce items

-- so it is with a history that begins with some first books
abbrev pub ShowsSome : List Item → Window → Type 0
ShowsSome items window = (first : List Book) × ShowsJournal first window.newest.domain items window

-- it is of this history, and its window shows its journal
pub record IsOf (history : WordBook) (first : List Book) (domain : Bytes) (shown : Shown) : Type 0 where
  pub history_is : shown.history ≡ history
  pub shows : ShowsJournal first domain shown.journal shown.window

-- The published value is of this history, first books and trust domain. Its journal begins with what each pass of a reader or of the writer
-- has seen. No invariant of a seat uses what its pass has seen: the lists of a seat are tokens of the history.
abbrev pub RuleInvariant : WordBook → List Book → Bytes → Shown → List (List Item) → Type 0
RuleInvariant history first domain x views = IsOf history first domain x × ((k : ℕ) (v : List Item) → get_elem? views k ≡ some v → IsPrefix v x.journal)

-- after the step, the pass has seen the published journal, which begins with what it had seen and is of this history, first books
-- and trust domain
abbrev pub Saw : WordBook → List Book → Bytes → List Item → Shown → List Item → Type 0
Saw history first domain v y w = IsOf history first domain y × IsPrefix v y.journal × (w ≡ y.journal)
