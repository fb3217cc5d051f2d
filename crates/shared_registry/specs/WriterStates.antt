-- The state under the lock. For this crate's own contracts.
use Rattle.std.specs.Prelude.{◌≡◌, ◌≤◌, List, length}
use Rattle.logbook.specs.Pages.{Book as WordBook}
use Rattle.entry_book.specs.Rows.{Bytes}
use Rattle.entry_book.specs.Book.{Book}
use Rattle.entry_book.specs.History.{IsFirst}
use Rattle.commit_head.specs.declared.item.Item.{Item}
use Rattle.commit_head.specs.Heads.{Head, IsJournal}
use Rattle.shared_registry.specs.Shown.{Shown}
use Rattle.shared_registry.specs.ShownPrivate.{IsOf}

-- The head's journal is this list, of which it stores at most 4,096 items. Its book is of the trust domain, and its history begins
-- with the first books.
pub record IsTied (first : List Book) (domain : Bytes) (journal : List Item) (h : Head) : Type 0 where
  pub is_first : IsFirst domain first
  pub journal_is : IsJournal first journal h
  pub domain_is : h.window.newest.domain ≡ domain
  pub few : length h.kept ≤ 4096

-- This journal is published, with this history, first books and trust domain.
pub record IsPublished (history : WordBook) (first : List Book) (domain : Bytes) (journal : List Item) (shown : Shown) : Type 0 where
  pub of_it : IsOf history first domain shown
  pub journal_is : shown.journal ≡ journal
