-- A work that has begun on a published state. For this crate's own contracts.
use Rattle.std.specs.Prelude.{◌≡◌, List, Some}
use Rattle.entry_book.specs.Batches.{Batch, IsMadeFor}
use Rattle.batch_work.specs.declared.status.Status.TheVariants.{Running}
use Rattle.batch_work.specs.Working.{Work, base_in, status_of}
use Rattle.entry_book.specs.Book.{Book}
use Rattle.entry_book.specs.Rows.{Bytes}
use Rattle.commit_head.specs.declared.item.Item.{Item}
use Rattle.shared_registry.specs.Shown.{Shown}
use Rattle.shared_registry.specs.ShownPrivate.{ShowsJournal}

-- The work is of the batch, and began on the window.
pub record IsBegun (batch : Batch) (snapshot : Shown) (w : Work) : Type 0 where
  pub batch_is : w.batch ≡ batch
  pub base_is : w.base ≡ Some (base_in batch snapshot.window)

-- and it has no read left to make
pub record IsAtEnd (batch : Batch) (snapshot : Shown) (w : Work) : Type 0 where
  pub begun : IsBegun batch snapshot w
  pub over : status_of w ≡ Running → ⊥

-- The work began on a window of the last books of this journal, and has no read left to make. Its batch was made for the trust
-- domain.
pub record IsRead (first : List Book) (domain : Bytes) (items : List Item) (batch : Batch) (w : Work) : Type 0 where
  pub snapshot : Shown
  pub made : IsMadeFor domain batch
  pub shows : ShowsJournal first domain items snapshot.window
  pub at_end : IsAtEnd batch snapshot w
