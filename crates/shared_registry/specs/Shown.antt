-- The model of the published value in contracts.
use Rattle.std.specs.Prelude.{List}
use Rattle.logbook.specs.Pages.{Book as WordBook}
use Rattle.batch_work.specs.Windows.{Window}
use Rattle.commit_head.specs.declared.item.Item.{Item}

-- A history, a journal of it, and a window.
pub record Shown : Type 0 where
  pub history : WordBook
  pub journal : List Item
  pub window : Window
