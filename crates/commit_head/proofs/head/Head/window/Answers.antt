use Rattle.std.proofs.Common.{subst}
use Rattle.entry_book.specs.History.{first_books}
use Rattle.entry_book.proofs.Histories.{empty_is_first}
use Rattle.commit_head.proofs.Journals.{low}
use Rattle.commit_head.specs.Heads.{HasJournal}
use Rattle.commit_head.proofs.head.Head.window.Goals as goal

pub returns-clause-low : goal.returns-clause-low
returns-clause-low c = let j : HasJournal c.args.self.now = subst HasJournal c.self.view_is c.self.invariant in low first_books j.0 c.args.self.now (empty_is_first c.args.self.now.window.newest.domain) j.1
