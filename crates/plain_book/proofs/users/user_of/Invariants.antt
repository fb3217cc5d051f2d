use Rattle.std.proofs.Common.{◌≡◌, drop}
use Rattle.std.specs.Prelude.{filter}
use Rattle.entry_book.specs.Order.{first}
use Rattle.entry_book.specs.Book.{names}
use Rattle.plain_book.proofs.users.user_of.Given as goal

abbrev pub invariant-loop-entry : goal.invariant-loop-entry
invariant-loop-entry l = first (filter (names l.domain) (drop l.entry-index l.entries)) ≡ first (filter (names l.domain) l.entries)
