use Rattle.std.proofs.Common.{◌≡◌, ◌++◌, drop}
use Rattle.std.specs.Prelude.{filter}
use Rattle.entry_book.specs.Book.{names}
use Rattle.plain_book.proofs.users.users_among.Given as goal

abbrev pub invariant-loop-entry : goal.invariant-loop-entry
invariant-loop-entry l = l.users.items ++ filter (names l.domain) (drop l.entry-index l.entries) ≡ filter (names l.domain) l.entries
