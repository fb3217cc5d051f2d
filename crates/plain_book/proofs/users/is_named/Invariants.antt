use Rattle.std.proofs.Common.{◌≡◌, drop}
use Rattle.std.specs.List.{list_any}
use Rattle.entry_book.specs.Book.{names}
use Rattle.plain_book.proofs.users.is_named.Given as goal

abbrev pub invariant-loop-entry : goal.invariant-loop-entry
invariant-loop-entry l = list_any (names l.domain) (drop l.entry-index l.entries) ≡ list_any (names l.domain) l.entries
