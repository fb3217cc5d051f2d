use Rattle.std.proofs.Common.{◌≡◌, drop, map}
use Rattle.entry_book.specs.Writes.{after}
use Rattle.entry_book.specs.Ops.{freed}
use Rattle.plain_book.proofs.book.Book.with_freed.Given as goal

abbrev pub invariant-loop-entry : goal.invariant-loop-entry
invariant-loop-entry l = after (map (freed l.domain) (drop l.entry-index l.users)) l.changed ≡ after (map (freed l.domain) l.users) l.self
