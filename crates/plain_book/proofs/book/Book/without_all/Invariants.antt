use Rattle.std.proofs.Common.{◌≡◌, drop, map}
use Rattle.entry_book.specs.Writes.{after}
use Rattle.entry_book.specs.Ops.{removed}
use Rattle.plain_book.proofs.book.Book.without_all.Given as goal

abbrev pub invariant-loop-entry : goal.invariant-loop-entry
invariant-loop-entry l = after (map removed (drop l.entry-index l.gone)) l.rest ≡ after (map removed l.gone) l.self
