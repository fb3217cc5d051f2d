use Rattle.std.proofs.Common.{◌≡◌, ◌++◌, drop}
use Rattle.std.specs.Prelude.{filter}
use Rattle.entry_book.specs.Book.{expires_before}
use Rattle.plain_book.proofs.expired.expired_among.Given as goal

abbrev pub invariant-loop-entry : goal.invariant-loop-entry
invariant-loop-entry l = l.expired.items ++ filter (expires_before l.moment) (drop l.entry-index l.entries) ≡ filter (expires_before l.moment) l.entries
