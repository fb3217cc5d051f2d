use Rattle.std.proofs.Common.{◌≡◌, drop}
use Rattle.entry_book.specs.Ops.{lacking}
use Rattle.plain_book.proofs.book.Book.lacking.Given as goal

abbrev pub invariant-loop-domain : goal.invariant-loop-domain
invariant-loop-domain l = lacking (drop l.domain-index l.domain-items) l.self ≡ lacking l.domains l.self
