use Rattle.std.proofs.Common.{◌≡◌, drop}
use Rattle.std.specs.Prelude.{filter}
use Rattle.entry_book.specs.Order.{first}
use Rattle.entry_book.specs.Book.{names}
use Rattle.plain_book.specs.Blocks.{joined}
use Rattle.plain_book.proofs.users.first_user.Given as goal

abbrev pub invariant-loop-block : goal.invariant-loop-block
invariant-loop-block l = first (filter (names l.domain) (joined (drop l.block-index l.blocks))) ≡ first (filter (names l.domain) (joined l.blocks))
