use Rattle.std.proofs.Common.{◌≡◌, ◌&&◌, ◌++◌, ◌≤◌, drop, filter, length}
use Rattle.entry_book.specs.Pages.{comes_after, passes}
use Rattle.plain_book.specs.Blocks.{joined}
use Rattle.plain_book.proofs.listing.page_among.Given as goal

abbrev pub invariant-loop-block : goal.invariant-loop-block
invariant-loop-block l = (l.listed.items ++ filter (λ entry. passes l.query.filter entry && comes_after l.query.from entry) (joined (drop l.block-index l.blocks)) ≡ filter (λ entry. passes l.query.filter entry && comes_after l.query.from entry) (joined l.blocks)) × (length l.listed.items ≤ l.query.size)
