use Rattle.std.proofs.Common.{◌≡◌, ◌++◌, drop}
use Rattle.plain_book.specs.Blocks.{joined}
use Rattle.plain_book.proofs.rows.all_of.Given as goal

abbrev pub invariant-loop-block : goal.invariant-loop-block
invariant-loop-block g l = l.all.items ++ joined (drop l.block-index l.blocks) ≡ joined l.blocks
