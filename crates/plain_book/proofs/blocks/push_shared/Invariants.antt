use Rattle.std.proofs.Common.{◌≡◌, ◌++◌, drop}
use Rattle.plain_book.proofs.blocks.push_shared.Given as goal

abbrev pub invariant-loop-block : goal.invariant-loop-block
invariant-loop-block g l = l.out.items ++ drop l.block-index l.blocks ≡ l.fn.out.items ++ l.blocks
