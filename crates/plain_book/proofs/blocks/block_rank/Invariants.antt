use Rattle.std.proofs.Common.{◌≡◌, ◌-◌, ◌<◌, ◌≤◌, true, false, length}
use Rattle.std.specs.List.{HoldsAt}
use Rattle.plain_book.specs.Blocks.{begins_behind}
use Rattle.plain_book.proofs.blocks.block_rank.Given as goal

-- the index is between from and until
abbrev pub invariant-loop-from : goal.invariant-loop-from
invariant-loop-from g l = record {
  inside : (l.from ≤ l.until) × (l.until ≤ length l.blocks);
  before : 0 < l.from → HoldsAt (λ block. begins_behind g.T.BookRow.key l.key block ≡ false) l.blocks (l.from - 1);
  behind : l.until < length l.blocks → HoldsAt (λ block. begins_behind g.T.BookRow.key l.key block ≡ true) l.blocks l.until;
}

abbrev pub decreases-loop-from : goal.decreases-loop-from
decreases-loop-from g l = l.until - l.from
