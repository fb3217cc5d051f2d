use Rattle.std.proofs.Common.{◌≡◌, ◌-◌, ◌++◌, length, sym, ap, subst, ◌∙◌, arith}
use Rattle.plain_book.specs.Blocks.{IsCut}
use Rattle.plain_book.proofs.Cuts.{cut_none, cut_some}
use Rattle.plain_book.proofs.blocks.cut_at.Goals as goal

pub returns-in-Some : goal.returns-in-Some
returns-in-Some g c =
    let key = g.T.BookRow.key in
    let before = c.split_at.result.0.now in
    let rank : length before ≡ c.block_rank.result - 1 = omega arith in
    subst (λ rows. IsCut key c.args.key.now c.args.blocks.now before rows c.in-Some.behind.now) (sym (c.as_slice.ensures ∙ c.get.ensures))
    (cut_some key c.args.key.now c.args.blocks.now before c.in-Some.block.now c.in-Some.behind.now c.block_rank.result c.block_rank.ensures
    (c.split_at.ensures.by_index.0 ∙ ap (λ l. before ++ l) c.in-Some.ensures.cases.0) rank c.requires.order c.requires.filled)

pub returns-in-None : goal.returns-in-None
returns-in-None g c =
    let rank : length c.split_at.result.0.now ≡ c.block_rank.result - 1 = omega arith in
    cut_none g.T.BookRow.key c.args.key.now c.args.blocks.now c.split_at.result.0.now c.split_at.result.1.now c.block_rank.result c.block_rank.ensures c.split_at.ensures.by_index.0 rank c.in-None.ensures.cases
