use Rattle.std.proofs.Common.{◌+◌, ◌++◌, drop, sym, ap, ◌∙◌, append_assoc}
use Rattle.plain_book.specs.Blocks.{joined}
use Rattle.plain_book.proofs.Cuts.{joined_more}
use Rattle.plain_book.proofs.rows.all_of.Goals as goal

pub loop-block-preserved : goal.loop-block-preserved
loop-block-preserved g c =
    let block = c.block-item.result in
    let rest = joined (drop (c.loop-block.block-index + 1) c.args.blocks.now) in
    let pushed = c.in_ok-push_all.ensures ∙ ap (λ l. c.loop-block.all.items ++ l) (c.as_slice.ensures ∙ c.get.ensures) in
    ap (λ l. l ++ rest) pushed
    ∙ (append_assoc c.loop-block.all.items block rest
    ∙ (ap (λ l. c.loop-block.all.items ++ l) (sym (joined_more c.args.blocks.now c.loop-block.block-index block c.loop-block-test.true c.block-item.is)) ∙ c.loop-block.invariant))
