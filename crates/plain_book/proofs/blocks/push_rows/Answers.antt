use Rattle.plain_book.proofs.Cuts.{one_more, two_blocks, two_more}
use Rattle.plain_book.proofs.blocks.push_rows.Goals as goal

pub returns-then-len-le-MOST-clause-rows : goal.returns-then-len-le-MOST-clause-rows
returns-then-len-le-MOST-clause-rows g c = one_more c.args.out.now.items c.push_block.new.out.items c.args.rows.items c.in_ok-push_block.ensures

pub returns-clause-rows : goal.returns-clause-rows
returns-clause-rows g c =
    two_more 128 c.args.out.now.items c.push_block-2.new.out.items c.push_block-3.new.out.items c.split_off.new.self.items c.in_ok-rest.rest.items c.args.rows.items
    c.in_ok-rest.ensures.items c.in_ok-rest.ensures.tail c.in_ok-push_block-2.ensures c.in_ok-push_block-3.ensures

pub returns-clause-halves : goal.returns-clause-halves
returns-clause-halves g c = λ long.
    two_blocks 128 c.args.out.now.items c.push_block-2.new.out.items c.push_block-3.new.out.items c.split_off.new.self.items c.in_ok-rest.rest.items c.args.rows.items
    c.in_ok-rest.ensures.items c.in_ok-rest.ensures.tail c.in_ok-push_block-2.ensures c.in_ok-push_block-3.ensures
