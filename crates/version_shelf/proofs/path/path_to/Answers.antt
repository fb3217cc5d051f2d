use Rattle.std.proofs.Common.{length, ap, ◌∙◌, length-append, arith}
use Rattle.version_shelf.specs.Shelf.{rows_below, rows_above}
use Rattle.version_shelf.proofs.Around.{are_leaves_at}
use Rattle.version_shelf.proofs.Changed.{length_without, one_at_most}
use Rattle.version_shelf.proofs.Paths.{path_order, path_below, path_above, path_value}
use Rattle.version_shelf.proofs.path.path_to.Goals as goal

pub cut_at-leaves-requires-clause-nodes : goal.cut_at-leaves-requires-clause-nodes
cut_at-leaves-requires-clause-nodes g c = are_leaves_at g.met.K.Ord.total c.args.key.now _ _ _ _ c.cut_at-inners.ensures.cuts c.cut_at-inners.ensures.key c.requires.order c.requires.leaves

pub part-rows-requires-clause-order : goal.part-rows-requires-clause-order
part-rows-requires-clause-order g c = path_order g.met.K.Ord.total c.args.key.now _ _ _ _ c.cut_at-inners.ensures.cuts c.cut_at-inners.ensures.key c.requires.order c.requires.leaves _ _ _ c.cut_at-leaves.ensures.cuts c.cut_at-leaves.ensures.key

pub returns-clause-size : goal.returns-clause-size
returns-clause-size g c =
    let order = path_order g.met.K.Ord.total c.args.key.now _ _ _ _ c.cut_at-inners.ensures.cuts c.cut_at-inners.ensures.key c.requires.order c.requires.leaves _ _ _ c.cut_at-leaves.ensures.cuts c.cut_at-leaves.ensures.key in
    omega (arith, length_without g.met.K.Ord.total c.args.key.now c.cut_at-leaves.result.at.now order, length-append (rows_below g.K.Ord.cmp c.cut_at-leaves.result.at.now c.args.key.now) (rows_above g.K.Ord.cmp c.cut_at-leaves.result.at.now c.args.key.now), ap length c.part-rows.ensures.below, ap length c.part-rows.ensures.above, one_at_most g.K.Ord.cmp c.cut_at-leaves.result.at.now c.args.key.now)

pub returns-clause-least : goal.returns-clause-least
returns-clause-least g c =
    let order = path_order g.met.K.Ord.total c.args.key.now _ _ _ _ c.cut_at-inners.ensures.cuts c.cut_at-inners.ensures.key c.requires.order c.requires.leaves _ _ _ c.cut_at-leaves.ensures.cuts c.cut_at-leaves.ensures.key in
    omega (arith, length_without g.met.K.Ord.total c.args.key.now c.cut_at-leaves.result.at.now order, length-append (rows_below g.K.Ord.cmp c.cut_at-leaves.result.at.now c.args.key.now) (rows_above g.K.Ord.cmp c.cut_at-leaves.result.at.now c.args.key.now), ap length c.part-rows.ensures.below, ap length c.part-rows.ensures.above, one_at_most g.K.Ord.cmp c.cut_at-leaves.result.at.now c.args.key.now)

pub returns-clause-below : goal.returns-clause-below
returns-clause-below g c = path_below g.met.K.Ord.total c.args.key.now _ _ _ _ c.cut_at-inners.ensures.cuts c.cut_at-inners.ensures.key c.requires.order c.requires.leaves _ _ _ c.cut_at-leaves.ensures.cuts c.cut_at-leaves.ensures.key _ c.part-rows.ensures.below

pub returns-clause-above : goal.returns-clause-above
returns-clause-above g c = path_above g.met.K.Ord.total c.args.key.now _ _ _ _ c.cut_at-inners.ensures.cuts c.cut_at-inners.ensures.key c.requires.order c.requires.leaves _ _ _ c.cut_at-leaves.ensures.cuts c.cut_at-leaves.ensures.key _ c.part-rows.ensures.above

pub returns-clause-value : goal.returns-clause-value
returns-clause-value g c = c.part-rows.ensures.value ∙ path_value g.met.K.Ord.total c.args.key.now _ _ _ _ c.cut_at-inners.ensures.cuts c.cut_at-inners.ensures.key c.requires.order c.requires.leaves _ _ _ c.cut_at-leaves.ensures.cuts c.cut_at-leaves.ensures.key
