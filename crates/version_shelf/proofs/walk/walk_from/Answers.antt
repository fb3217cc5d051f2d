use Rattle.version_shelf.proofs.Around.{are_leaves_at, leaf_order, leaves_order}
use Rattle.version_shelf.proofs.Walks.{above_full, inners_start_at, starts_at}
use Rattle.version_shelf.proofs.walk.walk_from.Goals as goal

pub cut_at-leaf-requires-clause-nodes : goal.cut_at-leaf-requires-clause-nodes
cut_at-leaf-requires-clause-nodes g c = are_leaves_at g.met.K.Ord.total c.args.lo.now _ _ _ _ c.cut_at-middle.ensures.cuts c.cut_at-middle.ensures.key c.requires.order c.requires.leaves

pub split-requires-clause-order : goal.split-requires-clause-order
split-requires-clause-order g c =
    let o = g.met.K.Ord.total in
    leaf_order o c.args.lo.now _ _ _ _ c.cut_at-leaf.ensures.cuts c.cut_at-leaf.ensures.key
    (leaves_order o c.args.lo.now _ _ _ _ c.cut_at-middle.ensures.cuts c.cut_at-middle.ensures.key c.requires.order c.requires.leaves)

pub returns-clause-nodes : goal.returns-clause-nodes
returns-clause-nodes g c = (
  c.cut_at-leaf.ensures.cuts.are_above,
  c.cut_at-middle.ensures.cuts.are_above,
  above_full g.met.K.Ord.total c.args.lo.now _ _ _ _ c.cut_at-middle.ensures.cuts c.cut_at-middle.ensures.key c.requires.order c.requires.leaves,
  tt,
)

pub returns-clause-rows : goal.returns-clause-rows
returns-clause-rows g c =
    let o = g.met.K.Ord.total in
    let starts = leaves_order o c.args.lo.now _ _ _ _ c.cut_at-middle.ensures.cuts c.cut_at-middle.ensures.key c.requires.order c.requires.leaves in
    inners_start_at o c.args.lo.now _ _ _ _ c.cut_at-middle.ensures.cuts c.cut_at-middle.ensures.key c.requires.order c.requires.leaves c.split.result.1.now c.cut_at-leaf.result.above.now
    (starts_at o c.args.lo.now _ _ _ _ c.cut_at-leaf.ensures.cuts c.cut_at-leaf.ensures.key starts _ c.split.ensures.others)
