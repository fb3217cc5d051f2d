use Rattle.version_shelf.proofs.Around.{leaf_order}
use Rattle.version_shelf.proofs.Walks.{rest_order, in_one_leaf, in_two_leaves}
use Rattle.version_shelf.proofs.walk.walk_in_inner.Goals as goal

-- if both bounds belong to one leaf

pub between-requires-clause-order : goal.between-requires-clause-order
between-requires-clause-order g c =
    let o = g.met.K.Ord.total in
    leaf_order o (g.H.Bound.position c.args.hi.now) _ _ _ _ c.cut_near-end.ensures.cuts c.cut_near-end.ensures.key (rest_order o (g.L.Bound.position c.args.lo.now) (g.H.Bound.position c.args.hi.now) _ _ _ _ c.cut_at-start.ensures.cuts c.cut_at-start.ensures.key c.requires.order _ c.split_at.ensures.back)

pub returns-in-None-clause-rows : goal.returns-in-None-clause-rows
returns-in-None-clause-rows g c = in_one_leaf g.met.K.Ord.total (g.L.Bound.position c.args.lo.now) (g.H.Bound.position c.args.hi.now) _ _ _ _ c.cut_at-start.ensures.cuts c.cut_at-start.ensures.key c.requires.order _ c.split_at.ensures.back _ _ _ c.cut_near-end.ensures.cuts c.cut_near-end.ensures.key c.in-None.ensures.cases _ c.between.ensures.rows

-- if they belong to two

pub split-requires-clause-order : goal.split-requires-clause-order
split-requires-clause-order g c = leaf_order g.met.K.Ord.total (g.L.Bound.position c.args.lo.now) _ _ _ _ c.cut_at-start.ensures.cuts c.cut_at-start.ensures.key c.requires.order

pub split-requires-in-Some-clause-order : goal.split-requires-in-Some-clause-order
split-requires-in-Some-clause-order g c =
    let o = g.met.K.Ord.total in
    leaf_order o (g.H.Bound.position c.args.hi.now) _ _ _ _ c.cut_near-end.ensures.cuts c.cut_near-end.ensures.key (rest_order o (g.L.Bound.position c.args.lo.now) (g.H.Bound.position c.args.hi.now) _ _ _ _ c.cut_at-start.ensures.cuts c.cut_at-start.ensures.key c.requires.order _ c.split_at.ensures.back)

pub returns-in-Some-clause-rows : goal.returns-in-Some-clause-rows
returns-in-Some-clause-rows g c = in_two_leaves g.met.K.Ord.total (g.L.Bound.position c.args.lo.now) (g.H.Bound.position c.args.hi.now) _ _ _ _ c.cut_at-start.ensures.cuts c.cut_at-start.ensures.key c.requires.order _ c.split_at.ensures.back _ _ _ c.cut_near-end.ensures.cuts c.cut_near-end.ensures.key _ _ c.in-Some.ensures.cases.0 _ _ c.split.ensures.others c.split-in-Some.ensures.below
