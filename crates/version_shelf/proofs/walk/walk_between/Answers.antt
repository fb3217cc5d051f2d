use Rattle.std.proofs.Common.{◌∙◌}
use Rattle.version_shelf.proofs.Around.{are_leaves_at, leaf_order, leaves_order}
use Rattle.version_shelf.proofs.Walks.{rest_leaves, rest_rows_order, in_one_inner, in_two_inners, between_full, starts_at, ends_there}
use Rattle.version_shelf.proofs.walk.walk_between.Goals as goal

-- if both bounds belong to one inner node

pub walk_in_inner-requires-clause-order : goal.walk_in_inner-requires-clause-order
walk_in_inner-requires-clause-order g c =
    let o = g.met.K.Ord.total in
    let order = rest_rows_order o (g.L.Bound.position c.args.lo.now) (g.H.Bound.position c.args.hi.now) _ _ _ _ c.cut_at-start.ensures.cuts c.cut_at-start.ensures.key c.requires.order c.requires.leaves _ c.split_at.ensures.back in
    let leaves = rest_leaves o (g.L.Bound.position c.args.lo.now) (g.H.Bound.position c.args.hi.now) _ _ _ _ c.cut_at-start.ensures.cuts c.cut_at-start.ensures.key c.requires.order c.requires.leaves _ c.split_at.ensures.back in
    leaves_order o (g.H.Bound.position c.args.hi.now) _ _ _ _ c.cut_near-end.ensures.cuts c.cut_near-end.ensures.key order leaves

pub walk_in_inner-requires-clause-leaves : goal.walk_in_inner-requires-clause-leaves
walk_in_inner-requires-clause-leaves g c =
    let o = g.met.K.Ord.total in
    let order = rest_rows_order o (g.L.Bound.position c.args.lo.now) (g.H.Bound.position c.args.hi.now) _ _ _ _ c.cut_at-start.ensures.cuts c.cut_at-start.ensures.key c.requires.order c.requires.leaves _ c.split_at.ensures.back in
    let leaves = rest_leaves o (g.L.Bound.position c.args.lo.now) (g.H.Bound.position c.args.hi.now) _ _ _ _ c.cut_at-start.ensures.cuts c.cut_at-start.ensures.key c.requires.order c.requires.leaves _ c.split_at.ensures.back in
    are_leaves_at o (g.H.Bound.position c.args.hi.now) _ _ _ _ c.cut_near-end.ensures.cuts c.cut_near-end.ensures.key order leaves

pub returns-in-None-clause-rows : goal.returns-in-None-clause-rows
returns-in-None-clause-rows g c = c.walk_in_inner.ensures.rows ∙ in_one_inner g.met.K.Ord.total (g.L.Bound.position c.args.lo.now) (g.H.Bound.position c.args.hi.now) _ _ _ _ c.cut_at-start.ensures.cuts c.cut_at-start.ensures.key c.requires.order c.requires.leaves _ c.split_at.ensures.back _ _ _ c.cut_near-end.ensures.cuts c.cut_near-end.ensures.key c.in-None.ensures.cases

-- if they belong to two

pub cut_at-start-requires-in-Some-clause-nodes : goal.cut_at-start-requires-in-Some-clause-nodes
cut_at-start-requires-in-Some-clause-nodes g c = are_leaves_at g.met.K.Ord.total (g.L.Bound.position c.args.lo.now) _ _ _ _ c.cut_at-start.ensures.cuts c.cut_at-start.ensures.key c.requires.order c.requires.leaves

pub cut_at-end-requires-clause-nodes : goal.cut_at-end-requires-clause-nodes
cut_at-end-requires-clause-nodes g c =
    let o = g.met.K.Ord.total in
    let order = rest_rows_order o (g.L.Bound.position c.args.lo.now) (g.H.Bound.position c.args.hi.now) _ _ _ _ c.cut_at-start.ensures.cuts c.cut_at-start.ensures.key c.requires.order c.requires.leaves _ c.split_at.ensures.back in
    let leaves = rest_leaves o (g.L.Bound.position c.args.lo.now) (g.H.Bound.position c.args.hi.now) _ _ _ _ c.cut_at-start.ensures.cuts c.cut_at-start.ensures.key c.requires.order c.requires.leaves _ c.split_at.ensures.back in
    are_leaves_at o (g.H.Bound.position c.args.hi.now) _ _ _ _ c.cut_near-end.ensures.cuts c.cut_near-end.ensures.key order leaves

pub split-requires-clause-order : goal.split-requires-clause-order
split-requires-clause-order g c =
    let o = g.met.K.Ord.total in
    let starts = leaves_order o (g.L.Bound.position c.args.lo.now) _ _ _ _ c.cut_at-start.ensures.cuts c.cut_at-start.ensures.key c.requires.order c.requires.leaves in
    leaf_order o (g.L.Bound.position c.args.lo.now) _ _ _ _ c.cut_at-start-in-Some.ensures.cuts c.cut_at-start-in-Some.ensures.key starts

pub split-requires-in-Some-clause-order : goal.split-requires-in-Some-clause-order
split-requires-in-Some-clause-order g c =
    let o = g.met.K.Ord.total in
    let order = rest_rows_order o (g.L.Bound.position c.args.lo.now) (g.H.Bound.position c.args.hi.now) _ _ _ _ c.cut_at-start.ensures.cuts c.cut_at-start.ensures.key c.requires.order c.requires.leaves _ c.split_at.ensures.back in
    let leaves = rest_leaves o (g.L.Bound.position c.args.lo.now) (g.H.Bound.position c.args.hi.now) _ _ _ _ c.cut_at-start.ensures.cuts c.cut_at-start.ensures.key c.requires.order c.requires.leaves _ c.split_at.ensures.back in
    let ends = leaves_order o (g.H.Bound.position c.args.hi.now) _ _ _ _ c.cut_near-end.ensures.cuts c.cut_near-end.ensures.key order leaves in
    leaf_order o (g.H.Bound.position c.args.hi.now) _ _ _ _ c.cut_at-end.ensures.cuts c.cut_at-end.ensures.key ends

pub returns-in-Some-clause-nodes : goal.returns-in-Some-clause-nodes
returns-in-Some-clause-nodes g c =
    let full = between_full g.met.K.Ord.total (g.L.Bound.position c.args.lo.now) (g.H.Bound.position c.args.hi.now) _ _ _ _ c.cut_at-start.ensures.cuts c.cut_at-start.ensures.key c.requires.order c.requires.leaves _ c.split_at.ensures.back _ _ _ c.cut_near-end.ensures.cuts c.cut_near-end.ensures.key _ _ c.in-Some.ensures.cases.0 in
    (c.cut_at-start-in-Some.ensures.cuts.are_above, full.0, full.1, c.cut_at-end.ensures.cuts.are_below)

pub returns-in-Some-clause-rows : goal.returns-in-Some-clause-rows
returns-in-Some-clause-rows g c =
    let o = g.met.K.Ord.total in
    let order = rest_rows_order o (g.L.Bound.position c.args.lo.now) (g.H.Bound.position c.args.hi.now) _ _ _ _ c.cut_at-start.ensures.cuts c.cut_at-start.ensures.key c.requires.order c.requires.leaves _ c.split_at.ensures.back in
    let leaves = rest_leaves o (g.L.Bound.position c.args.lo.now) (g.H.Bound.position c.args.hi.now) _ _ _ _ c.cut_at-start.ensures.cuts c.cut_at-start.ensures.key c.requires.order c.requires.leaves _ c.split_at.ensures.back in
    let starts = leaves_order o (g.L.Bound.position c.args.lo.now) _ _ _ _ c.cut_at-start.ensures.cuts c.cut_at-start.ensures.key c.requires.order c.requires.leaves in
    let ends = leaves_order o (g.H.Bound.position c.args.hi.now) _ _ _ _ c.cut_near-end.ensures.cuts c.cut_near-end.ensures.key order leaves in
    in_two_inners o (g.L.Bound.position c.args.lo.now) (g.H.Bound.position c.args.hi.now) _ _ _ _ c.cut_at-start.ensures.cuts c.cut_at-start.ensures.key c.requires.order c.requires.leaves _ c.split_at.ensures.back _ _ _ c.cut_near-end.ensures.cuts c.cut_near-end.ensures.key _ _ c.in-Some.ensures.cases.0 c.split.result.1.now c.split-in-Some.result.0.now c.cut_at-start-in-Some.result.above.now c.cut_at-end.result.below.now (starts_at o (g.L.Bound.position c.args.lo.now) _ _ _ _ c.cut_at-start-in-Some.ensures.cuts c.cut_at-start-in-Some.ensures.key starts _ c.split.ensures.others) (ends_there o (g.H.Bound.position c.args.hi.now) _ _ _ _ c.cut_at-end.ensures.cuts c.cut_at-end.ensures.key ends _ c.split-in-Some.ensures.below)
