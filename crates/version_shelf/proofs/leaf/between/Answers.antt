use Rattle.std.proofs.Common.{arith}
use Rattle.std.specs.Ordering.{is_ge}
use Rattle.version_shelf.proofs.Split.{between_is, length_filter}
use Rattle.version_shelf.proofs.Above.{in_order_filter}
use Rattle.version_shelf.proofs.leaf.between.Goals as goal

pub split_near-requires-clause-order : goal.split_near-requires-clause-order
split_near-requires-clause-order g c = rw c.split.ensures.others (in_order_filter g.K.Ord.cmp _ _ c.requires.order)

pub returns-clause-rows : goal.returns-clause-rows
returns-clause-rows g c = rw (c.split_near.ensures.below, c.split.ensures.others) (between_is g.K.Ord.cmp _ _ _)

pub split_near-requires-clause-size : goal.split_near-requires-clause-size
split_near-requires-clause-size g c = rw c.split.ensures.others (omega (arith, length_filter (λ row. is_ge (g.K.Ord.cmp row.0 (g.L.Bound.position c.args.lo.now))) c.args.rows.now, c.requires.size))
