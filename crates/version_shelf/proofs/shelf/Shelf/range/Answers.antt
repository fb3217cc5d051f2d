use Rattle.std.proofs.Common.{◌&&◌, ap, ◌∙◌, arith}
use Rattle.std.specs.Ordering.{is_ge, is_lt}
use Rattle.version_shelf.specs.Shelf.{rows_between}
use Rattle.version_shelf.proofs.Above.{in_order_filter}
use Rattle.version_shelf.proofs.Split.{length_filter}
use Rattle.version_shelf.proofs.shelf.Shelf.range.Goals as goal

pub returns-clause-rows : goal.returns-clause-rows
returns-clause-rows g c = c.of.ensures ∙ c.walk_between.ensures.rows ∙ ap (λ l. rows_between g.K.Ord.cmp l (g.L.Bound.position c.args.lo.now) (g.H.Bound.position c.args.hi.now)) c.inners.ensures.rows

pub returns-clause-order : goal.returns-clause-order
returns-clause-order g c = rw (c.of.ensures, c.walk_between.ensures.rows, c.inners.ensures.rows) (in_order_filter g.K.Ord.cmp _ _ c.inners.ensures.order)

pub returns-clause-most : goal.returns-clause-most
returns-clause-most g c =
    let fewer = length_filter (λ row. is_ge (g.K.Ord.cmp row.0 (g.L.Bound.position c.args.lo.now)) && is_lt (g.K.Ord.cmp row.0 (g.H.Bound.position c.args.hi.now))) c.args.self.now in
    rw (c.of.ensures, c.walk_between.ensures.rows, c.inners.ensures.rows) (omega (arith, fewer, c.inners.ensures.most))
