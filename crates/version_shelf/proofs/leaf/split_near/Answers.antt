use Rattle.version_shelf.proofs.Split.{point_is, front_is, back_is}
use Rattle.version_shelf.proofs.leaf.split_near.Goals as goal

-- the rows are split at the index of the bound

pub returns-clause-below : goal.returns-clause-below
returns-clause-below g c = rw c.split_at.ensures.front (front_is g.met.K.Ord.total _ c.requires.order _ _ (point_is g.met.K.Ord.total _ c.requires.order _ _ c.position_near.ensures.position))

pub returns-clause-others : goal.returns-clause-others
returns-clause-others g c = rw c.split_at.ensures.back (back_is g.met.K.Ord.total _ c.requires.order _ _ (point_is g.met.K.Ord.total _ c.requires.order _ _ c.position_near.ensures.position))
