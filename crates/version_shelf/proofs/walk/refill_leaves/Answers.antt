use Rattle.std.proofs.Common.{length, sym}
use Rattle.std.proofs.lemmas.Bool.{eqb-true}
use Rattle.version_shelf.proofs.Walks.{next_inner, full_inner}
use Rattle.version_shelf.proofs.walk.refill_leaves.Goals as goal

pub returns-in-Some-clause-nodes : goal.returns-in-Some-clause-nodes
returns-in-Some-clause-nodes g c = full_inner _ _ _ _ _ _ c.in-Some.ensures.cases.0 c.parts-walk.ensures c.requires.nodes

pub returns-in-Some-clause-leaves : goal.returns-in-Some-clause-leaves
returns-in-Some-clause-leaves g c = next_inner _ _ _ _ _ _ c.in-Some.ensures.cases.0 c.parts-walk.ensures (eqb-true (length c.args.walk.now.leaves.now) 0 (sym c.if-not-is_empty.ensures))
