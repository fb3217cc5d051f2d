use Rattle.std.proofs.Common.{◌++◌, subst}
use Rattle.version_shelf.specs.Nodes.{AreNodes, flatten, least_rows}
use Rattle.version_shelf.proofs.Flat.{full_back, full_front}
use Rattle.version_shelf.proofs.Walks.{empty, full_leaves, later_full}
use Rattle.version_shelf.proofs.walk.walk_after.Goals as goal

pub returns-in-Some-clause-nodes : goal.returns-in-Some-clause-nodes
returns-in-Some-clause-nodes g c =
    let rest = c.in-Some.leaves.now in
    let inners = c.args.inners.now in
    let full = later_full least_rows c.in-Some.leaf.now (rest ++ flatten inners) (subst (λ l. AreNodes least_rows (l ++ flatten inners)) c.in-Some.ensures.cases.0 c.requires.leaves) in
    (full_front least_rows rest (flatten inners) full, c.requires.inners, full_back least_rows rest (flatten inners) full, tt)

pub returns-in-None-clause-nodes : goal.returns-in-None-clause-nodes
returns-in-None-clause-nodes g c =
    let inners = c.args.inners.now in
    (tt, c.requires.inners, full_leaves inners c.requires.inners (subst (λ l. AreNodes least_rows (l ++ flatten inners)) (empty _ c.in-None.ensures.cases) c.requires.leaves), tt)
