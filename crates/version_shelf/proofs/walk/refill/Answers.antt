use Rattle.version_shelf.proofs.Walks.{next_leaf}
use Rattle.version_shelf.proofs.walk.refill.Goals as goal

pub returns-in-Some-clause-rows : goal.returns-in-Some-clause-rows
returns-in-Some-clause-rows g c =
    let old = c.args.walk.now in
    let new = c.refill_leaves.new.walk in
    next_leaf old.rest.now old.leaves.now old.inners.now old.last_leaves.now old.last.now new.leaves.now new.inners.now new.last_leaves.now new.last.now c.in-Some.leaf.now c.parts-walk.result.now c.in-Some.leaves.now c.requires.none c.refill_leaves.ensures.last c.refill_leaves.ensures.leaves c.in-Some.ensures.cases.0 c.parts-walk.ensures
