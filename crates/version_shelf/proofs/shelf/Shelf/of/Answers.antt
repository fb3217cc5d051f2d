use Rattle.version_shelf.proofs.Shelves.{new_shelf}
use Rattle.version_shelf.proofs.shelf.Shelf.of.Goals as goal

pub invariant_of-result : goal.invariant_of-result
invariant_of-result g c = rw c.in_ok-of.ensures (new_shelf g.K.Ord.cmp c.args.inners.items c.args.len c.requires.order c.requires.rows c.requires.most c.requires.leaves c.requires.inners)
