use Rattle.std.proofs.Common.{arith}
use Rattle.version_shelf.proofs.Paths.{leaves_changed, rows_changed, if_rows, if_leaves}
use Rattle.version_shelf.proofs.path.inners_with.Goals as goal

pub returns-clause-rows : goal.returns-clause-rows
returns-clause-rows g c = if_rows (λ v. v.items) _ _ (rows_changed c.args.path.now.inners.below.now c.args.path.now.inners.above.now c.args.path.now.leaves.below.now c.args.path.now.leaves.above.now c.in_ok-leaves.leaves.items c.args.rows.items c.in_ok-leaves.ensures.parts) c.rebuilt-2.result c.rebuilt-2.ensures.parts

pub returns-clause-leaves : goal.returns-clause-leaves
returns-clause-leaves g c =
    let leads = c.requires.leads.1 in
    if_leaves (λ v. v.items) _ (leaves_changed _ c.args.path.now.inners.below.now c.args.path.now.inners.at.now c.args.path.now.inners.above.now c.in_ok-leaves.leaves.items leads.cut_inners leads.are_leaves c.in_ok-leaves.ensures.nodes (λ more. omega (arith, leads.cut_inners.fewest more, leads.cut_leaves.all, c.in_ok-leaves.ensures.fewest))) c.rebuilt-2.result c.rebuilt-2.ensures.parts
