use Rattle.std.proofs.Common.{ap, ◌∙◌, arith}
use Rattle.std.proofs.lemmas.Result.{IfOk-weaker}
use Rattle.version_shelf.specs.Nodes.{flatten}
use Rattle.version_shelf.proofs.Paths.{leaves_changed, rows_changed}
use Rattle.version_shelf.proofs.in_place.put_path_back.Goals as goal

pub returns-clause-path : goal.returns-clause-path
returns-clause-path g c = IfOk-weaker c.put_back-2.result _ _ (λ inners put. λ old inners_below leaves inners_above below rows above leads at_inner at_leaf others other_leaves most few.
    let cut = leads.cut_leaves in
    let outer = leads.cut_inners in
    let low = c.in_ok-leaves.ensures.rebuilt below above other_leaves at_leaf (omega arith) cut.are_below cut.are_above most (λ more. omega (arith, cut.fewest more, few)) in
    let high = put inners_below inners_above others at_inner (omega arith) outer.are_below outer.are_above (omega (arith, low.most, cut.fits, outer.most)) (λ more. omega (arith, low.fewest, cut.all, outer.fewest more)) in
    record {
      flat = ap flatten high.flat ∙ rows_changed inners_below inners_above below above c.in_ok-leaves.leaves.items c.args.taken.rows.items low.flat;
      are_inners = high.are_nodes;
      are_leaves = rw high.flat (leaves_changed old inners_below leaves inners_above c.in_ok-leaves.leaves.items outer leads.are_leaves low.are_nodes (λ more. omega (arith, outer.fewest more, cut.all, low.fewest)));
    }) c.put_back-2.ensures.rebuilt
