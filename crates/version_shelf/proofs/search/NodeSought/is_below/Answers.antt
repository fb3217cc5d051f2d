use Rattle.std.proofs.Common.{◌∙◌, sym, ap}
use Rattle.version_shelf.specs.Nodes.{last_passes}
use Rattle.version_shelf.proofs.Ends.{ends_push}
use Rattle.version_shelf.proofs.search.NodeSought.is_below.Goals as goal

pub returns-in-Some-clause-below : goal.returns-in-Some-clause-below
returns-in-Some-clause-below g c =
    let passes = g.T.Sought.below (g.B.Bound.position c.args.bound.now) in
    c.is_below.ensures.below ∙ sym (ap (last_passes passes) (sym c.parts.ensures ∙ c.in-Some.ensures.cases.0) ∙ ends_push passes c.in-Some.field-0-1.now c.in-Some.part.now)
