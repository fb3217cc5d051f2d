use Rattle.std.proofs.Common.{◌++◌, sym, ap, ◌∙◌}
use Rattle.version_shelf.specs.Nodes.{flatten}
use Rattle.version_shelf.proofs.Flat.{flatten-append}
use Rattle.version_shelf.proofs.walk.walk_all.Goals as goal

pub returns-in-Some-clause-rows : goal.returns-in-Some-clause-rows
returns-in-Some-clause-rows g c =
    c.walk_after.ensures.rows
    ∙ (ap (λ l. flatten l ++ flatten (flatten c.in-Some.inners.now)) c.parts.ensures
    ∙ (sym (flatten-append c.in-Some.middle.now (flatten c.in-Some.inners.now)) ∙ ap (λ l. flatten (flatten l)) (sym c.in-Some.ensures.cases.0)))
