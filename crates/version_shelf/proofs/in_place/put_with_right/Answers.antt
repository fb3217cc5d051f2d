use Rattle.std.proofs.Common.{◌++◌, [], refl, ap, ◌∙◌}
use Rattle.std.proofs.lemmas.Result.{on_ok_weaker}
use Rattle.version_shelf.specs.Nodes.{in_nodes}
use Rattle.version_shelf.proofs.in_place.put_with_right.Goals as goal

pub returns-clause-nodes : goal.returns-clause-nodes
returns-clause-nodes g c = on_ok_weaker c.insert_nodes.result (λ e. λ above node is.
    let taken = c.in_ok-others.ensures.node [] above node is refl in
    e [] above taken.1 refl ∙ ap (λ l. in_nodes c.args.least l ++ above) (c.in_ok-append.ensures.items ∙ ap (λ l. c.args.parts.items ++ l) taken.0)) c.insert_nodes.ensures
