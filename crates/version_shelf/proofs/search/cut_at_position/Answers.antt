use Rattle.std.proofs.Common.{◌≡◌, ◌-◌, ◌++◌, ◌∷◌, length, take, refl, ap, ◌∙◌}
use Rattle.version_shelf.proofs.Cutting.{cuts_of, cuts_at}
use Rattle.version_shelf.proofs.search.cut_at_position.Goals as goal

-- the nodes before the index, the one at it, and the rest
parts : (g : _) (c : goal.After-parts g) → c.args.nodes.now ≡ c.split_at.result.0.now ++ c.in-Some.node.now ∷ c.in-Some.above.now
parts g c = c.split_at.ensures.by_index.0 ∙ ap (λ l. c.split_at.result.0.now ++ l) c.in-Some.ensures.cases.0

pub returns-in-Some-clause-cuts : goal.returns-in-Some-clause-cuts
returns-in-Some-clause-cuts g c =
    let all = parts g c in
    let nodes = rw all at c.requires.nodes in
    rw (c.parts.ensures, all) (cuts_of g.T.Sought.least c.split_at.result.0.now c.in-Some.node.now c.in-Some.above.now nodes)

pub returns-in-Some-clause-key : goal.returns-in-Some-clause-key
returns-in-Some-clause-key g c = rw c.parts.ensures (cuts_at _ c.args.nodes.now (take (length c.args.nodes.now - 1) c.args.nodes.now) c.split_at.result.0.now c.args.position c.in-Some.node.now c.in-Some.above.now refl c.requires.position c.split_at.ensures.front c.split_at.ensures.front_len (parts g c))
