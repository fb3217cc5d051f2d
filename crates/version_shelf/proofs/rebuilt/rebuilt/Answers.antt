use Rattle.std.proofs.Common.{◌≡◌, ◌+◌, ◌≤◌, ◌++◌, length, refl, ap, ◌∙◌, length-append, arith}
use Rattle.version_shelf.specs.Nodes.{flatten}
use Rattle.version_shelf.proofs.Flat.{last_full, left_of_cut, right_of_cut, rebuilt_flat, rebuilt_nodes}
use Rattle.version_shelf.proofs.rebuilt.rebuilt.Goals as goal

pub returns-then-len-least-clause-parts :
    goal.returns-then-len-least-clause-parts
returns-then-len-least-clause-parts g c = rebuilt_flat (λ v. v.items) c.args.least c.args.below.now c.args.parts.items c.args.above.now _ refl c.joined.result c.joined.ensures.nodes

-- merged with the node below

pub put_together-requires-clause-size : goal.put_together-requires-clause-size
put_together-requires-clause-size g c =
    let full = (last_full c.args.least c.args.below.now c.in-Some.below.now c.in-Some.neighbour.now c.in-Some.ensures.cases.0 c.requires.below).0 in
    let few : length c.in-Some.neighbour.now ≤ c.args.least + c.args.least = full.1 in
    omega (arith, ap length c.parts.ensures, ap length c.deref.ensures.value)

pub joined-requires-in-Some-clause-size : goal.joined-requires-in-Some-clause-size
joined-requires-in-Some-clause-size g c =
    let full = (last_full c.args.least c.args.below.now c.in-Some.below.now c.in-Some.neighbour.now c.in-Some.ensures.cases.0 c.requires.below).0 in
    let few : length c.in-Some.neighbour.now ≤ c.args.least + c.args.least = full.1 in
    omega (arith, ap length c.in_ok-parts.ensures.parts, length-append c.parts.result.now c.deref.result.now, ap length c.parts.ensures, ap length c.deref.ensures.value)

pub returns-in-Some-clause-parts : goal.returns-in-Some-clause-parts
returns-in-Some-clause-parts g c =
    let both = c.in_ok-parts.ensures.parts ∙ ap (λ l. l ++ c.deref.result.now) c.parts.ensures ∙ ap (λ l. c.in-Some.neighbour.now ++ l) c.deref.ensures.value in
    let same = ap (λ l. flatten c.in-Some.below.now ++ (l ++ flatten c.args.above.now)) both ∙ left_of_cut c.args.below.now c.in-Some.below.now c.in-Some.neighbour.now c.args.parts.items (flatten c.args.above.now) c.in-Some.ensures.cases.0 in
    rebuilt_flat (λ v. v.items) c.args.least c.in-Some.below.now c.in_ok-parts.parts.items c.args.above.now _ same c.joined-in-Some.result c.joined-in-Some.ensures.nodes

pub returns-in-Some-clause-nodes : goal.returns-in-Some-clause-nodes
returns-in-Some-clause-nodes g c =
    let full = last_full c.args.least c.args.below.now c.in-Some.below.now c.in-Some.neighbour.now c.in-Some.ensures.cases.0 c.requires.below in
    let least : c.args.least ≤ length c.in-Some.neighbour.now = full.0.0 in
    let most : length c.in-Some.neighbour.now ≤ c.args.least + c.args.least = full.0.1 in
    let size : length c.in_ok-parts.parts.items ≡ length c.in-Some.neighbour.now + length c.args.parts.items = omega (arith, ap length c.in_ok-parts.ensures.parts, length-append c.parts.result.now c.deref.result.now, ap length c.parts.ensures, ap length c.deref.ensures.value) in
    rebuilt_nodes (λ v. v.items) c.args.least c.in-Some.below.now c.in_ok-parts.parts.items c.args.above.now c.requires.some full.1 c.requires.above (omega arith) (λ some. omega arith) c.joined-in-Some.result c.joined-in-Some.ensures.nodes

-- merged with the node above

pub returns-in-Some-split_first-clause-parts : goal.returns-in-Some-split_first-clause-parts
returns-in-Some-split_first-clause-parts g c =
    let both = c.in_ok-parts-2.ensures.parts ∙ ap (λ l. l ++ c.parts-in-Some-split_first.result.now) c.deref-in-Some-split_first.ensures.value ∙ ap (λ l. c.args.parts.items ++ l) c.parts-in-Some-split_first.ensures in
    let same = ap (λ l. flatten c.args.below.now ++ (l ++ flatten c.in-Some-split_first.above.now)) both ∙ right_of_cut c.args.below.now c.args.above.now c.in-Some-split_first.above.now c.in-Some-split_first.neighbour.now c.args.parts.items c.in-Some-split_first.ensures.cases.0 in
    rebuilt_flat (λ v. v.items) c.args.least c.args.below.now c.in_ok-parts-2.parts.items c.in-Some-split_first.above.now _ same c.joined-in-Some-split_first.result c.joined-in-Some-split_first.ensures.nodes

pub returns-in-Some-split_first-clause-nodes : goal.returns-in-Some-split_first-clause-nodes
returns-in-Some-split_first-clause-nodes g c =
    let full = rw c.in-Some-split_first.ensures.cases.0 at c.requires.above in
    let least : c.args.least ≤ length c.in-Some-split_first.neighbour.now = full.0.0 in
    let most : length c.in-Some-split_first.neighbour.now ≤ c.args.least + c.args.least = full.0.1 in
    let size : length c.in_ok-parts-2.parts.items ≡ length c.args.parts.items + length c.in-Some-split_first.neighbour.now = omega (arith, ap length c.in_ok-parts-2.ensures.parts, length-append c.deref-in-Some-split_first.result.now c.parts-in-Some-split_first.result.now, ap length c.parts-in-Some-split_first.ensures, ap length c.deref-in-Some-split_first.ensures.value) in
    rebuilt_nodes (λ v. v.items) c.args.least c.args.below.now c.in_ok-parts-2.parts.items c.in-Some-split_first.above.now c.requires.some c.requires.below full.1 (omega arith) (λ some. omega arith) c.joined-in-Some-split_first.result c.joined-in-Some-split_first.ensures.nodes
