use Rattle.std.proofs.Common.{◌≡◌, ◌++◌, ◌∷◌, [], length, sym, ap, ◌∙◌, append_assoc, arith}
use Rattle.std.proofs.lemmas.Bool.{eqb-false}
use Rattle.std.proofs.lemmas.List.{nil_from_length}
use Rattle.version_shelf.proofs.InPlace.{first_of, last_of, rebuilt_alone, rebuilt_left, rebuilt_right}
use Rattle.version_shelf.proofs.in_place.put_back.Goals as goal

pub returns-then-len-least-clause-rebuilt : goal.returns-then-len-least-clause-rebuilt
returns-then-len-least-clause-rebuilt g c = λ below above is size some front back most fewest.
    rebuilt_alone c.args.least below c.args.parts.items above c.insert_nodes.new.nodes.items some front back most fewest (c.in_ok-insert_nodes.ensures below above is size) (λ _. omega (arith, c.if-len-least.true, c.len.ensures))

pub returns-then-position-gt0-clause-rebuilt : goal.returns-then-position-gt0-clause-rebuilt
returns-then-position-gt0-clause-rebuilt g c = λ below above is size some front back most fewest.
    let last = last_of below (omega (arith, size, c.if-position-gt0.true)) in
    let whole = is ∙ ap (λ l. l ++ above) last.2 ∙ append_assoc last.0 (last.1 ∷ []) above in
    rebuilt_left c.args.least below c.args.parts.items above c.put_with_left.new.nodes.items some front back most fewest last.0 last.1 last.2 (c.in_ok-put_with_left.ensures.nodes last.0 above last.1 whole (omega (arith, last.3, size))) (omega (arith, c.if-len-least.false, c.len.ensures))

pub returns-clause-rebuilt : goal.returns-clause-rebuilt
returns-clause-rebuilt g c = λ below above is size some front back most fewest.
    let none : length below ≡ 0 = omega (arith, size, c.if-position-gt0.false) in
    let empty = nil_from_length below none in
    let all = is ∙ ap (λ l. l ++ above) empty in
    let first = first_of above (omega (arith, ap length all, eqb-false c.args.nodes.len 0 (sym c.if-is_empty.ensures))) in
    rebuilt_right c.args.least below c.args.parts.items above c.put_with_right.new.nodes.items some front back most fewest first.1 first.0 none first.2 (c.in_ok-put_with_right.ensures.nodes first.1 first.0 (all ∙ first.2)) (omega (arith, c.if-len-least.false, c.len.ensures))
