use Rattle.std.proofs.Common.{[], refl, sym, ap, ◌∙◌, ◌++◌}
use Rattle.reg_lines.proofs.Escapes.{escaped_at, escaped_more, escaped_none}
use Rattle.line_devices.proofs.Puts.{Puts-nil, Puts-then, Puts-same}
use Rattle.reg_lines.proofs.printing.text.put_all_escaped.Goals as goal

pub loop-at-init : goal.loop-at-init
loop-at-init g c = ([], Puts-nil _, refl)

pub put_escaped-requires : goal.put_escaped-requires
put_escaped-requires g c = escaped_at c.loop-at.rest.now c.in-Some.at (sym c.in-Some.ensures)

pub loop-at-preserved : goal.loop-at-preserved
loop-at-preserved g c =
    let i = c.loop-at.invariant in
    (_, Puts-then _ _ _ _ _ (Puts-then _ _ _ _ _ i.1 c.put.ensures) c.put_escaped.ensures, escaped_more c.args.bytes.now c.loop-at.rest.now _ _ _ c.in-Some.at (sym c.in-Some.ensures) c.split_at.ensures.front c.split_at-in-Some.ensures.back i.2)

pub returns : goal.returns
returns g c =
    let i = c.loop-at.invariant in
    let none = escaped_none c.loop-at.rest.now (sym c.in_default.ensures) in
    Puts-same _ _ _ _ (ap (λ l. i.0 ++ l) (sym none) ∙ i.2) (Puts-then _ _ _ _ _ i.1 c.put-2.ensures)
