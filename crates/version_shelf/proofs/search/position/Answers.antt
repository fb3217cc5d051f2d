use Rattle.std.proofs.Common.{◌+◌, ◌-◌, ◌/◌, ◌<◌, length, sym, ap, ◌∙◌, arith}
use Rattle.version_shelf.proofs.Ends.{ends_take, starts_drop, starts_past, halvings, finds_less}
use Rattle.version_shelf.proofs.search.position.Goals as goal

pub loop-from-init : goal.loop-from-init
loop-from-init g c = record {
  inside = (omega arith, omega arith);
  before = λ none. absurd (omega arith);
  behind = starts_past _ c.args.parts.now;
  counted = omega arith;
  finds = halvings 9 (omega arith) (omega arith);
}

pub loop-from-preserved-then-is_below : goal.loop-from-preserved-then-is_below
loop-from-preserved-then-is_below g c =
    let passes = g.T.Sought.below (g.B.Bound.position c.args.bound.now) in
    let inside : c.loop-from.from + (c.loop-from.until - c.loop-from.from) / 2 < length c.args.parts.now = omega arith in
    record {
      inside = (omega arith, omega arith);
      before = λ some. ends_take passes c.args.parts.now _ c.index-parts-middle.result inside ∙ ap passes (sym c.index-parts-middle.is) ∙ sym c.is_below.ensures.below ∙ c.if-is_below.true;
      behind = c.loop-from.invariant.behind;
      counted = omega arith;
      finds = finds_less _ _ _ _ _ (omega arith) (omega arith) c.is_below.ensures.counted.1 c.loop-from.invariant.finds;
    }

pub loop-from-preserved : goal.loop-from-preserved
loop-from-preserved g c =
    let passes = g.T.Sought.below (g.B.Bound.position c.args.bound.now) in
    let inside : c.loop-from.from + (c.loop-from.until - c.loop-from.from) / 2 < length c.args.parts.now = omega arith in
    record {
      inside = (omega arith, omega arith);
      before = c.loop-from.invariant.before;
      behind = starts_drop passes c.args.parts.now _ c.index-parts-middle.result inside ∙ ap passes (sym c.index-parts-middle.is) ∙ sym c.is_below.ensures.below ∙ c.if-is_below.false;
      counted = omega arith;
      finds = finds_less _ _ _ _ _ (omega arith) (omega arith) c.is_below.ensures.counted.1 c.loop-from.invariant.finds;
    }
