use Rattle.std.proofs.Common.{refl, sym, ◌∙◌}
use Rattle.std.proofs.lemmas.Result.{err_from_is_err_and}
use Rattle.line_reading.specs.Fields.{selector_in, selectors_in}
use Rattle.line_reading.proofs.Front.{with_front-nil, items_in-more, items_in-refused, items_in-all}
use Rattle.line_reading.proofs.fields.lists.selectors_in.Goals as goal

pub loop-item-init : goal.loop-item-init
loop-item-init c = rw c.empty-selectors.ensures (with_front-nil _)

pub returns-in_err-selector_in : goal.returns-in_err-selector_in
returns-in_err-selector_in c =
    let p = err_from_is_err_and c.from_residual.result c.from_residual.ensures.1 in
    rw (p.1, p.2) (items_in-refused (selector_in c.args.key) (selectors_in c.args.key) refl (λ d ds. refl) _ _ _ _ _ _ c.loop-item-test.true c.item-item.is c.in_err-selector_in.ensures c.loop-item.invariant)

pub loop-item-preserved : goal.loop-item-preserved
loop-item-preserved c = sym (items_in-more (selector_in c.args.key) (selectors_in c.args.key) refl (λ d ds. refl) _ _ _ _ _ _ c.loop-item-test.true c.item-item.is c.in_ok-selector_in.ensures c.in_ok-push.ensures.ok) ∙ c.loop-item.invariant

pub returns : goal.returns
returns c = sym c.loop-item.invariant ∙ items_in-all (selector_in c.args.key) (selectors_in c.args.key) refl (λ d ds. refl) _ _ _ c.loop-item-test.false
