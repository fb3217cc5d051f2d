use Rattle.std.proofs.Common.{◌≡◌, ap, ◌∙◌, subst}
use Rattle.spiffe_name.specs.Selector.{SelectorPair, SpellsSelector, pair_of, selector_refusal}
use Rattle.spiffe_name.proofs.Pairs.{SpellsSelector-from_none}
use Rattle.spiffe_name.proofs.selectors.Selector.as_str.Goals as goal

spelled : (c : goal.After-as_str) → SpellsSelector c.as_str.result.now c.args.self.now
spelled c =
    let e : pair_of c.as_str.result.now ≡ c.args.self.now = ap pair_of c.as_str.ensures.value ∙ c.self.view_is in
    subst (λ (p : SelectorPair). SpellsSelector c.as_str.result.now p) e (SpellsSelector-from_none c.as_str.result.now (ap selector_refusal c.as_str.ensures.value ∙ c.self.invariant))

pub returns-clause-text : goal.returns-clause-text
returns-clause-text c = (spelled c).joined

pub returns-clause-selector : goal.returns-clause-selector
returns-clause-selector c = spelled c
