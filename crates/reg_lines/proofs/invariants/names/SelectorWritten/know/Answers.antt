use Rattle.std.proofs.Common.{subst}
use Rattle.spiffe_name.specs.Selector.{SpellsSelector}
use Rattle.spiffe_name.proofs.Pairs.{none_from_SpellsSelector, pair_of-Spells}
use Rattle.reg_lines.proofs.invariants.names.SelectorWritten.know.Goals as goal

pub returns-clause-written : goal.returns-clause-written
returns-clause-written c =
    let pair = c.args.self.now in
    let spelled = subst (λ text. SpellsSelector text pair) c.as_str.ensures.text c.as_str.ensures.selector in
    (none_from_SpellsSelector _ pair spelled, pair_of-Spells _ pair spelled)
