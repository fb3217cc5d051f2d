use Rattle.std.proofs.Common.{◌∙◌}
use Rattle.spiffe_name.proofs.Pairs.{bytes_eq-Spells}
use Rattle.spiffe_name.proofs.selectors.SelectorPartialEq.eq.Goals as goal

pub returns : goal.returns
returns c = c.eq.ensures ∙ bytes_eq-Spells c.as_str.result.now c.as_str-2.result.now c.args.self.now c.args.other.now c.as_str.ensures.selector c.as_str-2.ensures.selector
