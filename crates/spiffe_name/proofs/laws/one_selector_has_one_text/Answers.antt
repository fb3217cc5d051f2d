use Rattle.std.proofs.Common.{◌∙◌, sym}
use Rattle.spiffe_name.proofs.Pairs.{pair_is, pair_of-Spells, pair_same}
use Rattle.spiffe_name.proofs.laws.one_selector_has_one_text.Goals as goal

pub returns-clause-selector : goal.returns-clause-selector
returns-clause-selector c = λ text a b g h. sym (pair_of-Spells text a g) ∙ pair_of-Spells text b h

pub returns-clause-text : goal.returns-clause-text
returns-clause-text c = λ text other pair g h. g.joined ∙ sym h.joined

pub returns-clause-equal : goal.returns-clause-equal
returns-clause-equal c = λ a b. (pair_is a b, pair_same a b)
