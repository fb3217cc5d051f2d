use Rattle.spiffe_name.specs.Selector.{pair_of}
use Rattle.spiffe_name.proofs.Domains.{IsDomain-from_none, none_from_IsDomain}
use Rattle.spiffe_name.proofs.Ids.{Spells-from_none, none_from_Spells}
use Rattle.spiffe_name.proofs.Pairs.{SpellsSelector-from_none, none_from_SpellsSelector}
use Rattle.spiffe_name.proofs.laws.only_names_pass.Goals as goal

pub returns-clause-domains : goal.returns-clause-domains
returns-clause-domains c = λ text. (IsDomain-from_none text, none_from_IsDomain text)

pub returns-clause-ids : goal.returns-clause-ids
returns-clause-ids c = λ text. (Spells-from_none text, λ h. none_from_Spells text h.0 h.1 h.2)

pub returns-clause-selectors : goal.returns-clause-selectors
returns-clause-selectors c = λ text. (λ h. (pair_of text, SpellsSelector-from_none text h), λ h. none_from_SpellsSelector text h.0 h.1)
