use Rattle.std.proofs.Common.{◌∙◌, sym}
use Rattle.spiffe_name.proofs.Ids.{domain_of-Spells, segments-Spells}
use Rattle.spiffe_name.proofs.laws.one_id_has_one_text.Goals as goal

pub returns-clause-id : goal.returns-clause-id
returns-clause-id c = λ text d e ss ts g h.
    (sym (domain_of-Spells text d ss g) ∙ domain_of-Spells text e ts h, segments-Spells text d e ss ts g h)

pub returns-clause-text : goal.returns-clause-text
returns-clause-text c = λ text other d ss g h. g.joined ∙ sym h.joined
