use Rattle.std.proofs.Common.{ap, sym, ◌∙◌}
use Rattle.spiffe_name.specs.Id.{id_refusal}
use Rattle.spiffe_name.proofs.Ids.{Spells-from_none}
use Rattle.spiffe_name.proofs.spiffe_id.SpiffeId.as_str.Goals as goal

pub returns-clause-id : goal.returns-clause-id
returns-clause-id c = Spells-from_none c.args.self.now (ap id_refusal (sym c.self.view_is) ∙ c.self.invariant)
