use Rattle.spiffe_name.proofs.Ids.{none_from_Spells}
use Rattle.reg_lines.proofs.invariants.names.SpiffeIdWritten.know.Goals as goal

pub returns-clause-written : goal.returns-clause-written
returns-clause-written c = let id = c.as_str.ensures.id in none_from_Spells c.args.self.now id.0 id.1 id.2
