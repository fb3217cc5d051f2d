use Rattle.spiffe_name.proofs.Domains.{none_from_IsDomain}
use Rattle.reg_lines.proofs.invariants.names.TrustDomainWritten.know.Goals as goal

pub returns-clause-written : goal.returns-clause-written
returns-clause-written c = none_from_IsDomain c.args.self.now c.as_str.ensures.domain
