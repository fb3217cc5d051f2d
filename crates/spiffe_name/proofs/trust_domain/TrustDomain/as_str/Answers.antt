use Rattle.std.proofs.Common.{ap, sym, ◌∙◌}
use Rattle.spiffe_name.specs.Domain.{domain_refusal}
use Rattle.spiffe_name.proofs.Domains.{IsDomain-from_none}
use Rattle.spiffe_name.proofs.trust_domain.TrustDomain.as_str.Goals as goal

pub returns-clause-domain : goal.returns-clause-domain
returns-clause-domain c = IsDomain-from_none c.args.self.now (ap domain_refusal (sym c.self.view_is) ∙ c.self.invariant)
