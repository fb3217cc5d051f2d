use Rattle.spiffe_name.proofs.Domains.{IsDomain-from_none, none_from_IsDomain}
use Rattle.spiffe_name.proofs.trust_domain.TrustDomain.parse.Goals as goal

pub returns-in-Some-clause-complete : goal.returns-in-Some-clause-complete
returns-in-Some-clause-complete c = λ h. let e = none_from_IsDomain c.args.text.now h in cc

pub returns-in_ok-from_str-in-None-clause-sound : goal.returns-in_ok-from_str-in-None-clause-sound
returns-in_ok-from_str-in-None-clause-sound c = IsDomain-from_none c.args.text.now cc
