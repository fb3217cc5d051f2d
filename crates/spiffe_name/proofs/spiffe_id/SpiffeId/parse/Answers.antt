use Rattle.spiffe_name.proofs.Ids.{Spells-from_none, none_from_Spells}
use Rattle.spiffe_name.proofs.spiffe_id.SpiffeId.parse.Goals as goal

pub returns-in-Some-clause-complete : goal.returns-in-Some-clause-complete
returns-in-Some-clause-complete c = λ d ss h. let e = none_from_Spells c.args.text.now d ss h in cc

pub returns-in_ok-from_str-in-None-clause-sound : goal.returns-in_ok-from_str-in-None-clause-sound
returns-in_ok-from_str-in-None-clause-sound c = Spells-from_none c.args.text.now cc
