use Rattle.spiffe_name.proofs.Pairs.{SpellsSelector-from_none, none_from_SpellsSelector}
use Rattle.spiffe_name.proofs.selectors.Selector.parse.Goals as goal

pub returns-in-Some-clause-complete : goal.returns-in-Some-clause-complete
returns-in-Some-clause-complete c = λ pair h. let e = none_from_SpellsSelector c.args.text.now pair h in cc

pub returns-in_ok-from_str-in-None-clause-sound : goal.returns-in_ok-from_str-in-None-clause-sound
returns-in_ok-from_str-in-None-clause-sound c =
    let e = c.in_ok-from_str-in-None.ensures.ok in
    rw e (SpellsSelector-from_none c.args.text.now cc)
