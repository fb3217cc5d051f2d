use Rattle.spiffe_name.proofs.SelectorSets.{from_set_of, in_set_of, set_of-sorted}
use Rattle.spiffe_name.proofs.laws.set_has_members_of_list.Goals as goal

pub returns : goal.returns
returns c = λ selectors. (set_of-sorted selectors, λ s. (from_set_of selectors s, in_set_of selectors s))
