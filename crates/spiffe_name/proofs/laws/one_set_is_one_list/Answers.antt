use Rattle.spiffe_name.specs.SelectorOrder.{selector_cmp_total}
use Rattle.spiffe_name.proofs.Sets.{same_list}
use Rattle.spiffe_name.proofs.laws.one_set_is_one_list.Goals as goal

pub returns : goal.returns
returns c = λ a b g h same. same_list selector_cmp_total a b g h (λ s. (same s).0) (λ s. (same s).1)
