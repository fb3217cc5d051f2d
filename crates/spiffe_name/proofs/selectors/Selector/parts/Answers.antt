use Rattle.std.proofs.Common.{ap, arith, ◌∙◌}
use Rattle.spiffe_name.specs.Selector.{selector_refusal}
use Rattle.spiffe_name.proofs.Pairs.{cut_somewhere, found_colon}
use Rattle.spiffe_name.proofs.selectors.Selector.parts.Goals as goal

pub unwrap-requires : goal.unwrap-requires
unwrap-requires c =
    let l = found_colon c.as_str.result.now (ap selector_refusal c.as_str.ensures.value ∙ c.self.invariant) in
    cut_somewhere _ _ _ _ (c.split_once.ensures.byte (omega arith) (λ w o h. h)) l
