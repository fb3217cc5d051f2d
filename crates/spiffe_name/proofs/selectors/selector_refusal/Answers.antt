use Rattle.std.proofs.Common.{arith, sym}
use Rattle.spiffe_name.proofs.Pairs.{refused-no_colon}
use Rattle.spiffe_name.proofs.selectors.selector_refusal.Goals as goal

pub returns-in_default : goal.returns-in_default
returns-in_default c = sym (refused-no_colon c.args.text.now c.if-text-gt512.false (c.in_default.ensures.byte (omega arith) (λ w o h. h)))
