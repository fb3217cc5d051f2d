use Rattle.std.proofs.Common.{arith, ap, below_more, ◌∙◌, ◌≡◌, ◌≢◌, ◌<◌, get_or, List, ℕ, Bool, false, bytes_eq}
use Rattle.std.proofs.lemmas.Slice.Eq.{bytes_eq-Decides}
use Rattle.error_codes.specs.Codes.{code_name}
use Rattle.error_codes.specs.declared.code.ErrorCode.TheVariants.{I1}
use Rattle.error_codes.specs.declared.code.TheConstants.{CODES}
use Rattle.error_codes.proofs.Places.{is_placed, is_within, place}
use Rattle.error_codes.proofs.code.ErrorCode.of_name.Goals as goal

unequal : (name text : List ℕ) (test : Bool) → test ≡ false → test ≡ bytes_eq name text → name ≢ text
unequal name text test failed is same = let met = (bytes_eq-Decides name text).1 same in cc

pub loop-code-preserved : goal.loop-code-preserved
loop-code-preserved c = below_more (λ i. code_name (get_or CODES i I1) ≢ c.args.name.now) c.loop-code.code-index c.loop-code.invariant
    (λ same. unequal c.name.result.now c.args.name.now c.eq.result c.if-eq.false c.eq.ensures (c.name.ensures ∙ same))

pub returns-clause-none : goal.returns-clause-none
returns-clause-none c code is =
    let within : place code < c.loop-code.code-index = omega (arith, is_within code) in
    c.loop-code.invariant (place code) within (ap code_name (is_placed code) ∙ is)
