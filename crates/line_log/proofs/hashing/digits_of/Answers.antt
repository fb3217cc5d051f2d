use Rattle.std.proofs.Common.{rules, ◌≡◌, arith, sym, subst}
use Rattle.std.specs.List.{AllByRecursion}
use Rattle.hex.specs.Hex.{IsBytes, encode_lower}
use Rattle.line_log.proofs.LineLemmas.{IsInside}
use Rattle.line_log.proofs.DigitLemmas.{encoded_inside}
use Rattle.line_log.proofs.hashing.digits_of.Goals as goal

pub returns-clause-printed : goal.returns-clause-printed
returns-clause-printed c =
    let is : c.encode_to_slice.new.output ≡ encode_lower c.args.bytes.now = search rules in
    let fits : IsBytes c.args.bytes.now = λ i. let f = c.type_inv.bytes i in omega arith in
    subst (AllByRecursion IsInside) (sym is) (encoded_inside c.args.bytes.now fits)
