use Rattle.std.proofs.Common.{not, rules, ◌≡◌, ◌==◌, ℕ, cond, ltb, Some, None, length, tests, ◌≤◌, arith}
use Rattle.std.specs.List.{position_or_len}
use Rattle.std.specs.Option.{unwrap_or}
use Rattle.std.proofs.lemmas.Iterator.{YieldsList-from_slice}
use Rattle.std.proofs.lemmas.Iterator.Search.{position_from_yields_List}
use Rattle.std.proofs.lemmas.List.Sums.{prefix_len-le-length}
use Rattle.std.proofs.lemmas.Bool.Decides.{nat_tests}
use Rattle.spiffe_name.proofs.spiffe_id.first_slash.Goals as goal

unwrapped : (p n : ℕ) → p ≤ n → unwrap_or (cond (ltb p n) (Some p) None) n ≡ p
unwrapped p n h = grind (arith, nat_tests)

pub returns-clause-first : goal.returns-clause-first
returns-clause-first c =
    let e = position_from_yields_List (λ b. b == 47) _ _ c.position.result c.position.ensures.ran (YieldsList-from_slice c.args.bytes.now cc) (λ x b q k. search (rules, tests)) in
    let w = unwrapped (position_or_len (λ b. b == 47) c.args.bytes.now) (length c.args.bytes.now) (prefix_len-le-length (λ b. not (b == 47)) c.args.bytes.now) in
    cc
