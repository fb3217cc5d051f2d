-- When a lifetime is printed.
use Rattle.std.proofs.Common.{◌≡◌, ◌<◌, ◌≤◌, ℕ, List, [], ◌++◌, Option, Some, None, ap, arith}
use Rattle.std.specs.Prelude.{decimal}
use Rattle.std.proofs.lemmas.Bool.Decides.{nat_tests}
use Rattle.reg_lines.specs.Replies.{given_lifetime, lifetime_member}

given-some : (n : ℕ) → 0 < n → Some n ≡ given_lifetime n
given-some n h = grind (arith, nat_tests)

given-none : (n : ℕ) → n ≤ 0 → (let o : Option ℕ = None in o) ≡ given_lifetime n
given-none n h = grind (arith, nat_tests)

pub lifetime-some : (before : List ℕ) (n : ℕ) → 0 < n → before ++ decimal n ≡ lifetime_member before (given_lifetime n)
lifetime-some before n h = ap (lifetime_member before) (given-some n h)

pub lifetime-none : (before : List ℕ) (n : ℕ) → n ≤ 0 → (let l : List ℕ = [] in l) ≡ lifetime_member before (given_lifetime n)
lifetime-none before n h = ap (lifetime_member before) (given-none n h)
