-- A page that is listed part by part, until it is full.
use Rattle.std.proofs.Common.{◌≡◌, ℕ, ◌<◌, true, List, ◌++◌, length, take, sym, ap, ◌∙◌, append_assoc, arith, length-append}
use Rattle.std.specs.Prelude.{nat_lt}
use Rattle.std.proofs.lemmas.Bool.Decides.{nat_tests}
use Rattle.std.proofs.lemmas.List.{take-append-le}

-- If the page has no room for all of a part, it lists none of the entries after that part.
pub is_full : {X : Type 0} (size : ℕ) (before here rest new all : List X) → new ≡ take size (before ++ here) → before ++ (here ++ rest) ≡ all → true ≡ nat_lt size (length (before ++ here)) → (new ≡ take size all) × (nat_lt size (length all) ≡ true)
is_full size before here rest new all taken whole t =
    let over : size < length (before ++ here) = grind (arith, nat_tests, t) in
    let whole_is : (before ++ here) ++ rest ≡ all = append_assoc before here rest ∙ whole in
    let long = ap length whole_is in
    let parts = length-append (before ++ here) rest in
    let more : size < length all = omega arith in
    (taken ∙ (sym (take-append-le size (before ++ here) rest (omega arith)) ∙ ap (take size) whole_is), grind (arith, nat_tests, more))
