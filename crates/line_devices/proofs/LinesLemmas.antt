-- Lines that are read part by part.
use Rattle.std.proofs.Common.{◌≡◌, ◌+◌, ◌-◌, ◌≤◌, ℕ, List, ◌++◌, length, take, arith, ap, sym, refl, ◌∙◌}
use Rattle.line_devices.specs.Lines.{stored_part, kept_bytes}
use Rattle.std.proofs.Math.Seq.{take-append-add}

refilled : (n k : ℕ) → k ≤ n → n ≡ k + (n - k)
refilled n k h = omega arith

pub take-append_ge : (n : ℕ) (xs ys : List ℕ) → length xs ≤ n → take n (xs ++ ys) ≡ xs ++ take (n - length xs) ys
take-append_ge n xs ys h = ap (λ k. take k (xs ++ ys)) (refilled n (length xs) h) ∙ take-append-add xs ys (n - length xs)

pub kept_bytes-is : 1048577 ≡ kept_bytes
unfolding kept_bytes
kept_bytes-is = refl

pub kept-filled : (most n : ℕ) (old seen part front new : List ℕ) → most ≡ kept_bytes → n ≡ length old → n ≤ most → old ≡ seen → front ≡ take (most - n) part → new ≡ old ++ front → new ≡ stored_part (seen ++ part)
kept-filled most n old seen part front new is len fits same cut filled =
    let e : take most (old ++ part) ≡ old ++ take (most - length old) part = take-append_ge most old part (omega arith) in
    rw (filled, cut, len, ← same, ← is) (sym e)
