-- The first LF among bytes.
use Rattle.std.proofs.Common.{◌≡◌, ◌+◌, ◌≤◌, ◌<◌, ℕ, ◌==◌, true, false, cond, ltb, List, [], ◌∷◌, ◌++◌, Option, None, Some, length, take, get_or, arith, sym, ap, ◌∙◌}
use Rattle.std.specs.Prelude.{is_some}
use Rattle.std.specs.List.{position, position_or_len}
use Rattle.std.proofs.lemmas.Bool.Decides.{nat_tests}
use Rattle.std.proofs.lemmas.List.{get_or-take, length-take, take_more}
use Rattle.std.proofs.lemmas.List.Folds.{list_any_at, list_any_none}
use Rattle.std.proofs.lemmas.List.Sums.{fails_before_first}
use Rattle.std.proofs.lemmas.List.Quantifiers.{position-Some}
use Rattle.line_devices.specs.Lines.{has_lf, IsWholeLine}

is_ten : (b : ℕ) → (b == 10) ≡ true → b ≡ 10
is_ten b t = grind (arith, nat_tests)

not_past : (i n : ℕ) → cond (ltb i n) (Some i) None ≡ None → n ≤ i
not_past i n e = grind (arith, nat_tests)

pub no_lf : (bytes : List ℕ) → position (λ b. b == 10) bytes ≡ None → has_lf bytes ≡ false
no_lf bytes none =
    let past = not_past (position_or_len (λ b. b == 10) bytes) (length bytes) none in
    list_any_none (λ b. b == 10) bytes (λ k d h. fails_before_first (λ b. b == 10) bytes k d (omega (arith, past, h)))

no_lf_before : (bytes : List ℕ) (at : ℕ) → ((k d : ℕ) → k < at → (get_or bytes k d == 10) ≡ false) → has_lf (take at bytes) ≡ false
no_lf_before bytes at before =
    list_any_none (λ b. b == 10) (take at bytes) (λ k d l.
    let m : k < at = omega (arith, length-take at bytes) in
    ap (λ b. b == 10) (get_or-take at bytes k d m) ∙ before k d m)

pub whole_at : (bytes : List ℕ) (at : ℕ) → position (λ b. b == 10) bytes ≡ Some at → (at + 1 ≤ length bytes) × IsWholeLine (take (at + 1) bytes)
whole_at bytes at some =
    let p = position-Some (λ b. b == 10) bytes at 0 some in
    (omega (arith, p.0), (take at bytes, no_lf_before bytes at (λ k d h. (position-Some (λ b. b == 10) bytes at d some).2 k h), take_more bytes at 0 p.0 ∙ ap (λ b. take at bytes ++ b ∷ []) (is_ten _ p.1)))

-- it is found if there is one
pub found_if_any : (bytes : List ℕ) (first : Option ℕ) → first ≡ position (λ b. b == 10) bytes → is_some first ≡ has_lf bytes
found_if_any bytes None e = sym (no_lf bytes (sym e))
found_if_any bytes (Some at) e =
    let p = position-Some (λ b. b == 10) bytes at 0 (sym e) in
    sym (list_any_at (λ b. b == 10) bytes at 0 p.0 p.1)
