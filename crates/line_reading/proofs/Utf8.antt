-- The JSON value of a line's bytes, from the result of the UTF-8 check.
use Rattle.std.proofs.Common.{◌≡◌, ℕ, Bool, true, false, cond, List, Option, None, refl, ap, ◌∙◌}
use Rattle.std.specs.Str.{IsUtf8, is_utf8}
use Rattle.std.proofs.lemmas.Str.{IsUtf8-from_is_utf8, is_utf8-from_IsUtf8}
use Rattle.serde_json.specs.Data.{Data}
use Rattle.serde_json.specs.Read.{read}
use Rattle.line_reading.specs.Requests.{json_in, value_in}

pub value_in-text : (line : List ℕ) (o : Option Data) → IsUtf8 line → read line ≡ o → value_in line ≡ json_in o
unfolding value_in
value_in-text line o u e = ap (λ b. json_in (cond b (read line) None)) (is_utf8-from_IsUtf8 line u) ∙ ap json_in e

not_true : (b : Bool) → (b ≡ true → ⊥) → b ≡ false
not_true true n = absurd (n refl)
not_true false n = refl

pub value_in-no_text : (line : List ℕ) → (IsUtf8 line → ⊥) → value_in line ≡ json_in None
unfolding value_in
value_in-no_text line n = ap (λ b. json_in (cond b (read line) None)) (not_true (is_utf8 line) (λ e. n (IsUtf8-from_is_utf8 line e)))
