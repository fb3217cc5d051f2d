-- Hexadecimal digits are no control bytes.
use Rattle.std.proofs.Common.{◌≡◌, ℕ, zero, suc, ◌/◌, ◌%◌, ◌<◌, ◌≤◌, List, [], ◌∷◌, ◌++◌, length, sym, ◌∙◌, ap, arith, append_assoc}
use Rattle.std.proofs.lemmas.List.{append-nil}
use Rattle.std.specs.Prelude.{slice_index}
use Rattle.std.specs.List.{AllByRecursion}
use Rattle.hex.specs.Hex.{IsBytes, encode_with, lower_digits}
use Rattle.line_log.specs.Lines.{lines_in, text_of, IsLogLine, IsText}
use Rattle.line_log.proofs.LineLemmas.{IsInside, lines_are, lines_of_text, text_append, all_append}

at_each : (t : List ℕ) → AllByRecursion IsInside t → (d : ℕ) → d < length t → 32 ≤ slice_index t d
at_each [] all d low = absurd (omega arith)
at_each (x ∷ t) all zero low = all.0
at_each (x ∷ t) all (suc d) low = at_each t all.1 d (omega arith)

digits_inside : AllByRecursion IsInside lower_digits
digits_inside = (omega arith, (omega arith, (omega arith, (omega arith, (omega arith, (omega arith, (omega arith, (omega arith, (omega arith, (omega arith, (omega arith, (omega arith, (omega arith, (omega arith, (omega arith, (omega arith, tt))))))))))))))))

pub encoded_inside : (xs : List ℕ) → IsBytes xs → AllByRecursion IsInside (encode_with lower_digits xs)
unfolding encode_with
encoded_inside [] bytes = tt
encoded_inside (b ∷ rest) bytes =
    let fits : b < 256 = bytes 0 in
    let high : b / 16 < 16 = omega arith in
    let low : b % 16 < 16 = omega arith in
    (at_each lower_digits digits_inside (b / 16) high, (at_each lower_digits digits_inside (b % 16) low, encoded_inside rest (λ k. bytes (suc k))))

-- ---- a line with its hash is a line

inside_both : (r s : List ℕ) → AllByRecursion IsInside r → AllByRecursion IsInside s → AllByRecursion IsInside (r ++ s)
inside_both [] s all more = more
inside_both (x ∷ r) s all more = (all.0, inside_both r s all.1 more)

with_hash : (line hash : List ℕ) → IsLogLine line → AllByRecursion IsInside hash → IsLogLine (line ++ 32 ∷ hash)
with_hash [] hash is all = absurd is
with_hash (x ∷ r) hash is all = (is.0, inside_both r (32 ∷ hash) is.1 (omega arith, all))

module _ (file line hash new : List ℕ) (whole : IsText file) (is_line : IsLogLine line) (printed : AllByRecursion IsInside hash) (is : new ≡ file ++ (line ++ 32 ∷ hash) ++ 10 ∷ []) where
  as_text : new ≡ text_of (lines_in file ++ (line ++ 32 ∷ hash) ∷ [])
  as_text = is ∙ append_assoc file (line ++ 32 ∷ hash) (10 ∷ []) ∙ ap (λ (t : List ℕ). t ++ ((line ++ 32 ∷ hash) ++ 10 ∷ [])) (sym whole) ∙ sym (text_append (lines_in file) ((line ++ 32 ∷ hash) ∷ []))

  pub put_found : lines_in new ≡ lines_in file ++ (line ++ 32 ∷ hash) ∷ []
  put_found =
      let ls = lines_in file ++ (line ++ 32 ∷ hash) ∷ [] in
      ap lines_in (as_text ∙ sym (append-nil (text_of ls))) ∙ lines_of_text ls [] (all_append (lines_in file) ((line ++ 32 ∷ hash) ∷ []) (lines_are file) (with_hash line hash is_line printed, tt)) ∙ append-nil ls

  pub put_text : IsText new
  put_text = ap text_of put_found ∙ sym as_text
