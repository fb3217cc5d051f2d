-- Runs of bytes without an escape.
use Rattle.std.proofs.Common.{◌≡◌, ◌≢◌, ◌+◌, ◌<◌, ◌≤◌, ◌/◌, ◌%◌, ℕ, suc, true, false, cond, ltb, List, [], ◌∷◌, ◌++◌, None, Some, length, take, drop, get_or, refl, sym, ap, ◌∙◌, append_assoc, arith}
use Rattle.std.specs.Prelude.{codes, position}
use Rattle.std.specs.List.{flat_map, position_or_len}
use Rattle.std.proofs.lemmas.List.{get_or-take, length-take, drop_more, take-append-drop}
use Rattle.std.proofs.lemmas.List.Quantifiers.{position-Some}
use Rattle.std.proofs.lemmas.List.Sums.{fails_before_first}
use Rattle.std.proofs.lemmas.Bool.Decides.{nat_tests}
use Rattle.std.proofs.lemmas.Grind.{flat_map-append}
use Rattle.reg_lines.specs.Json.{escaped, hex_digit}
use Rattle.reg_lines.specs.JsonPrivate.{needs_escape}

pub escaped-plain : (b : ℕ) → needs_escape b ≡ false → escaped b ≡ b ∷ []
unfolding escaped
escaped-plain b e = grind (arith, nat_tests)

below_32 : (b : ℕ) → needs_escape b ≡ true → b ≢ 34 → b ≢ 92 → b < 32
below_32 b e n34 n92 = grind (arith, nat_tests)

pub escaped-below_32 : (b : ℕ) → b < 32 → b ≢ 8 → b ≢ 9 → b ≢ 10 → b ≢ 12 → b ≢ 13 → escaped b ≡ codes "\\u00" ++ hex_digit (b / 16) ∷ hex_digit (b % 16) ∷ []
unfolding escaped
escaped-below_32 b l n8 n9 n10 n12 n13 = grind (arith, nat_tests)

pub escaped-control : (b high low : ℕ) → needs_escape b ≡ true → b ≢ 34 → b ≢ 92 → b ≢ 8 → b ≢ 9 → b ≢ 10 → b ≢ 12 → b ≢ 13 → high ≡ hex_digit (b / 16) → low ≡ hex_digit (b % 16) → codes "\\u00" ++ high ∷ low ∷ [] ≡ escaped b
escaped-control b high low e n34 n92 n8 n9 n10 n12 n13 h l = rw (h, l) (sym (escaped-below_32 b (below_32 b e n34 n92) n8 n9 n10 n12 n13))

flat_map-plain : (xs : List ℕ) → ((k : ℕ) → k < length xs → needs_escape (get_or xs k 0) ≡ false) → flat_map escaped xs ≡ xs
flat_map-plain [] h = refl
flat_map-plain (x ∷ xs) h =
    ap (λ l. l ++ flat_map escaped xs) (escaped-plain x (h 0 (omega arith))) ∙ ap (λ l. x ∷ l) (flat_map-plain xs (λ k l. h (suc k) (omega arith)))

not_past : (i n : ℕ) → cond (ltb i n) (Some i) None ≡ None → n ≤ i
not_past i n e = grind (arith, nat_tests)

-- none of the remaining bytes has an escape
pub escaped_none : (rest : List ℕ) → position needs_escape rest ≡ None → flat_map escaped rest ≡ rest
escaped_none rest none =
    let past = not_past (position_or_len needs_escape rest) (length rest) none in
    flat_map-plain rest (λ k h. fails_before_first needs_escape rest k 0 (omega (arith, past, h)))

pub escaped_at : (rest : List ℕ) (at : ℕ) → position needs_escape rest ≡ Some at → needs_escape (get_or rest at 0) ≡ true
escaped_at rest at some = (position-Some needs_escape rest at 0 some).1

plain_before : (rest : List ℕ) (at : ℕ) → position needs_escape rest ≡ Some at → flat_map escaped (take at rest) ≡ take at rest
plain_before rest at some =
    let p = position-Some needs_escape rest at 0 some in
    flat_map-plain (take at rest) (λ k l.
    let m : k < at = omega (arith, length-take at rest) in
    ap needs_escape (get_or-take at rest k 0 m) ∙ p.2 k m)

escaped_first : (rest : List ℕ) (at : ℕ) → position needs_escape rest ≡ Some at → flat_map escaped rest ≡ take at rest ++ (escaped (get_or rest at 0) ++ flat_map escaped (drop (at + 1) rest))
escaped_first rest at some =
    let p = position-Some needs_escape rest at 0 some in
    let split : rest ≡ take at rest ++ get_or rest at 0 ∷ drop (at + 1) rest = sym (take-append-drop at rest) ∙ ap (λ l. take at rest ++ l) (drop_more rest at 0 p.0) in
    ap (flat_map escaped) split ∙ (flat_map-append escaped (take at rest) (get_or rest at 0 ∷ drop (at + 1) rest) ∙ ap (λ l. l ++ (escaped (get_or rest at 0) ++ flat_map escaped (drop (at + 1) rest))) (plain_before rest at some))

-- the run before the next escape, and the escape
pub escaped_more : (bytes rest next done plain : List ℕ) (at : ℕ) → position needs_escape rest ≡ Some at → plain ≡ take at rest → next ≡ drop (at + 1) rest → done ++ flat_map escaped rest ≡ flat_map escaped bytes → (done ++ plain ++ escaped (get_or rest at 0)) ++ flat_map escaped next ≡ flat_map escaped bytes
escaped_more bytes rest next done plain at some e f so_far =
    append_assoc (done ++ plain) _ _ ∙ (append_assoc done plain _ ∙ (ap (λ l. done ++ l) (ap (λ l. l ++ (escaped (get_or rest at 0) ++ flat_map escaped next)) e ∙ (ap (λ l. take at rest ++ (escaped (get_or rest at 0) ++ flat_map escaped l)) f ∙ sym (escaped_first rest at some))) ∙ so_far))
