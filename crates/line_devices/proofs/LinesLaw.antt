-- The lines of bytes are the only list of lines whose concatenation they are.
use Rattle.std.proofs.Common.{◌≡◌, ◌≢◌, ◌==◌, ◌||◌, ℕ, Bool, true, false, cond, List, [], ◌∷◌, ◌++◌, refl, sym, ap, ◌∙◌, append-nil, append_assoc, inl, inr, arith}
use Rattle.std.specs.List.{concat}
use Rattle.std.proofs.lemmas.Bool.Decides.{nat_tests}
use Rattle.line_devices.specs.Lines.{onto_line, lines_of, has_lf, IsWholeLine, AreLines}
use Rattle.line_devices.proofs.InputLemmas.{lines_of-whole, lines_of-rest}

concat-onto_line : (x : ℕ) (ls : List (List ℕ)) → concat (onto_line x ls) ≡ x ∷ concat ls
concat-onto_line x [] = refl
concat-onto_line x (l ∷ ls) = refl

concat-cond : (v : Bool) (x : ℕ) (ls : List (List ℕ)) → concat (cond v ((x ∷ []) ∷ ls) (onto_line x ls)) ≡ x ∷ concat ls
concat-cond true x ls = refl
concat-cond false x ls = concat-onto_line x ls

pub concat-lines_of : (bytes : List ℕ) → concat (lines_of bytes) ≡ bytes
concat-lines_of [] = refl
concat-lines_of (x ∷ xs) = concat-cond (x == 10) x (lines_of xs) ∙ ap (λ l. x ∷ l) (concat-lines_of xs)

is_ten : (x : ℕ) → (x == 10) ≡ true → x ≡ 10
is_ten x e = grind (arith, nat_tests)

IsWhole-lf : (x : ℕ) → (x == 10) ≡ true → IsWholeLine (x ∷ [])
IsWhole-lf x e = ([], refl, ap (λ b. b ∷ []) (is_ten x e))

no_lf-cons : (x : ℕ) (l : List ℕ) → (x == 10) ≡ false → has_lf l ≡ false → has_lf (x ∷ l) ≡ false
no_lf-cons x l e f = ap (λ v. v || has_lf l) e ∙ f

IsWhole-cons : (x : ℕ) (l : List ℕ) → (x == 10) ≡ false → IsWholeLine l → IsWholeLine (x ∷ l)
IsWhole-cons x l e w = (x ∷ w.0, no_lf-cons x w.0 e w.1, ap (λ l. x ∷ l) w.2)

some_byte : (x : ℕ) (l : List ℕ) → x ∷ l ≢ []
some_byte x l e = cc

AreLines-lf : (x : ℕ) (ls : List (List ℕ)) → (x == 10) ≡ true → AreLines ls → AreLines ((x ∷ []) ∷ ls)
AreLines-lf x [] e a = inl (IsWhole-lf x e)
AreLines-lf x (l ∷ ls) e a = (IsWhole-lf x e, a)

AreLines-onto : (x : ℕ) (ls : List (List ℕ)) → (x == 10) ≡ false → AreLines ls → AreLines (onto_line x ls)
AreLines-onto x [] e a = inr (no_lf-cons x [] e refl, some_byte x [])
AreLines-onto x (l ∷ []) e (inl w) = inl (IsWhole-cons x l e w)
AreLines-onto x (l ∷ []) e (inr r) = inr (no_lf-cons x l e r.0, some_byte x l)
AreLines-onto x (l ∷ m ∷ ls) e a = (IsWhole-cons x l e a.0, a.1)

AreLines-cond : (v : Bool) (x : ℕ) (ls : List (List ℕ)) → (x == 10) ≡ v → AreLines ls → AreLines (cond v ((x ∷ []) ∷ ls) (onto_line x ls))
AreLines-cond true x ls e a = AreLines-lf x ls e a
AreLines-cond false x ls e a = AreLines-onto x ls e a

pub AreLines-lines_of : (bytes : List ℕ) → AreLines (lines_of bytes)
AreLines-lines_of [] = tt
AreLines-lines_of (x ∷ xs) = AreLines-cond (x == 10) x (lines_of xs) refl (AreLines-lines_of xs)

whole_first : (line : List ℕ) (rest : List ℕ) → IsWholeLine line → lines_of (line ++ rest) ≡ line ∷ lines_of rest
whole_first line rest w =
    ap (λ l. lines_of (l ++ rest)) w.2 ∙ (ap lines_of (append_assoc w.0 (10 ∷ []) rest) ∙ (lines_of-whole w.0 rest w.1 ∙ ap (λ l. l ∷ lines_of rest) (sym w.2)))

part_last : (line : List ℕ) → has_lf line ≡ false → line ≢ [] → lines_of (line ++ []) ≡ line ∷ []
part_last [] e n = absurd (n refl)
part_last (x ∷ line) e n = ap lines_of (append-nil (x ∷ line)) ∙ lines_of-rest x line e

pub lines_of-concat : (lines : List (List ℕ)) → AreLines lines → lines ≡ lines_of (concat lines)
lines_of-concat [] a = refl
lines_of-concat (l ∷ []) (inl w) = sym (whole_first l [] w)
lines_of-concat (l ∷ []) (inr r) = sym (part_last l r.0 r.1)
lines_of-concat (l ∷ m ∷ ls) a = ap (λ t. l ∷ t) (lines_of-concat (m ∷ ls) a.1) ∙ sym (whole_first l (concat (m ∷ ls)) a.0)
