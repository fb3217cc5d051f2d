-- A line that was read in part.
use Rattle.std.proofs.Common.{◌≡◌, ◌||◌, ◌<◌, not, lit<, ℕ, zero, suc, Bool, true, false, ◌==◌, cond, List, [], ◌∷◌, ◌++◌, take, Option, None, Some, refl, sym, ap, ◌∙◌, append_assoc, append-nil, arith}
use Rattle.std.specs.Prelude.{MatchBool, IsTrue, ◌↔◌, ⊤}
use Rattle.std.proofs.lemmas.Bool.{false≢true}
use Rattle.std.proofs.lemmas.List.Folds.{list_any-append}
use Rattle.std.specs.Io.KnownBytes.{Consumes, IsAtEnd, Keeps, prepend_known}
use Rattle.line_devices.specs.Lines.{onto_line, lines_of, has_lf, stored_part, kept_bytes, TakesLine}
use Rattle.line_devices.specs.StreamPrivate.{MovesLine}

-- a part of the first line without its LF was read, and `line` is what is kept of it
abbrev pub IsBegun : Option (List ℕ) → Option (List ℕ) → List ℕ → Type 0
IsBegun None new line = ⊤
IsBegun (Some xs) None line = ⊥
IsBegun (Some xs) (Some ys) line = (seen : List ℕ) × (has_lf seen ≡ false) × (xs ≡ seen ++ ys) × (line ≡ stored_part seen)

take_nil : (n : ℕ) → take n [] ≡ (let l : List ℕ = [] in l)
take_nil zero = refl
take_nil (suc n) = refl

take-take_append : (n : ℕ) (xs ys : List ℕ) → take n (take n xs ++ ys) ≡ take n (xs ++ ys)
take-take_append zero xs ys = refl
take-take_append (suc n) [] ys = refl
take-take_append (suc n) (x ∷ xs) ys = ap (λ l. x ∷ l) (take-take_append n xs ys)

kept_more : (line seen part new : List ℕ) → line ≡ stored_part seen → new ≡ stored_part (line ++ part) → new ≡ stored_part (seen ++ part)
kept_more line seen part new e f = f ∙ (ap (λ l. stored_part (l ++ part)) e ∙ take-take_append kept_bytes seen part)

take-nil_from : (n : ℕ) (seen : List ℕ) → 0 < n → take n seen ≡ [] → seen ≡ []
take-nil_from zero seen l e = absurd (omega arith)
take-nil_from (suc n) [] l e = refl
take-nil_from (suc n) (x ∷ seen) l e = cc

some_kept : 0 < kept_bytes
unfolding kept_bytes
some_kept = lit< tt

kept-nil : (seen : List ℕ) → stored_part seen ≡ [] → seen ≡ []
kept-nil seen e = take-nil_from kept_bytes seen some_kept e

no_lf-append : (xs ys : List ℕ) → has_lf xs ≡ false → has_lf ys ≡ false → has_lf (xs ++ ys) ≡ false
no_lf-append xs ys p q = list_any-append (λ b. b == 10) xs ys ∙ (ap (λ v. v || has_lf ys) p ∙ q)

-- the first byte and the others
no_lf-cons : (v w : Bool) → (v || w) ≡ false → (v ≡ false) × (w ≡ false)
no_lf-cons true w e = absurd (false≢true (sym e))
no_lf-cons false w e = (refl, e)

pub lines_of-whole : (front rest : List ℕ) → has_lf front ≡ false → lines_of (front ++ 10 ∷ rest) ≡ (front ++ 10 ∷ []) ∷ lines_of rest
lines_of-whole [] rest e = refl
lines_of-whole (x ∷ front) rest e =
    let p = no_lf-cons (x == 10) (has_lf front) e in
    ap (λ v. cond v ((x ∷ []) ∷ lines_of (front ++ 10 ∷ rest)) (onto_line x (lines_of (front ++ 10 ∷ rest)))) p.0 ∙ ap (onto_line x) (lines_of-whole front rest p.1)

pub lines_of-rest : (x : ℕ) (seen : List ℕ) → has_lf (x ∷ seen) ≡ false → lines_of (x ∷ seen) ≡ (x ∷ seen) ∷ []
lines_of-rest x [] e =
    let p = no_lf-cons (x == 10) false e in
    ap (λ v. cond v ((x ∷ []) ∷ []) ((x ∷ []) ∷ [])) p.0
lines_of-rest x (y ∷ seen) e =
    let p = no_lf-cons (x == 10) (has_lf (y ∷ seen)) e in
    ap (λ v. cond v ((x ∷ []) ∷ lines_of (y ∷ seen)) (onto_line x (lines_of (y ∷ seen)))) p.0 ∙ ap (onto_line x) (lines_of-rest y seen p.1)

pub IsBegun-start : (a : Option (List ℕ)) (line : List ℕ) → line ≡ [] → IsBegun a a line
IsBegun-start None line e = tt
IsBegun-start (Some xs) line e = ([], refl, refl, e ∙ sym (take_nil kept_bytes))

-- everything that was buffered went into the line
pub IsBegun-moved : (a b : Option (List ℕ)) (held mid line new : List ℕ) → IsBegun a (prepend_known held b) line → MovesLine held mid line new false → IsBegun a b new
IsBegun-moved None b held mid line new p m = tt
IsBegun-moved (Some xs) None held mid line new p m = absurd p
IsBegun-moved (Some xs) (Some z) held mid line new p m =
    let all : held ≡ m.0 = m.1 ∙ (ap (λ l. m.0 ++ l) m.3.1 ∙ append-nil m.0) in
    (p.0 ++ m.0, no_lf-append p.0 m.0 p.1 m.3.0, p.2 ∙ (ap (λ l. p.0 ++ (l ++ z)) all ∙ sym (append_assoc p.0 m.0 z)), kept_more line p.0 m.0 new p.3 m.2)

-- more bytes were read
pub IsBegun-filled : (a b c : Option (List ℕ)) (held line : List ℕ) → IsBegun a b line → Consumes b c held → IsBegun a (prepend_known held c) line
IsBegun-filled None b c held line p q = tt
IsBegun-filled (Some xs) None c held line p q = absurd p
IsBegun-filled (Some xs) (Some y) None held line p q = absurd q
IsBegun-filled (Some xs) (Some y) (Some z) held line p q = (p.0, p.1, p.2 ∙ ap (λ l. p.0 ++ l) q, p.3)

-- its LF was read
pub TakesLine-whole : (a b : Option (List ℕ)) (held mid line new : List ℕ) → IsBegun a (prepend_known held b) line → MovesLine held mid line new true → TakesLine a (prepend_known mid b) new
TakesLine-whole None b held mid line new p m = tt
TakesLine-whole (Some xs) None held mid line new p m = absurd p
TakesLine-whole (Some xs) (Some z) held mid line new p m =
    let w = m.3 in
    let bytes : xs ≡ (p.0 ++ w.0) ++ 10 ∷ (mid ++ z) = rw (p.2, m.1, w.2) (simp append_assoc) in
    let whole : (p.0 ++ w.0) ++ 10 ∷ [] ≡ p.0 ++ m.0 = append_assoc p.0 w.0 (10 ∷ []) ∙ ap (λ l. p.0 ++ l) (sym w.2) in
    (p.0 ++ m.0, ap lines_of bytes ∙ (lines_of-whole (p.0 ++ w.0) (mid ++ z) (no_lf-append p.0 w.0 p.1 w.1) ∙ ap (λ l. l ∷ lines_of (mid ++ z)) whole), kept_more line p.0 m.0 new p.3 m.2)

ended : (xs y line : List ℕ) (seen : List ℕ) (is_empty : Bool) → has_lf seen ≡ false → xs ≡ seen ++ y → line ≡ stored_part seen → y ≡ [] → IsTrue is_empty ↔ (line ≡ []) → MatchBool (not is_empty) (TakesLine (Some xs) (Some y) line) ((xs ≡ []) × (y ≡ []))
ended xs y line [] false none e f g empty = absurd (false≢true (empty.1 (f ∙ take_nil kept_bytes)))
ended xs y line (x ∷ seen) false none e f g empty = (x ∷ seen, ap lines_of (e ∙ (ap (λ l. x ∷ seen ++ l) g ∙ append-nil (x ∷ seen))) ∙ (lines_of-rest x seen none ∙ ap (λ l. (x ∷ seen) ∷ lines_of l) (sym g)), f)
ended xs y line seen true none e f g empty = (e ∙ (ap (λ l. l ++ y) (kept-nil seen (sym f ∙ empty.0 refl)) ∙ g), g)

-- the input ended
pub TakesLine-end : (a b : Option (List ℕ)) (line : List ℕ) (is_empty : Bool) → IsBegun a b line → IsAtEnd b → IsTrue is_empty ↔ (line ≡ []) → MatchBool (not is_empty) (TakesLine a b line) (IsAtEnd a × IsAtEnd b)
TakesLine-end None b line false p q empty = tt
TakesLine-end None b line true p q empty = (tt, q)
TakesLine-end (Some xs) None line is_empty p q empty = absurd p
TakesLine-end (Some xs) (Some y) line is_empty p q empty = ended xs y line p.0 is_empty p.1 p.2 p.3 q empty

-- what was read is lost
pub IsBegun-lost : (a b : Option (List ℕ)) (line : List ℕ) → IsBegun a b line → (lost : List ℕ) × (has_lf lost ≡ false) × Consumes a b lost
IsBegun-lost None b line p = ([], refl, tt)
IsBegun-lost (Some xs) None line p = absurd p
IsBegun-lost (Some xs) (Some y) line p = (p.0, p.1, p.2)

-- what went into a line without an LF had none
pub not_held : (held mid line new : List ℕ) → MovesLine held mid line new false → IsTrue (has_lf held) → ⊥
not_held held mid line new m h =
    let all : held ≡ m.0 = m.1 ∙ (ap (λ l. m.0 ++ l) m.3.1 ∙ append-nil m.0) in
    false≢true (sym m.3.0 ∙ (ap has_lf (sym all) ∙ h))

pub IsAtEnd-held : (b : Option (List ℕ)) (held : List ℕ) → held ≡ [] → IsAtEnd b → IsAtEnd (prepend_known held b)
IsAtEnd-held None held e p = tt
IsAtEnd-held (Some z) held e p = ap (λ l. l ++ z) e ∙ p

pub Consumes-none : (b c : Option (List ℕ)) (held : List ℕ) → Keeps b c → held ≡ [] → Consumes b c held
Consumes-none None c held p e = tt
Consumes-none (Some y) None held p e = absurd p
Consumes-none (Some y) (Some z) held p e = sym p ∙ ap (λ l. l ++ z) (sym e)
