-- No good file has a line that is too long.
use Rattle.std.proofs.Common.{◌≡◌, inl, inr, Bool, ℕ, suc, ◌+◌, ◌-◌, ◌^◌, ◌<◌, ◌≤◌, List, [], ◌∷◌, ◌++◌, length, take, drop, refl, sym, ◌∙◌, ap, subst, arith, append_assoc, length-append, take-append-drop}
use Rattle.std.proofs.lemmas.List.{append-nil, get_or-append_right, get_or-drop, get_or-take, length-take-le}
use Rattle.std.proofs.lemmas.Bool.{cases_eq, cases_lt}
use Rattle.std.specs.Prelude.{slice_index}
use Rattle.std.specs.List.{AllByRecursion}
use Rattle.line_log.specs.Lines.{lines_from, lines_in, text_of, IsLineFront}
use Rattle.line_log.specs.Tails.{tail_from, tail_in, MayEnd}
use Rattle.line_log.specs.Damage.{IsLongLine}
use Rattle.line_log.proofs.LineLemmas.{opens, inside, ends, lines_are, text_append, IsInside}
use Rattle.line_log.proofs.TailLemmas as tails
use Rattle.line_log.proofs.TailLemmas.{front_bytes, past_front}
use Rattle.line_log.proofs.CrashLemmas.{after_text, after_tail}
use Rattle.line_log.proofs.RecoverLemmas.{begins}

-- a line that goes on for 8 MiB doesn't end as a crash leaves it
long_end : (mixes : Bool) (line d : List ℕ) → 2 ^ 23 ≤ length line → lines_from line d ≡ [] → MayEnd mixes (tail_from (length line) d) → ⊥
long_end mixes [] d long none may = omega (arith, long)
long_end mixes (x ∷ line) [] long none may =
    let few : suc (length line) ≤ 1 = may.1 in
    omega (arith, long, few)
long_end mixes (x ∷ line) (b ∷ d) long none may = elim (cases_eq b 10) [
  | inl lf ↦ omega (arith, ap length (sym (ends x line b d lf) ∙ none))
  | inr other ↦ elim (cases_lt b 32) [
    | inl low ↦
        let front : suc (length line) < 2 ^ 23 = (subst (MayEnd mixes) (tails.breaks (length line) b d other low) may).1.0 in
        omega (arith, long, front)
    | inr high ↦
        let size : length (x ∷ line ++ b ∷ []) ≡ suc (suc (length line)) = omega (arith, length-append line (b ∷ [])) in
        long_end mixes (x ∷ line ++ b ∷ []) d (omega (arith, long, size)) (sym (inside x line b d high) ∙ none)
        (subst (λ (k : ℕ). MayEnd mixes (tail_from k d)) (sym size) (subst (MayEnd mixes) (tails.inside (length line) b d high) may))
  ]
]

through : (x : ℕ) (line r rest : List ℕ) → AllByRecursion IsInside r → lines_from (x ∷ line) (r ++ rest) ≡ lines_from (x ∷ line ++ r) rest
through x line [] rest all = ap (λ (l : List ℕ). lines_from (x ∷ l) rest) (sym (append-nil line))
through x line (b ∷ r) rest all =
    inside x line b (r ++ rest) all.0 ∙ through x (line ++ b ∷ []) r rest all.1 ∙ ap (λ (l : List ℕ). lines_from (x ∷ l) rest) (append_assoc line (b ∷ []) r)

long_parts : (mixes : Bool) (p rest : List ℕ) → 2 ^ 23 ≤ length p → IsLineFront p → lines_in (p ++ rest) ≡ [] → MayEnd mixes (tail_in (p ++ rest)) → ⊥
long_parts mixes [] rest long front none may = omega (arith, long)
long_parts mixes (b ∷ p) rest long front none may =
    long_end mixes (b ∷ p) rest long (sym (opens b (p ++ rest) front.0 ∙ through b [] p rest front.1) ∙ none) (subst (MayEnd mixes) (past_front b p rest front) may)

long_tail : (mixes : Bool) (d : List ℕ) → 2 ^ 23 < length d → IsLineFront (take 8388608 d) → lines_in d ≡ [] → MayEnd mixes (tail_in d) → ⊥
long_tail mixes d many front none may =
    let same : take 8388608 d ++ drop 8388608 d ≡ d = take-append-drop 8388608 d in
    let size : length (take 8388608 d) ≡ 8388608 = length-take-le 8388608 d (omega (arith, many)) in
    long_parts mixes (take 8388608 d) (drop 8388608 d) (omega (arith, size)) front (ap lines_in same ∙ none) (subst (λ (l : List ℕ). MayEnd mixes (tail_in l)) (sym same) may)

no_more : (ls more : List (List ℕ)) → ls ≡ ls ++ more → more ≡ []
no_more ls [] same = refl
no_more ls (x ∷ more) same = absurd (omega (arith, ap length same, length-append ls (x ∷ more)))

-- no line that is too long follows these
pub no_long_line : (mixes : Bool) (file : List ℕ) (ls more : List (List ℕ)) → lines_in file ≡ ls ++ more → AllByRecursion (λ line. length line < 2 ^ 23) more → MayEnd mixes (tail_in file)
    → IsLongLine (drop (length (text_of ls)) file) → ⊥
no_long_line mixes file ls [] is all may long =
    let end = length (text_of ls) in
    let end_is : end ≡ length (text_of (lines_in file)) = ap (λ (l : List (List ℕ)). length (text_of l)) (sym (is ∙ append-nil ls)) in
    let front = begins file end end_is in
    let none = no_more (lines_in file) (lines_in (drop end file)) (after_text (lines_in file) (lines_are file) end end_is file front.within front.text) in
    long_tail mixes (drop end file) long.0 long.1 none (subst (MayEnd mixes) (after_tail (lines_in file) (lines_are file) end end_is file front.within front.text) may)
no_long_line mixes file ls (m ∷ ms) is all may long =
    let at = length (text_of ls) in
    let text_is : text_of (lines_in file) ≡ text_of ls ++ (m ++ 10 ∷ text_of ms) = ap text_of is ∙ text_append ls (m ∷ ms) in
    let front = begins file (length (text_of (lines_in file))) refl in
    let inside_text : at + length m < length (text_of (lines_in file)) = omega (arith, ap length text_is, length-append (text_of ls) (m ++ 10 ∷ text_of ms), length-append m (10 ∷ text_of ms)) in
    let back : at + length m - at ≡ length m = omega arith in
    let first : length m - length m ≡ 0 = omega arith in
    let lf : slice_index file (at + length m) ≡ 10 =
    front.text (at + length m) inside_text ∙ ap (λ (t : List ℕ). slice_index t (at + length m)) text_is
    ∙ get_or-append_right (text_of ls) (m ++ 10 ∷ text_of ms) at (at + length m) 0 refl (omega arith) ∙ ap (slice_index (m ++ 10 ∷ text_of ms)) back
    ∙ get_or-append_right m (10 ∷ text_of ms) (length m) (length m) 0 refl (omega arith) ∙ ap (slice_index (10 ∷ text_of ms)) first in
    let d = drop at file in
    let taken : slice_index (take 8388608 d) (length m) ≡ 10 = get_or-take 8388608 d (length m) 0 (omega (arith, all.0)) ∙ get_or-drop at file (length m) 0 ∙ lf in
    let size : length (take 8388608 d) ≡ 8388608 = length-take-le 8388608 d (omega (arith, long.0)) in
    omega (arith, taken, front_bytes (take 8388608 d) long.1 (length m) (omega (arith, size, all.0)))
