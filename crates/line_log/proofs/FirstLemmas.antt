-- What bytes begin with, and their lines.
use Rattle.std.proofs.Common.{◌≡◌, inl, inr, ℕ, zero, suc, ◌+◌, ◌<◌, ◌≤◌, List, [], ◌∷◌, ◌++◌, length, take, drop, refl, sym, ◌∙◌, ap, subst, arith, append_assoc, length-append, length-drop}
use Rattle.std.proofs.lemmas.Bool.{cases_lt}
use Rattle.std.proofs.lemmas.List.{append-nil, append_cancel_left, take_more, length-take-le}
use Rattle.std.specs.Prelude.{◌≢◌, slice_index}
use Rattle.std.specs.List.{AllByRecursion}
use Rattle.line_log.specs.Lines.{lines_from, lines_in, text_of, IsLogLine, IsLineFront}
use Rattle.line_log.specs.ReadingPrivate.{IsBreak}
use Rattle.line_log.proofs.LineLemmas.{IsInside, opens, shut, inside, ends, breaks, lines_of_text, text_append, all_append}

pub no_bytes : (l : List ℕ) → length l ≡ 0 → l ≡ []
no_bytes [] none = refl
no_bytes (x ∷ l) none = absurd (omega arith)

through : (x : ℕ) (line r rest : List ℕ) → AllByRecursion IsInside r → lines_from (x ∷ line) (r ++ rest) ≡ lines_from (x ∷ line ++ r) rest
through x line [] rest all = ap (λ (l : List ℕ). lines_from (x ∷ l) rest) (sym (append-nil line))
through x line (b ∷ r) rest all =
    inside x line b (r ++ rest) all.0 ∙ through x (line ++ b ∷ []) r rest all.1 ∙ ap (λ (l : List ℕ). lines_from (x ∷ l) rest) (append_assoc line (b ∷ []) r)

begun_then : (p rest : List ℕ) → IsLineFront p → lines_in (p ++ rest) ≡ lines_from p rest
begun_then [] rest begun = refl
begun_then (b ∷ p) rest begun = opens b (p ++ rest) begun.0 ∙ through b [] p rest begun.1

-- nothing but a prefix of a line
pub begun_none : (p : List ℕ) → IsLineFront p → lines_in p ≡ []
begun_none [] begun = refl
begun_none (b ∷ p) begun = ap lines_in (sym (append-nil (b ∷ p))) ∙ begun_then (b ∷ p) [] begun

-- a line that is broken
pub broken_none : (p : List ℕ) (b : ℕ) (rest : List ℕ) → IsLineFront p → IsBreak p b → lines_in (p ++ b ∷ rest) ≡ []
broken_none [] b rest begun other = shut b rest other
broken_none (x ∷ p) b rest begun other = begun_then (x ∷ p) (b ∷ rest) begun ∙ breaks x p b rest other.0 other.1

-- a whole line
pub whole_then : (p rest : List ℕ) → IsLogLine p → lines_in (p ++ 10 ∷ rest) ≡ p ∷ lines_in rest
whole_then [] rest line = absurd line
whole_then (x ∷ p) rest line = begun_then (x ∷ p) (10 ∷ rest) line ∙ ends x p 10 rest refl

pub split_at : (bytes : List ℕ) (n : ℕ) → n < length bytes → bytes ≡ take n bytes ++ slice_index bytes n ∷ drop (suc n) bytes
split_at [] n low = absurd (omega arith)
split_at (b ∷ bytes) zero low = refl
split_at (b ∷ bytes) (suc n) low = ap (λ (l : List ℕ). b ∷ l) (split_at bytes n (omega arith))

pub past : (bytes : List ℕ) (n : ℕ) → n < length bytes → bytes ≡ take n bytes ++ slice_index bytes n ∷ drop (n + 1) bytes
past bytes n low =
    let next : suc n ≡ n + 1 = omega arith in
    split_at bytes n low ∙ ap (λ (k : ℕ). take n bytes ++ slice_index bytes n ∷ drop k bytes) next

-- bytes and what follows them, where they begin with a whole line
pub whole_first : (bytes more : List ℕ) (n : ℕ) → n < length bytes → IsLogLine (take n bytes) → slice_index bytes n ≡ 10 → lines_in (bytes ++ more) ≡ take n bytes ∷ lines_in (drop (n + 1) bytes ++ more)
whole_first bytes more n low line lf =
    let whole : bytes ≡ take n bytes ++ 10 ∷ drop (n + 1) bytes = past bytes n low ∙ ap (λ (k : ℕ). take n bytes ++ k ∷ drop (n + 1) bytes) lf in
    ap (λ (l : List ℕ). lines_in (l ++ more)) whole ∙ ap lines_in (append_assoc (take n bytes) (10 ∷ drop (n + 1) bytes) more) ∙ whole_then (take n bytes) (drop (n + 1) bytes ++ more) line

pub broken_first : (bytes more : List ℕ) (n : ℕ) → n < length bytes → IsLineFront (take n bytes) → IsBreak (take n bytes) (slice_index bytes n) → lines_in (bytes ++ more) ≡ []
broken_first bytes more n low begun other =
    ap (λ (l : List ℕ). lines_in (l ++ more)) (past bytes n low) ∙ ap lines_in (append_assoc (take n bytes) (slice_index bytes n ∷ drop (n + 1) bytes) more)
    ∙ broken_none (take n bytes) (slice_index bytes n) (drop (n + 1) bytes ++ more) begun other

-- one more byte of a line
inside_more : (r : List ℕ) (b : ℕ) → AllByRecursion IsInside r → 32 ≤ b → AllByRecursion IsInside (r ++ b ∷ [])
inside_more [] b all high = (high, tt)
inside_more (y ∷ r) b all high = (all.0, inside_more r b all.1 high)

begun_more : (p : List ℕ) (b : ℕ) → IsLogLine p → 32 ≤ b → IsLogLine (p ++ b ∷ [])
begun_more [] b line high = absurd line
begun_more (x ∷ p) b line high = (line.0, inside_more p b line.1 high)

-- ---- a line that is read byte by byte

pub begun_line : (p : List ℕ) → IsLineFront p → 0 < length p → IsLogLine p
begun_line [] begun some = absurd (omega arith)
begun_line (x ∷ p) begun some = begun

pub breaks_at : (p : List ℕ) (b : ℕ) → 0 < length p → b ≢ 10 → b < 32 → IsBreak p b
breaks_at [] b some other low = absurd (omega arith)
breaks_at (x ∷ p) b some other low = (other, low)

begun_next : (p : List ℕ) (b : ℕ) → IsLineFront p → (length p ≡ 0 → b ≡ 123) → (0 < length p → 32 ≤ b) → IsLineFront (p ++ b ∷ [])
begun_next [] b begun first later = (first refl, tt)
begun_next (x ∷ p) b begun first later = begun_more (x ∷ p) b begun (later (omega arith))

pub begun_step : (bytes : List ℕ) (i : ℕ) → i < length bytes → IsLineFront (take i bytes) → (i ≡ 0 → slice_index bytes i ≡ 123) → (0 < i → 32 ≤ slice_index bytes i) → IsLineFront (take (i + 1) bytes)
begun_step bytes i low begun first later =
    let size : length (take i bytes) ≡ i = length-take-le i bytes (omega arith) in
    subst IsLineFront (sym (take_more bytes i 0 low)) (begun_next (take i bytes) (slice_index bytes i) begun (λ e. first (sym size ∙ e)) (λ some. later (omega (arith, size))))

pub line_at : (bytes : List ℕ) (i : ℕ) → i < length bytes → 0 < i → IsLineFront (take i bytes) → IsLogLine (take i bytes)
line_at bytes i low some begun = begun_line (take i bytes) begun (omega (arith, length-take-le i bytes (omega arith)))

pub break_at : (bytes : List ℕ) (i b : ℕ) → i < length bytes → 0 < i → b ≢ 10 → b < 32 → IsBreak (take i bytes) b
break_at bytes i b low some other below = breaks_at (take i bytes) b (omega (arith, length-take-le i bytes (omega arith))) other below

pub broken_bytes : (bytes : List ℕ) (n : ℕ) → n < length bytes → IsLineFront (take n bytes) → IsBreak (take n bytes) (slice_index bytes n) → lines_in bytes ≡ []
broken_bytes bytes n low begun other = ap lines_in (sym (append-nil bytes)) ∙ broken_first bytes [] n low begun other

-- ---- a text that is read line by line

module _ (text rest : List ℕ) (ls : List (List ℕ)) (is : text ≡ text_of ls ++ rest) (all : AllByRecursion IsLogLine ls) where
  pub text_ended : lines_in rest ≡ [] → lines_in text ≡ ls
  text_ended none = ap lines_in is ∙ lines_of_text ls rest all ∙ ap (λ (l : List (List ℕ)). ls ++ l) none ∙ append-nil ls

  pub text_step : (n : ℕ) → n < length rest → slice_index rest n ≡ 10 → text ≡ text_of (ls ++ take n rest ∷ []) ++ drop (n + 1) rest
  text_step n low lf =
      let l = take n rest in
      let d = drop (n + 1) rest in
      let joined : text_of (ls ++ l ∷ []) ++ d ≡ text_of ls ++ (l ++ 10 ∷ d) =
      ap (λ (t : List ℕ). t ++ d) (text_append ls (l ∷ [])) ∙ append_assoc (text_of ls) (l ++ 10 ∷ []) d ∙ ap (λ (t : List ℕ). text_of ls ++ t) (append_assoc l (10 ∷ []) d) in
      is ∙ ap (λ (r : List ℕ). text_of ls ++ r) (past rest n low ∙ ap (λ (k : ℕ). l ++ k ∷ d) lf) ∙ sym joined

  pub text_all : (n : ℕ) → IsLogLine (take n rest) → AllByRecursion IsLogLine (ls ++ take n rest ∷ [])
  text_all n line = all_append ls (take n rest ∷ []) all (line, tt)

  -- the text is whole lines just if nothing is left
  pub text_whole : lines_in rest ≡ [] → rest ≡ [] → text_of (lines_in text) ≡ text
  text_whole none empty = ap text_of (text_ended none) ∙ sym (is ∙ ap (λ (r : List ℕ). text_of ls ++ r) empty ∙ append-nil (text_of ls))

  pub none_left : lines_in rest ≡ [] → text_of (lines_in text) ≡ text → length rest ≡ 0
  none_left none whole = omega (arith, ap length is, length-append (text_of ls) rest, ap length whole, ap (λ (l : List (List ℕ)). length (text_of l)) (text_ended none))

-- ---- a text of one line

no_lines : (l : List (List ℕ)) → length l ≡ 0 → l ≡ []
no_lines [] none = refl
no_lines (x ∷ l) none = absurd (omega arith)

tail_same : {x : ℕ} {s t : List ℕ} → x ∷ s ≡ x ∷ t → s ≡ t
tail_same e = cc

lines_some : (rest : List ℕ) → text_of (lines_in rest) ≡ rest → 0 < length rest → 0 < length (lines_in rest)
lines_some rest whole some = elim (cases_lt 0 (length (lines_in rest))) [
  | inl more ↦ more
  | inr none ↦ absurd (omega (arith, some, ap length (sym whole), ap (λ (l : List (List ℕ)). length (text_of l)) (no_lines (lines_in rest) (omega (arith, none)))))
]

module _ (text : List ℕ) (n : ℕ) (low : n < length text) (line : IsLogLine (take n text)) (lf : slice_index text n ≡ 10) where
  one_then : lines_in text ≡ take n text ∷ lines_in (drop (n + 1) text)
  one_then = ap lines_in (past text n low ∙ ap (λ (k : ℕ). take n text ++ k ∷ drop (n + 1) text) lf) ∙ whole_then (take n text) (drop (n + 1) text) line

  pub one_line : n + 1 ≡ length text → length (lines_in text) ≤ 1
  one_line all =
      let none : drop (n + 1) text ≡ [] = no_bytes (drop (n + 1) text) (omega (arith, all, length-drop (n + 1) text)) in
      omega (arith, ap length one_then, ap (λ (l : List ℕ). length (lines_in l)) none)

  pub more_lines : text_of (lines_in text) ≡ text → length (lines_in text) ≤ 1 → n + 1 ≡ length text
  more_lines whole one =
      let d = drop (n + 1) text in
      let rest_whole : take n text ++ 10 ∷ text_of (lines_in d) ≡ take n text ++ 10 ∷ d =
      ap text_of (sym one_then) ∙ whole ∙ past text n low ∙ ap (λ (k : ℕ). take n text ++ k ∷ d) lf in
      elim (cases_lt (n + 1) (length text)) [
        | inl longer ↦
            let same : text_of (lines_in d) ≡ d = tail_same (append_cancel_left (take n text) (10 ∷ text_of (lines_in d)) (10 ∷ d) rest_whole) in
            absurd (omega (arith, one, ap length one_then, lines_some d same (omega (arith, longer, length-drop (n + 1) text))))
        | inr here ↦ omega (arith, low, here)
      ]
