-- Lines and their text.
use Rattle.std.proofs.Common.{◌≡◌, ◌⊎◌, inl, inr, ℕ, ◌<◌, ◌≤◌, List, [], ◌∷◌, ◌++◌, length, refl, sym, ◌∙◌, ap, subst, arith, append_assoc}
use Rattle.std.proofs.lemmas.List.{append-nil}
use Rattle.std.proofs.lemmas.Bool.{cases_eq, cases_lt}
use Rattle.std.proofs.lemmas.Bool.Decides.{nat_tests}
use Rattle.std.specs.Prelude.{◌≢◌, slice_index}
use Rattle.std.specs.List.{AllByRecursion}
use mathlib.Core.List.{IsPrefix}
use Rattle.line_log.specs.Lines.{lines_from, lines_in, text_of, IsLogLine, IsLineFront}

abbrev pub IsInside : ℕ → Type 0
IsInside c = 32 ≤ c

pub opens : (b : ℕ) (bytes : List ℕ) → b ≡ 123 → lines_in (b ∷ bytes) ≡ lines_from (b ∷ []) bytes
opens b bytes is = grind (arith, nat_tests)

pub shut : (b : ℕ) (bytes : List ℕ) → b ≢ 123 → lines_in (b ∷ bytes) ≡ []
shut b bytes other = grind (arith, nat_tests)

pub inside : (x : ℕ) (line : List ℕ) (b : ℕ) (bytes : List ℕ) → 32 ≤ b → lines_from (x ∷ line) (b ∷ bytes) ≡ lines_from (x ∷ line ++ b ∷ []) bytes
inside x line b bytes high = grind (arith, nat_tests)

pub ends : (x : ℕ) (line : List ℕ) (b : ℕ) (bytes : List ℕ) → b ≡ 10 → lines_from (x ∷ line) (b ∷ bytes) ≡ (x ∷ line) ∷ lines_in bytes
ends x line b bytes is = grind (arith, nat_tests)

pub breaks : (x : ℕ) (line : List ℕ) (b : ℕ) (bytes : List ℕ) → b ≢ 10 → b < 32 → lines_from (x ∷ line) (b ∷ bytes) ≡ []
breaks x line b bytes other low = grind (arith, nat_tests)

-- ---- the lines of a text are those

whole_line : (x : ℕ) (line r rest : List ℕ) → AllByRecursion IsInside r → lines_from (x ∷ line) (r ++ 10 ∷ rest) ≡ (x ∷ line ++ r) ∷ lines_in rest
whole_line x line [] rest all = ap (λ (l : List ℕ). (x ∷ l) ∷ lines_in rest) (sym (append-nil line))
whole_line x line (b ∷ r) rest all =
    inside x line b (r ++ 10 ∷ rest) all.0 ∙ whole_line x (line ++ b ∷ []) r rest all.1 ∙ ap (λ (l : List ℕ). (x ∷ l) ∷ lines_in rest) (append_assoc line (b ∷ []) r)

pub lines_of_text : (ls : List (List ℕ)) (rest : List ℕ) → AllByRecursion IsLogLine ls → lines_in (text_of ls ++ rest) ≡ ls ++ lines_in rest
lines_of_text [] rest all = refl
lines_of_text ([] ∷ ls) rest all = absurd (all.0)
lines_of_text ((b ∷ line) ∷ ls) rest all =
    ap (λ (l : List ℕ). lines_in (b ∷ l)) (append_assoc line (10 ∷ text_of ls) rest)
    ∙ opens b (line ++ 10 ∷ (text_of ls ++ rest)) all.0.0
    ∙ whole_line b [] line (text_of ls ++ rest) all.0.1
    ∙ ap (λ (l : List (List ℕ)). (b ∷ line) ∷ l) (lines_of_text ls rest all.1)

-- ---- what is found are lines

all_snoc : (xs : List ℕ) (b : ℕ) → AllByRecursion IsInside xs → 32 ≤ b → AllByRecursion IsInside (xs ++ b ∷ [])
all_snoc [] b all high = (high, tt)
all_snoc (x ∷ xs) b all high = (all.0, all_snoc xs b all.1 high)

are_lines : (line bytes : List ℕ) → IsLineFront line → AllByRecursion IsLogLine (lines_from line bytes)
are_lines line [] begun = tt
are_lines [] (b ∷ bytes) begun = elim (cases_eq b 123) [
  | inl is ↦ subst (AllByRecursion IsLogLine) (sym (opens b bytes is)) (are_lines (b ∷ []) bytes (is, tt))
  | inr other ↦ subst (AllByRecursion IsLogLine) (sym (shut b bytes other)) tt
]
are_lines (x ∷ line) (b ∷ bytes) begun = elim (cases_eq b 10) [
  | inl lf ↦ subst (AllByRecursion IsLogLine) (sym (ends x line b bytes lf)) (begun, are_lines [] bytes tt)
  | inr other ↦ elim (cases_lt b 32) [
    | inl low ↦ subst (AllByRecursion IsLogLine) (sym (breaks x line b bytes other low)) tt
    | inr high ↦ subst (AllByRecursion IsLogLine) (sym (inside x line b bytes high)) (are_lines (x ∷ line ++ b ∷ []) bytes (begun.0, all_snoc line b begun.1 high))
  ]
]

pub lines_are : (bytes : List ℕ) → AllByRecursion IsLogLine (lines_in bytes)
lines_are bytes = are_lines [] bytes tt

pub text_append : (ls gs : List (List ℕ)) → text_of (ls ++ gs) ≡ text_of ls ++ text_of gs
text_append [] gs = refl
text_append (l ∷ ls) gs = ap (λ (t : List ℕ). l ++ 10 ∷ t) (text_append ls gs) ∙ sym (append_assoc l (10 ∷ text_of ls) (text_of gs))

pub all_append : (ls gs : List (List ℕ)) → AllByRecursion IsLogLine ls → AllByRecursion IsLogLine gs → AllByRecursion IsLogLine (ls ++ gs)
all_append [] gs all more = more
all_append (l ∷ ls) gs all more = (all.0, all_append ls gs all.1 more)

-- a text begins with the gate of its first line
pub text_gate : (gs : List (List ℕ)) → AllByRecursion IsLogLine gs → 0 < length (text_of gs) → slice_index (text_of gs) 0 ≡ 123
text_gate [] all some = absurd (omega arith)
text_gate ([] ∷ gs) all some = absurd (all.0)
text_gate ((b ∷ line) ∷ gs) all some = all.0.0

-- ---- a text of which bytes are fillers

-- each byte of the text is as it was or a filler, and nothing counts behind it
abbrev pub IsFaded : List ℕ → List ℕ → Type 0
IsFaded [] d = lines_in d ≡ []
IsFaded (b ∷ g) [] = ⊥
IsFaded (b ∷ g) (c ∷ d) = ((c ≡ 30) ⊎ (c ≡ b)) × IsFaded g d

none_before : (found gs : List (List ℕ)) → found ≡ [] → IsPrefix found gs
none_before found gs none = (gs, ap (λ (l : List (List ℕ)). l ++ gs) none)

faded_inside : (x : ℕ) (line r : List ℕ) (gs : List (List ℕ)) (d : List ℕ) → AllByRecursion IsInside r → ((e : List ℕ) → IsFaded (text_of gs) e → IsPrefix (lines_in e) gs)
    → IsFaded (r ++ 10 ∷ text_of gs) d → IsPrefix (lines_from (x ∷ line) d) ((x ∷ line ++ r) ∷ gs)
faded_inside x line [] gs [] all later f = absurd f
faded_inside x line [] gs (c ∷ d) all later f = elim (f.0) [
  | inl filler ↦ none_before (lines_from (x ∷ line) (c ∷ d)) ((x ∷ line ++ []) ∷ gs) (breaks x line c d (omega arith) (omega arith))
  | inr lf ↦
      let rest = later d f.1 in
      (rest.0, ap (λ (l : List (List ℕ)). l ++ rest.0) (ends x line c d lf) ∙ ap (λ (l : List (List ℕ)). (x ∷ line) ∷ l) rest.1 ∙ ap (λ (l : List ℕ). (x ∷ l) ∷ gs) (sym (append-nil line)))
]
faded_inside x line (b ∷ r) gs [] all later f = absurd f
faded_inside x line (b ∷ r) gs (c ∷ d) all later f = elim (f.0) [
  | inl filler ↦ none_before (lines_from (x ∷ line) (c ∷ d)) ((x ∷ line ++ b ∷ r) ∷ gs) (breaks x line c d (omega arith) (omega arith))
  | inr same ↦
      let on = faded_inside x (line ++ b ∷ []) r gs d all.1 later f.1 in
      let high : 32 ≤ c = omega (arith, all.0, same) in
      let read : lines_from (x ∷ line) (c ∷ d) ≡ lines_from (x ∷ line ++ b ∷ []) d = inside x line c d high ∙ ap (λ (k : ℕ). lines_from (x ∷ line ++ k ∷ []) d) same in
      (on.0, ap (λ (l : List (List ℕ)). l ++ on.0) read ∙ on.1 ∙ ap (λ (l : List ℕ). (x ∷ l) ∷ gs) (append_assoc line (b ∷ []) r))
]

pub faded_lines : (gs : List (List ℕ)) (d : List ℕ) → AllByRecursion IsLogLine gs → IsFaded (text_of gs) d → IsPrefix (lines_in d) gs
faded_lines [] d all f = none_before (lines_in d) [] f
faded_lines ([] ∷ gs) d all f = absurd (all.0)
faded_lines ((b ∷ line) ∷ gs) [] all f = absurd f
faded_lines ((b ∷ line) ∷ gs) (c ∷ d) all f = elim (f.0) [
  | inl filler ↦ none_before (lines_in (c ∷ d)) ((b ∷ line) ∷ gs) (shut c d (omega arith))
  | inr same ↦
      let on = faded_inside b [] line gs d all.0.1 (λ e g. faded_lines gs e all.1 g) f.1 in
      let read : lines_in (c ∷ d) ≡ lines_from (b ∷ []) d = opens c d (same ∙ all.0.0) ∙ ap (λ (k : ℕ). lines_from (k ∷ []) d) same in
      (on.0, ap (λ (l : List (List ℕ)). l ++ on.0) read ∙ on.1)
]
