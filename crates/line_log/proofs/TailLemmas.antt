-- What follows the whole lines of a file.
use Rattle.std.proofs.Common.{◌≡◌, ◌⊎◌, inl, inr, Bool, true, false, ℕ, zero, suc, ◌+◌, ◌^◌, ◌<◌, ◌≤◌, List, [], ◌∷◌, ◌++◌, length, take, drop, refl, sym, ◌∙◌, ap, subst, arith, append_assoc, length-append}
use Rattle.std.proofs.lemmas.List.{append-nil, get_or_append_left}
use Rattle.std.proofs.lemmas.Bool.{cases_eq, cases_lt, false≢true}
use Rattle.std.proofs.lemmas.Bool.Decides.{nat_tests}
use Rattle.std.specs.Prelude.{◌≢◌, slice_index, IsTrue, ⊤}
use Rattle.std.specs.List.{AllByRecursion}
use Rattle.line_log.specs.Lines.{lines_from, lines_in, text_of, IsLogLine, IsLineFront}
use Rattle.line_log.specs.Tails.{Tail, unbroken, broken_by, shut_by, tail_from, tail_in, len_of, IsTornRest, IsTornEnd, MayEnd}
use Rattle.line_log.specs.ReadingPrivate.{IsBreak}
use Rattle.line_log.proofs.LineLemmas.{IsInside}
use Rattle.line_log.proofs.LineLemmas as lines
use Rattle.line_log.proofs.FirstLemmas.{no_bytes, past}

opens : (b : ℕ) (bytes : List ℕ) → b ≡ 123 → tail_from 0 (b ∷ bytes) ≡ tail_from 1 bytes
opens b bytes is = grind (arith, nat_tests)

shuts : (b : ℕ) (bytes : List ℕ) → b ≢ 123 → tail_from 0 (b ∷ bytes) ≡ shut_by b bytes
shuts b bytes other = grind (arith, nat_tests)

pub inside : (n b : ℕ) (bytes : List ℕ) → 32 ≤ b → tail_from (suc n) (b ∷ bytes) ≡ tail_from (suc (suc n)) bytes
inside n b bytes high = grind (arith, nat_tests)

ends : (n b : ℕ) (bytes : List ℕ) → b ≡ 10 → tail_from (suc n) (b ∷ bytes) ≡ tail_from 0 bytes
ends n b bytes is = grind (arith, nat_tests)

pub breaks : (n b : ℕ) (bytes : List ℕ) → b ≢ 10 → b < 32 → tail_from (suc n) (b ∷ bytes) ≡ broken_by (suc n) b bytes
breaks n b bytes other low = grind (arith, nat_tests)

through : (n m : ℕ) (r rest : List ℕ) → m ≡ n + length r → AllByRecursion IsInside r → tail_from (suc n) (r ++ rest) ≡ tail_from (suc m) rest
through n m [] rest long all =
    let same : n ≡ m = omega (arith, long) in
    ap (λ (k : ℕ). tail_from (suc k) rest) same
through n m (b ∷ r) rest long all = inside n b (r ++ rest) all.0 ∙ through (suc n) m r rest (omega (arith, long)) all.1

pub past_front : (b : ℕ) (p rest : List ℕ) → IsLogLine (b ∷ p) → tail_in (b ∷ (p ++ rest)) ≡ tail_from (suc (length p)) rest
past_front b p rest line = opens b (p ++ rest) line.0 ∙ through 0 (length p) p rest (omega arith) line.1

-- a whole line, and a text, have no tail of their own
pub past_line : (p rest : List ℕ) → IsLogLine p → tail_in (p ++ 10 ∷ rest) ≡ tail_in rest
past_line [] rest line = absurd line
past_line (b ∷ p) rest line = past_front b p (10 ∷ rest) line ∙ ends (length p) 10 rest refl

pub past_text : (ls : List (List ℕ)) (rest : List ℕ) → AllByRecursion IsLogLine ls → tail_in (text_of ls ++ rest) ≡ tail_in rest
past_text [] rest all = refl
past_text (l ∷ ls) rest all = ap tail_in (append_assoc l (10 ∷ text_of ls) rest) ∙ past_line l (text_of ls ++ rest) all.0 ∙ past_text ls rest all.1

pub front_only : (p : List ℕ) → IsLineFront p → tail_in p ≡ unbroken (length p)
front_only [] front = refl
front_only (b ∷ p) front = ap (λ (l : List ℕ). tail_in (b ∷ l)) (sym (append-nil p)) ∙ past_front b p [] front

-- the byte that breaks a front
pub broken_front : (p : List ℕ) (b : ℕ) (rest : List ℕ) → IsLineFront p → IsBreak p b → 0 < length p → tail_in (p ++ b ∷ rest) ≡ broken_by (length p) b rest
broken_front [] b rest front other some = absurd (omega arith)
broken_front (x ∷ p) b rest front other some = past_front x p (b ∷ rest) front ∙ breaks (length p) b rest other.0 other.1

pub shut_front : (p : List ℕ) (b : ℕ) (rest : List ℕ) → IsBreak p b → length p ≡ 0 → tail_in (p ++ b ∷ rest) ≡ shut_by b rest
shut_front [] b rest other none = shuts b rest other
shut_front (x ∷ p) b rest other none = absurd (omega arith)

-- ---- how many bytes follow the lines

len_all : (line d : List ℕ) → length line + length d ≡ length (text_of (lines_from line d)) + len_of (tail_from (length line) d)
len_all [] [] = refl
len_all (x ∷ line) [] = omega arith
len_all [] (b ∷ d) = elim (cases_eq b 123) [
  | inl is ↦ omega (arith, len_all (b ∷ []) d, ap (λ (l : List (List ℕ)). length (text_of l)) (lines.opens b d is), ap len_of (opens b d is))
  | inr other ↦
      let none : length (text_of (lines_in (b ∷ d))) ≡ 0 = ap (λ (l : List (List ℕ)). length (text_of l)) (lines.shut b d other) in
      let rest : len_of (tail_in (b ∷ d)) ≡ 1 + length d = ap len_of (shuts b d other) in
      omega (arith, none, rest)
]
len_all (x ∷ line) (b ∷ d) = elim (cases_eq b 10) [
  | inl lf ↦
      let text : length (text_of (lines_from (x ∷ line) (b ∷ d))) ≡ length ((x ∷ line) ++ 10 ∷ text_of (lines_in d)) = ap (λ (l : List (List ℕ)). length (text_of l)) (lines.ends x line b d lf) in
      let rest : len_of (tail_from (suc (length line)) (b ∷ d)) ≡ len_of (tail_in d) = ap len_of (ends (length line) b d lf) in
      omega (arith, text, rest, len_all [] d, length-append (x ∷ line) (10 ∷ text_of (lines_in d)))
  | inr other ↦ elim (cases_lt b 32) [
    | inl low ↦
        let none : length (text_of (lines_from (x ∷ line) (b ∷ d))) ≡ 0 = ap (λ (l : List (List ℕ)). length (text_of l)) (lines.breaks x line b d other low) in
        let rest : len_of (tail_from (suc (length line)) (b ∷ d)) ≡ suc (length line) + 1 + length d = ap len_of (breaks (length line) b d other low) in
        omega (arith, none, rest)
    | inr high ↦
        let more : List ℕ = x ∷ line ++ b ∷ [] in
        let long : length more ≡ suc (suc (length line)) = omega (arith, length-append line (b ∷ [])) in
        let text : length (text_of (lines_from (x ∷ line) (b ∷ d))) ≡ length (text_of (lines_from more d)) = ap (λ (l : List (List ℕ)). length (text_of l)) (lines.inside x line b d high) in
        let rest : len_of (tail_from (suc (length line)) (b ∷ d)) ≡ len_of (tail_from (length more) d) = ap len_of (inside (length line) b d high) ∙ ap (λ (k : ℕ). len_of (tail_from k d)) (sym long) in
        omega (arith, len_all more d, long, text, rest)
  ]
]

-- a file is the text of its lines and what follows them
pub behind_len : (d : List ℕ) → length d ≡ length (text_of (lines_in d)) + len_of (tail_in d)
behind_len d = omega (arith, len_all [] d)

-- ---- what a crash may leave

-- what a disk that mixes may leave, any disk may
any_torn : (mixes : Bool) (t : Tail) → IsTornEnd true t → IsTornEnd mixes t
any_torn true t may = may
any_torn false (unbroken n) may = may
any_torn false (broken_by n b rest) may = may
any_torn false (shut_by b bytes) may = elim may [ inl filler ↦ inl filler | inr other ↦ inr (inl refl) ]

pub any_disk : (mixes : Bool) (t : Tail) → MayEnd true t → MayEnd mixes t
any_disk mixes t may = (may.0, any_torn mixes t may.1)

-- what this disk may leave, disks may leave that mix only if this one does
pub each_disk : (mixing mixes : Bool) (t : Tail) → (IsTrue mixes → IsTrue mixing) → MayEnd mixing t → MayEnd mixes t
each_disk true true t same may = may
each_disk true false t same may = any_disk false t may
each_disk false true t same may = absurd (false≢true (same refl))
each_disk false false t same may = may

-- the bytes begin with a filler, if there are any
pub filler_first : (d : List ℕ) → length d ≤ 2 ^ 24 + 2 ^ 18 → (0 < length d → slice_index d 0 ≡ 30) → MayEnd true (tail_in d)
filler_first [] short filler = (omega arith, omega arith)
filler_first (b ∷ d) short filler =
    let is : b ≡ 30 = filler (omega arith) in
    subst (MayEnd true) (sym (shuts b d (λ (e : b ≡ 123). omega (arith, is, e)))) (omega (arith, short), inl is)

-- the bytes begin no line, on a disk that may leave any byte there
pub any_first : (d : List ℕ) → length d ≤ 2 ^ 24 + 2 ^ 18 → slice_index d 0 ≢ 123 → MayEnd false (tail_in d)
any_first [] short other = (omega arith, omega arith)
any_first (b ∷ d) short other = subst (MayEnd false) (sym (shuts b d other)) (omega (arith, short), inr (inl refl))

-- at most one byte
pub short_tail : (mixes : Bool) (d : List ℕ) → length d ≤ 1 → MayEnd mixes (tail_in d)
short_tail mixes [] short = (omega arith, omega arith)
short_tail mixes (b ∷ []) short = elim (cases_eq b 123) [
  | inl is ↦
      let one : 1 ≤ 1 = omega arith in
      subst (MayEnd mixes) (sym (opens b [] is)) (omega arith, one)
  | inr other ↦ subst (MayEnd mixes) (sym (shuts b [] other)) (omega arith, inr (inr refl))
]
short_tail mixes (b ∷ c ∷ d) short = absurd (omega arith)

-- the same first byte, which begins no line
pub same_first : (mixes : Bool) (d e : List ℕ) → 0 < length d → 0 < length e → slice_index e 0 ≡ slice_index d 0 → slice_index d 0 ≢ 123 → length e ≤ length d
    → MayEnd mixes (tail_in d) → MayEnd mixes (tail_in e)
same_first mixes [] e some other first is_shut short may = absurd (omega arith)
same_first mixes (b ∷ d) [] some other first is_shut short may = absurd (omega arith)
same_first mixes (b ∷ d) (x ∷ e) some other first is_shut short may =
    let was : MayEnd mixes (shut_by b d) = subst (MayEnd mixes) (shuts b d is_shut) may in
    let now : IsTornEnd mixes (shut_by x e) = elim (was.1) [
      | inl filler ↦ inl (first ∙ filler)
      | inr gate ↦ elim gate [
        | inl dis ↦ inr (inl dis)
        | inr none ↦ inr (inr (no_bytes e (omega (arith, short, ap length none))))
      ]
    ] in
    let few : 1 + length d ≤ 2 ^ 24 + 2 ^ 18 = was.0 in
    subst (MayEnd mixes) (sym (shuts x e (λ (is : x ≡ 123). is_shut (sym first ∙ is)))) (omega (arith, short, few), now)

-- what is so for disks that mix and for those that don't
pub either_end : (mixes : Bool) (old new : Tail) → (mixes ≡ true → MayEnd true old → MayEnd true new) → (MayEnd false old → MayEnd false new) → MayEnd mixes old → MayEnd mixes new
either_end true old new mixed any may = mixed refl may
either_end false old new mixed any may = any may

-- each byte of the text is as it was or a filler, and a filler is behind it
abbrev pub IsFadedText : List ℕ → List ℕ → Type 0
IsFadedText [] d = 0 < length d → slice_index d 0 ≡ 30
IsFadedText (b ∷ g) [] = ⊥
IsFadedText (b ∷ g) (c ∷ d) = ((c ≡ 30) ⊎ (c ≡ b)) × IsFadedText g d

-- a filler is what ends the lines, behind a front of less than 8 MiB, or the file ends there
abbrev pub IsFillerEnd : Tail → Type 0
IsFillerEnd (unbroken n) = n ≤ 1
IsFillerEnd (broken_by n b rest) = (n < 2 ^ 23) × (b ≡ 30)
IsFillerEnd (shut_by b rest) = b ≡ 30

-- what follows the byte that breaks a line is the rest of a torn write
abbrev pub HasTornRest : Tail → Type 0
HasTornRest (unbroken n) = ⊤
HasTornRest (broken_by n b rest) = IsTornRest rest
HasTornRest (shut_by b rest) = ⊤

torn_end : (t : Tail) → IsFillerEnd t → HasTornRest t → IsTornEnd true t
torn_end (unbroken n) filler torn = filler
torn_end (broken_by n b rest) filler torn = (filler.0, filler.1, torn)
torn_end (shut_by b rest) filler torn = inl filler

-- what is the rest of a torn write is so without its first byte
torn_less : (b : ℕ) (d : List ℕ) → IsTornRest (b ∷ d) → IsTornRest d
torn_less b d torn = elim torn [
  | inl few ↦ inl (λ i high low. few (suc i) (omega arith) (omega arith))
  | inr line ↦ inr (λ i j before low lf. line (suc i) (suc j) (omega arith) (omega arith) lf)
]

torn_from : (n : ℕ) (d : List ℕ) → IsTornRest d → HasTornRest (tail_from n d)
torn_from n [] torn = tt
torn_from zero (b ∷ d) torn = elim (cases_eq b 123) [
  | inl is ↦ subst HasTornRest (sym (opens b d is)) (torn_from 1 d (torn_less b d torn))
  | inr other ↦ subst HasTornRest (sym (shuts b d other)) tt
]
torn_from (suc n) (b ∷ d) torn = elim (cases_eq b 10) [
  | inl lf ↦ subst HasTornRest (sym (ends n b d lf)) (torn_from 0 d (torn_less b d torn))
  | inr other ↦ elim (cases_lt b 32) [
    | inl low ↦ subst HasTornRest (sym (breaks n b d other low)) (torn_less b d torn)
    | inr high ↦ subst HasTornRest (sym (inside n b d high)) (torn_from (suc (suc n)) d (torn_less b d torn))
  ]
]

-- the bytes are the rest of a torn write, and the lines end in a filler
pub torn_tail : (d : List ℕ) → length d ≤ 2 ^ 24 + 2 ^ 18 → IsTornRest d → IsFillerEnd (tail_in d) → MayEnd true (tail_in d)
torn_tail d short torn filler = (omega (arith, short, behind_len d), torn_end (tail_in d) filler (torn_from 0 d torn))

filler_head : (d : List ℕ) → (0 < length d → slice_index d 0 ≡ 30) → IsFillerEnd (tail_in d)
filler_head [] filler = omega arith
filler_head (b ∷ d) filler =
    let is : b ≡ 30 = filler (omega arith) in
    subst IsFillerEnd (sym (shuts b d (λ (e : b ≡ 123). omega (arith, is, e)))) is

faded_inside : (n : ℕ) (r : List ℕ) (gs : List (List ℕ)) (d : List ℕ) → n + 1 + length r < 2 ^ 23 → AllByRecursion IsInside r → ((e : List ℕ) → IsFadedText (text_of gs) e → IsFillerEnd (tail_in e))
    → IsFadedText (r ++ 10 ∷ text_of gs) d → IsFillerEnd (tail_from (suc n) d)
faded_inside n [] gs [] low all later f = absurd f
faded_inside n [] gs (c ∷ d) low all later f = elim (f.0) [
  | inl filler ↦ subst IsFillerEnd (sym (breaks n c d (λ (e : c ≡ 10). omega (arith, filler, e)) (omega (arith, filler)))) (omega (arith, low), filler)
  | inr lf ↦ subst IsFillerEnd (sym (ends n c d lf)) (later d f.1)
]
faded_inside n (b ∷ r) gs [] low all later f = absurd f
faded_inside n (b ∷ r) gs (c ∷ d) low all later f = elim (f.0) [
  | inl filler ↦ subst IsFillerEnd (sym (breaks n c d (λ (e : c ≡ 10). omega (arith, filler, e)) (omega (arith, filler)))) (omega (arith, low), filler)
  | inr same ↦
      let high : 32 ≤ c = omega (arith, all.0, same) in
      subst IsFillerEnd (sym (inside n c d high)) (faded_inside (suc n) r gs d (omega (arith, low)) all.1 later f.1)
]

pub faded_tail : (gs : List (List ℕ)) (d : List ℕ) → length (text_of gs) ≤ 2 ^ 23 → AllByRecursion IsLogLine gs → IsFadedText (text_of gs) d → IsFillerEnd (tail_in d)
faded_tail [] d few all f = filler_head d f
faded_tail ([] ∷ gs) d few all f = absurd (all.0)
faded_tail ((b ∷ line) ∷ gs) [] few all f = absurd f
faded_tail ((b ∷ line) ∷ gs) (c ∷ d) few all f = elim (f.0) [
  | inl filler ↦ subst IsFillerEnd (sym (shuts c d (λ (e : c ≡ 123). omega (arith, filler, e)))) filler
  | inr same ↦
      let line_len = length-append (b ∷ line) (10 ∷ text_of gs) in
      subst IsFillerEnd (sym (opens c d (same ∙ all.0.0)))
      (faded_inside 0 line gs d (omega (arith, few, line_len)) all.0.1 (λ (e : List ℕ) (g : IsFadedText (text_of gs) e). faded_tail gs e (omega (arith, few, line_len)) all.1 g) f.1)
]

pub faded_text_at : (g d : List ℕ) → length g ≤ length d → ((i : ℕ) → i < length g → (slice_index d i ≡ 30) ⊎ (slice_index d i ≡ slice_index g i)) → slice_index d (length g) ≡ 30 → IsFadedText g d
faded_text_at [] d le each filler = λ (some : 0 < length d). filler
faded_text_at (b ∷ g) [] le each filler = absurd (omega arith)
faded_text_at (b ∷ g) (c ∷ d) le each filler = (each 0 (omega arith), faded_text_at g d (omega arith) (λ i low. each (suc i) (omega arith)) filler)

-- ---- what a reader finds

-- a whole line at the front of the bytes
pub tail_past : (bytes more : List ℕ) (n : ℕ) → n < length bytes → IsLogLine (take n bytes) → slice_index bytes n ≡ 10 → tail_in (bytes ++ more) ≡ tail_in (drop (n + 1) bytes ++ more)
tail_past bytes more n low line lf =
    let whole : bytes ≡ take n bytes ++ 10 ∷ drop (n + 1) bytes = past bytes n low ∙ ap (λ (k : ℕ). take n bytes ++ k ∷ drop (n + 1) bytes) lf in
    ap (λ (l : List ℕ). tail_in (l ++ more)) whole ∙ ap tail_in (append_assoc (take n bytes) (10 ∷ drop (n + 1) bytes) more) ∙ past_line (take n bytes) (drop (n + 1) bytes ++ more) line

module _ (bytes more : List ℕ) (n : ℕ) (low : n < length bytes) (front : IsLineFront (take n bytes)) (other : IsBreak (take n bytes) (slice_index bytes n)) where
  broken_at : bytes ++ more ≡ take n bytes ++ slice_index bytes n ∷ (drop (n + 1) bytes ++ more)
  broken_at = ap (λ (l : List ℕ). l ++ more) (past bytes n low) ∙ append_assoc (take n bytes) (slice_index bytes n ∷ drop (n + 1) bytes) more

  pub tail_broken : 0 < length (take n bytes) → tail_in (bytes ++ more) ≡ broken_by (length (take n bytes)) (slice_index bytes n) (drop (n + 1) bytes ++ more)
  tail_broken some = ap tail_in broken_at ∙ broken_front (take n bytes) (slice_index bytes n) (drop (n + 1) bytes ++ more) front other some

  pub tail_shut : length (take n bytes) ≡ 0 → tail_in (bytes ++ more) ≡ shut_by (slice_index bytes n) (drop (n + 1) bytes ++ more)
  tail_shut none = ap tail_in broken_at ∙ shut_front (take n bytes) (slice_index bytes n) (drop (n + 1) bytes ++ more) other none

-- ---- a text of one line has one LF

inside_bytes : (l : List ℕ) → AllByRecursion IsInside l → (i : ℕ) → i < length l → 32 ≤ slice_index l i
inside_bytes [] all i low = absurd (omega arith)
inside_bytes (b ∷ l) all zero low = all.0
inside_bytes (b ∷ l) all (suc i) low = inside_bytes l all.1 i (omega arith)

line_bytes : (l : List ℕ) → IsLogLine l → (i : ℕ) → i < length l → 32 ≤ slice_index l i
line_bytes [] line i low = absurd line
line_bytes (b ∷ l) line zero low = omega (arith, line.0)
line_bytes (b ∷ l) line (suc i) low = inside_bytes l line.1 i (omega arith)

-- a front of a line has no LF
pub front_bytes : (p : List ℕ) → IsLineFront p → (i : ℕ) → i < length p → 32 ≤ slice_index p i
front_bytes [] front i low = absurd (omega arith)
front_bytes (b ∷ p) front i low = line_bytes (b ∷ p) front i low

one_lf : (ls : List (List ℕ)) → AllByRecursion IsLogLine ls → length ls ≤ 1 → (i : ℕ) → i < length (text_of ls) → slice_index (text_of ls) i ≡ 10 → i + 1 ≡ length (text_of ls)
one_lf [] all one i low lf = absurd (omega arith)
one_lf (l ∷ []) all one i low lf = elim (cases_lt i (length l)) [
  | inl before ↦ absurd (omega (arith, line_bytes l all.0 i before, sym (get_or_append_left l (10 ∷ []) 0 i before) ∙ lf))
  | inr there ↦ omega (arith, low, there, length-append l (10 ∷ []))
]
one_lf (l ∷ m ∷ ls) all one i low lf = absurd (omega arith)

-- the text of a torn write that is short or one line, each byte as it was or a filler, and fillers behind it
pub torn_text : (g d : List ℕ) → text_of (lines_in g) ≡ g → AllByRecursion IsLogLine (lines_in g) → (length g ≤ 2 ^ 16) ⊎ (length (lines_in g) ≤ 1)
    → ((i : ℕ) → i < length g → i < length d → (slice_index d i ≡ 30) ⊎ (slice_index d i ≡ slice_index g i)) → ((i : ℕ) → length g ≤ i → i < length d → slice_index d i ≡ 30) → IsTornRest d
torn_text g d whole all small each filler = elim small [
  | inl few ↦ inl (λ i high low. filler i (omega (arith, few, high)) low)
  | inr one ↦ inr (λ i j before low lf. elim (cases_lt i (length g)) [
    | inl inside_text ↦ elim (each i inside_text (omega (arith, before, low))) [
      | inl is_filler ↦ absurd (omega (arith, is_filler, lf))
      | inr same ↦
          let at_lf : slice_index (text_of (lines_in g)) i ≡ 10 = ap (λ (t : List ℕ). slice_index t i) whole ∙ sym same ∙ lf in
          let last = one_lf (lines_in g) all one i (omega (arith, inside_text, ap length whole)) at_lf in
          filler j (omega (arith, last, ap length whole, before)) low
    ]
    | inr behind ↦ absurd (omega (arith, filler i (omega (arith, behind)) (omega (arith, before, low)), lf))
  ])
]
