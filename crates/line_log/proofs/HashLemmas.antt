-- Lines and their hashes.
use Rattle.std.proofs.Common.{◌≡◌, Bool, true, ℕ, ◌≤◌, List, [], ◌∷◌, ◌++◌, length, take, refl, sym, ◌∙◌, ap, subst, arith, append_assoc, length-append}
use Rattle.std.proofs.lemmas.List.{append-nil, append_cancel_left, length-take-le}
use Rattle.std.specs.Prelude.{◌≢◌}
use Rattle.hex.specs.Hex.{lower_digits}
use Rattle.hex.proofs.HexLemmas.{length-encode_with}
use Rattle.sha2.specs.Sha256.{sha256}
use Rattle.sha2.proofs.Facts256.{length-sha256}
use Rattle.line_log.specs.Lines.{lines_in, text_of}
use Rattle.line_log.specs.Tails.{tail_in, MayEnd}
use Rattle.line_log.specs.Log.{IsCrashed}
use Rattle.line_log.specs.Hashes.{hash_of, hashed_line, hashed_after, hashed, CrashMayLeave}
use Rattle.line_log.specs.Damage.{HasWrongLine}
use Rattle.line_log.proofs.TailLemmas.{any_disk}

pub hashed_append : (m : List ℕ) (ls gs : List (List ℕ)) → hashed_after m (ls ++ gs) ≡ hashed_after m ls ++ hashed_after (m ++ text_of ls) gs
hashed_append m [] gs = ap (λ (t : List ℕ). hashed_after t gs) (sym (append-nil m))
hashed_append m (l ∷ ls) gs =
    let there : (m ++ l ++ 10 ∷ []) ++ text_of ls ≡ m ++ (l ++ 10 ∷ text_of ls) = append_assoc (m ++ l) (10 ∷ []) (text_of ls) ∙ append_assoc m l (10 ∷ text_of ls) in
    ap (λ (t : List (List ℕ)). hashed_line m l ∷ t) (hashed_append (m ++ l ++ 10 ∷ []) ls gs ∙ ap (λ (t : List ℕ). hashed_after (m ++ l ++ 10 ∷ []) ls ++ hashed_after t gs) there)

head_of : List (List ℕ) → List ℕ
head_of [] = []
head_of (x ∷ xs) = x

tail_of : List (List ℕ) → List (List ℕ)
tail_of [] = []
tail_of (x ∷ xs) = xs

-- the front of lines with hashes is that of some of the lines
pub hashed_front : (m : List ℕ) (gs r0 r1 : List (List ℕ)) → r0 ++ r1 ≡ hashed_after m gs → (found rest : List (List ℕ)) × (gs ≡ found ++ rest) × (r0 ≡ hashed_after m found)
unfolding tail_of head_of
hashed_front m gs [] r1 e = ([], gs, refl, refl)
hashed_front m [] (x ∷ r0) r1 e = absurd (omega (arith, ap length e))
hashed_front m (g ∷ gs) (x ∷ r0) r1 e =
    let (found, rest, is, front) = hashed_front (m ++ g ++ 10 ∷ []) gs r0 r1 (ap tail_of e) in
    (g ∷ found, rest, ap (λ (l : List (List ℕ)). g ∷ l) is, ap (λ (l : List ℕ). l ∷ r0) (ap head_of e) ∙ ap (λ (t : List (List ℕ)). hashed_line m g ∷ t) front)

left_between : (mixes : Bool) (ls gs : List (List ℕ)) (c : List ℕ) → IsCrashed mixes (hashed ls) (hashed ls ++ hashed_after (text_of ls) gs) c → CrashMayLeave mixes ls gs c
left_between mixes ls gs c crashed =
    let between = crashed.lines in
    let r0 = between.no_fewer.0 in
    let r1 = between.no_more.0 in
    let e : hashed ls ++ (r0 ++ r1) ≡ hashed ls ++ hashed_after (text_of ls) gs = sym (append_assoc (hashed ls) r0 r1) ∙ ap (λ (l : List (List ℕ)). l ++ r1) between.no_fewer.1 ∙ between.no_more.1 in
    let (found, rest, is, front) = hashed_front (text_of ls) gs r0 r1 (append_cancel_left (hashed ls) (r0 ++ r1) (hashed_after (text_of ls) gs) e) in
    record {
      found = found;
      rest = rest;
      others_are = is;
      end = crashed.end;
      holds = sym between.no_fewer.1 ∙ ap (λ (l : List (List ℕ)). hashed ls ++ l) front ∙ sym (hashed_append [] ls found);
    }

pub left_after : (mixes : Bool) (ls gs now added : List (List ℕ)) (c : List ℕ) → now ≡ hashed ls → added ≡ hashed_after (text_of ls) gs → IsCrashed mixes now (now ++ added) c → CrashMayLeave mixes ls gs c
left_after mixes ls gs now added c same more crashed =
    left_between mixes ls gs c (subst (λ (m : List (List ℕ)). IsCrashed mixes (hashed ls) (hashed ls ++ m) c) more (subst (λ (l : List (List ℕ)). IsCrashed mixes l (l ++ added) c) same crashed))

pub text_more : (ls : List (List ℕ)) (l : List ℕ) → text_of (ls ++ l ∷ []) ≡ text_of ls ++ (l ++ 10 ∷ [])
text_more [] l = refl
text_more (x ∷ ls) l = ap (λ (t : List ℕ). x ++ 10 ∷ t) (text_more ls l) ∙ sym (append_assoc x (10 ∷ text_of ls) (l ++ 10 ∷ []))

pub hashed_more : (m : List ℕ) (ls : List (List ℕ)) (l : List ℕ) → hashed_after m (ls ++ l ∷ []) ≡ hashed_after m ls ++ hashed_line (m ++ text_of ls) l ∷ []
hashed_more m ls l = hashed_append m ls (l ∷ [])

-- a log whose file has these lines has these and none of the others
pub left_none : (mixes : Bool) (ls gs : List (List ℕ)) (c : List ℕ) → lines_in c ≡ hashed ls → MayEnd true (tail_in c) → CrashMayLeave mixes ls gs c
left_none mixes ls gs c is end = record { found = []; rest = gs; others_are = refl; end = any_disk mixes (tail_in c) end; holds = is ∙ ap hashed (sym (append-nil ls)) }

-- one more line got its hash
module _ (before : List ℕ) (ls : List (List ℕ)) (l file new : List ℕ) where
  pub more_text : (before ++ text_of ls) ++ l ++ 10 ∷ [] ≡ before ++ text_of (ls ++ l ∷ [])
  more_text = append_assoc (before ++ text_of ls) l (10 ∷ []) ∙ append_assoc before (text_of ls) (l ++ 10 ∷ []) ∙ ap (λ (t : List ℕ). before ++ t) (sym (text_more ls l))

  pub more_hashed : lines_in file ≡ hashed_after before ls → lines_in new ≡ lines_in file ++ hashed_line (before ++ text_of ls) l ∷ [] → lines_in new ≡ hashed_after before (ls ++ l ∷ [])
  more_hashed is put = put ∙ ap (λ (f : List (List ℕ)). f ++ hashed_line (before ++ text_of ls) l ∷ []) is ∙ sym (hashed_more before ls l)

-- ---- another line has another hash text

pub hash_long : (text : List ℕ) → length (hash_of text) ≡ 32
unfolding hash_of
hash_long text =
    let taken : length (take 16 (sha256 text)) ≡ 16 = length-take-le 16 (sha256 text) (omega (arith, length-sha256 text)) in
    omega (arith, length-encode_with lower_digits (take 16 (sha256 text)), taken)

-- two joined lists are equal whose backs are as long
same_parts : (l g a b : List ℕ) → length a ≡ length b → l ++ a ≡ g ++ b → (l ≡ g) × (a ≡ b)
same_parts [] [] a b long e = (refl, e)
same_parts [] (y ∷ g) a b long e = absurd (omega (arith, long, ap length e, length-append g b))
same_parts (x ∷ l) [] a b long e = absurd (omega (arith, long, ap length e, length-append l a))
same_parts (x ∷ l) (y ∷ g) a b long e =
    let tails : l ++ a ≡ g ++ b = cc in
    let on = same_parts l g a b long tails in
    let heads : x ≡ y = cc in
    let fronts = on.0 in
    (λ i. heads i ∷ fronts i, on.1)

-- these bytes are no line with its hash
pub too_short : (found before other : List ℕ) → length found ≤ 32 → found ≢ hashed_line before other
too_short found before other short e =
    let hash = hash_of (before ++ other ++ 10 ∷ []) in
    omega (arith, short, ap length e, length-append other (32 ∷ hash), hash_long (before ++ other ++ 10 ∷ []))

pub other_hash : (found text tail hash before other : List ℕ) → found ≡ text ++ tail → length tail ≡ 33 → hash ≡ hash_of (before ++ text ++ 10 ∷ []) → tail ≢ 32 ∷ hash → found ≢ hashed_line before other
other_hash found text tail hash before other is long hash_is wrong e =
    let right = hash_of (before ++ other ++ 10 ∷ []) in
    let both = same_parts text other tail (32 ∷ right) (omega (arith, long, hash_long (before ++ other ++ 10 ∷ []))) (sym is ∙ e) in
    wrong (both.1 ∙ ap (λ (t : List ℕ). 32 ∷ hash_of (before ++ t ++ 10 ∷ [])) (sym both.0) ∙ ap (λ (h : List ℕ). 32 ∷ h) (sym hash_is))

line_same : (m l g : List ℕ) → hashed_line m l ≡ hashed_line m g → l ≡ g
line_same m l g e =
    let long : length (32 ∷ hash_of (m ++ l ++ 10 ∷ [])) ≡ length (32 ∷ hash_of (m ++ g ++ 10 ∷ [])) = omega (arith, hash_long (m ++ l ++ 10 ∷ []), hash_long (m ++ g ++ 10 ∷ [])) in
    (same_parts l g (32 ∷ hash_of (m ++ l ++ 10 ∷ [])) (32 ∷ hash_of (m ++ g ++ 10 ∷ [])) long e).0

-- lines are known from what their file has
pub hashed_same : (m : List ℕ) (ls gs : List (List ℕ)) → hashed_after m ls ≡ hashed_after m gs → ls ≡ gs
unfolding tail_of head_of
hashed_same m [] [] e = refl
hashed_same m [] (g ∷ gs) e = absurd (omega (arith, ap length e))
hashed_same m (l ∷ ls) [] e = absurd (omega (arith, ap length e))
hashed_same m (l ∷ ls) (g ∷ gs) e =
    let line : l ≡ g = line_same m l g (ap head_of e) in
    let rest = hashed_same (m ++ l ++ 10 ∷ []) ls gs (ap tail_of e ∙ ap (λ (k : List ℕ). hashed_after (m ++ k ++ 10 ∷ []) gs) (sym line)) in
    λ i. line i ∷ rest i

never_wrong : (m found : List ℕ) (rest more : List (List ℕ)) → found ∷ rest ≡ hashed_after m more → ((line : List ℕ) → found ≢ hashed_line m line) → ⊥
unfolding tail_of head_of
never_wrong m found rest [] e wrong = omega (arith, ap length e)
never_wrong m found rest (l ∷ ls) e wrong = wrong l (ap head_of e)

-- a good file has no line with a wrong hash
pub no_wrong_line : (file : List ℕ) (all lines : List (List ℕ)) → lines_in file ≡ hashed all → HasWrongLine file lines → ⊥
no_wrong_line file all lines is w =
    let (front, more, all_is, lines_are) = hashed_front [] all (hashed lines) (w.found ∷ w.rest) (sym w.follows ∙ is) in
    let same : lines ≡ front = hashed_same [] lines front lines_are in
    let both : hashed lines ++ (w.found ∷ w.rest) ≡ hashed lines ++ hashed_after (text_of lines) more =
    sym w.follows ∙ is ∙ ap hashed (all_is ∙ ap (λ (l : List (List ℕ)). l ++ more) (sym same)) ∙ hashed_append [] lines more in
    never_wrong (text_of lines) w.found w.rest more (append_cancel_left (hashed lines) (w.found ∷ w.rest) (hashed_after (text_of lines) more) both) w.wrong
