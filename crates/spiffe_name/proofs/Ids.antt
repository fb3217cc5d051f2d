-- What the table of refusals says about the parts of a text.
use Rattle.std.proofs.Common.{ltb, zero, suc, lit<, ◌≡◌, ℕ, ◌<◌, ◌≤◌, ◌+◌, Bool, true, false, ◌||◌, List, [], ◌∷◌, ◌++◌, length, get_or, take, drop, Option, None, Some, refl, sym, ap, ◌∙◌, arith, nat_eq, slice_index, not, length-drop, length-append, codes}
use Rattle.std.specs.List.{AllByRecursion, All, slice_split, position_or_len, list_all, join_with_byte, starts_with}
use Rattle.std.specs.Option.{is_some}
use Rattle.std.proofs.lemmas.Bool.Decides.{nat_tests, Decides-eqb}
use Rattle.std.proofs.lemmas.Slice.Eq.{starts_is}
use Rattle.std.proofs.lemmas.Bool.{false≢true, ltb-false, ltb-true}
use Rattle.std.proofs.lemmas.List.Folds.{list_all-append}
use Rattle.std.proofs.lemmas.List.{append-nil}
use Rattle.std.proofs.lemmas.List.Elements.{All-from_get_or, All-get_or}
use Rattle.std.proofs.lemmas.List.Sums.{AllPass-from_list_all, fails_before_first}
use Rattle.std.proofs.lemmas.List.Splits.{slice_split_first, slice_split_none, slice_split_at, join_with_byte-slice_split}
use Rattle.spiffe_name.specs.Domain.{is_domain_byte, IsDomain, domain_refusal}
use Rattle.spiffe_name.proofs.Tables.{both_true, bytes_eq-differ, if_false, if_not, is_not, not_above, not_some, not_zero, zero_not}
use Rattle.std.proofs.Math.Seq.{take-append_seam, drop-append_seam, drop-append-add}
use Rattle.std.proofs.lemmas.List.Sums.{prefix_len-le-length}
use Rattle.spiffe_name.proofs.Domains.{IsDomain-from_none, none_from_IsDomain}
use Rattle.std.specs.Prelude.{bytes_eq}
use Rattle.spiffe_name.specs.Id.{is_slash, server_segments, is_path_byte, IsSegment, Spells, path_text, prefix, or_else, segment_refusal, segments_refusal, parts_refusal, id_refusal, domain_of, path_of, server_text}

-- ---- the results of the two calls in the code

pub or_else-none : {A : Type 0} (o : Option A) → or_else o None ≡ o
or_else-none (Some x) = refl
or_else-none None = refl

pub or_else-some : {A : Type 0} (o p : Option A) (x : A) → o ≡ Some x → or_else o p ≡ Some x
or_else-some o p x e = ap (λ q. or_else q p) e

pub or_else-none_left : {A : Type 0} (o p : Option A) → o ≡ None → or_else o p ≡ p
or_else-none_left o p e = ap (λ q. or_else q p) e

pub or_else-left : {A : Type 0} (o p : Option A) → is_some o ≡ true → or_else o p ≡ o
or_else-left (Some x) p e = refl
or_else-left None p e = cc

pub or_else-right : {A : Type 0} (o p : Option A) → is_some o ≡ false → or_else o p ≡ p
or_else-right (Some x) p e = cc
or_else-right None p e = refl

pub parts_refusal-whole : (xs : List ℕ) → position_or_len is_slash xs ≡ length xs → parts_refusal (slice_split is_slash xs) ≡ domain_refusal xs
parts_refusal-whole xs e =
    let none : All (λ x. is_slash x ≡ false) xs = All-from_get_or (λ x. is_slash x ≡ false) xs 0 (λ i l. fails_before_first is_slash xs i 0 (omega arith)) in
    ap parts_refusal (slice_split_none is_slash xs none) ∙ or_else-none (domain_refusal xs)

pub parts_refusal-cut : (xs : List ℕ) (n : ℕ) → n ≡ position_or_len is_slash xs → n < length xs → parts_refusal (slice_split is_slash xs) ≡ or_else (domain_refusal (take n xs)) (segments_refusal (slice_split is_slash (drop (n + 1) xs)))
parts_refusal-cut xs n e l = rw e (ap parts_refusal (slice_split_first is_slash xs 0 (omega (arith, e))))

pub ruleset parts_lemmas = (or_else-none, or_else-left, or_else-right, parts_refusal-whole, parts_refusal-cut)

-- ---- a text that spells an ID is not refused

not_slash : (b : ℕ) → is_path_byte b ≡ true → is_slash b ≡ false
not_slash b h = grind (arith, nat_tests)

no_slash : (xs : List ℕ) → list_all is_path_byte xs ≡ true → All (λ x. is_slash x ≡ false) xs
no_slash xs h = All-from_get_or (λ x. is_slash x ≡ false) xs 0 (λ i l. not_slash (get_or xs i 0) (All-get_or (λ x. is_path_byte x ≡ true) xs i 0 l (AllPass-from_list_all is_path_byte xs h)))

slice_split-path : (d : List ℕ) (ss : List (List ℕ)) → list_all is_path_byte d ≡ true → AllByRecursion IsSegment ss → slice_split is_slash (d ++ path_text ss) ≡ d ∷ ss
slice_split-path d [] h k = rw append-nil (slice_split_none is_slash d (no_slash d h))
slice_split-path d (s ∷ ss) h k = slice_split_at is_slash d 47 (s ++ path_text ss) (no_slash d h) refl ∙ ap (λ p. d ∷ p) (slice_split-path s ss k.0.bytes k.1)

join-path : (d : List ℕ) (ss : List (List ℕ)) → join_with_byte 47 (d ∷ ss) ≡ d ++ path_text ss
join-path d [] = sym (append-nil d)
join-path d (s ∷ ss) = ap (λ x. d ++ 47 ∷ x) (join-path s ss)

both_none : {A : Type 0} (o p : Option A) → or_else o p ≡ None → (o ≡ None) × (p ≡ None)
both_none (Some x) p e = cc
both_none None p e = (refl, e)

-- ---- a segment is valid exactly if it isn't refused

abbrev dots : List ℕ → Bool
dots s = bytes_eq s (codes ".") || bytes_eq s (codes "..")

IsSegment-from_none : (s : List ℕ) → segment_refusal s ≡ None → IsSegment s
unfolding segment_refusal
IsSegment-from_none s e =
    let a = not_some _ _ _ e in
    let b = not_some _ _ _ a.1 in
    record { full = not_zero _ a.0; no_dot = λ k. false≢true (sym b.0 ∙ ap dots k); no_dots = λ k. false≢true (sym b.0 ∙ ap dots k); bytes = (is_not _ _ _ b.1).0 }

both_false : (a b : Bool) → a ≡ false → b ≡ false → (a || b) ≡ false
both_false a b g h = ap (λ v. v || b) g ∙ h

none_from_IsSegment : (s : List ℕ) → IsSegment s → segment_refusal s ≡ None
unfolding segment_refusal
none_from_IsSegment s h = if_false _ _ _ (zero_not _ h.full) ∙ (if_false _ _ _ (both_false _ _ (bytes_eq-differ s (codes ".") h.no_dot) (bytes_eq-differ s (codes "..") h.no_dots)) ∙ if_not _ _ _ h.bytes)

IsSegments-from_none : (ss : List (List ℕ)) → segments_refusal ss ≡ None → AllByRecursion IsSegment ss
IsSegments-from_none [] e = tt
IsSegments-from_none (s ∷ ss) e = let b = both_none _ _ e in (IsSegment-from_none s b.0, IsSegments-from_none ss b.1)

none_from_IsSegments : (ss : List (List ℕ)) → AllByRecursion IsSegment ss → segments_refusal ss ≡ None
none_from_IsSegments [] h = refl
none_from_IsSegments (s ∷ ss) h = or_else-none_left _ _ (none_from_IsSegment s h.0) ∙ none_from_IsSegments ss h.1

-- ---- both directions

tests_prefix : (text : List ℕ) → (starts_with nat_eq text prefix ≡ true → text ≡ prefix ++ drop 9 text) × ((rest : List ℕ) → text ≡ prefix ++ rest → starts_with nat_eq text prefix ≡ true)
tests_prefix text = starts_is Decides-eqb text prefix (starts_with nat_eq text prefix) refl

path_byte : (b : ℕ) → is_domain_byte b ≡ true → is_path_byte b ≡ true
path_byte b h = rw h refl

path_bytes : (d : List ℕ) → list_all is_domain_byte d ≡ true → list_all is_path_byte d ≡ true
path_bytes [] h = refl
path_bytes (b ∷ d) h = let k = both_true _ _ h in rw (path_byte b k.0, path_bytes d k.1) refl

parts_spelled : (text : List ℕ) (parts : List (List ℕ)) → parts_refusal parts ≡ None → text ≡ prefix ++ drop 9 text → join_with_byte 47 parts ≡ drop 9 text → length text ≤ 2048 → (d : List ℕ) × (ss : List (List ℕ)) × Spells text d ss
parts_spelled text [] n e j l = cc
parts_spelled text (d ∷ ss) n e j l =
    let b = both_none _ _ n in
    (d, ss, record { joined = e ∙ ap (λ r. prefix ++ r) (sym j ∙ join-path d ss); fits = l; is_domain = IsDomain-from_none d b.0; are_segments = IsSegments-from_none ss b.1 })

pub Spells-from_none : (text : List ℕ) → id_refusal text ≡ None → (d : List ℕ) × (ss : List (List ℕ)) × Spells text d ss
unfolding id_refusal
Spells-from_none text e =
    let a = not_some _ _ _ e in
    let b = is_not _ _ _ a.1 in
    parts_spelled text (slice_split is_slash (drop 9 text)) b.1 ((tests_prefix text).0 b.0) (join_with_byte-slice_split 47 (drop 9 text)) (ltb-false _ _ a.0)

pub none_from_Spells : (text d : List ℕ) (ss : List (List ℕ)) → Spells text d ss → id_refusal text ≡ None
unfolding id_refusal
none_from_Spells text d ss h =
    if_false _ _ _ (not_above _ _ h.fits) ∙ (if_not _ _ _ ((tests_prefix text).1 (d ++ path_text ss) h.joined) ∙ (ap (λ t. parts_refusal (slice_split is_slash (drop 9 t))) h.joined ∙ (ap parts_refusal (slice_split-path d ss (path_bytes d h.is_domain.bytes) h.are_segments) ∙ (or_else-none_left _ _ (none_from_IsDomain d h.is_domain) ∙ none_from_IsSegments ss h.are_segments))))

-- ---- an ID is ASCII

abbrev ascii : ℕ → Bool
ascii b = ltb b 128

ascii_byte : (b : ℕ) → is_path_byte b ≡ true → ascii b ≡ true
ascii_byte b h = grind (arith, nat_tests)

ascii_bytes : (d : List ℕ) → list_all is_path_byte d ≡ true → list_all ascii d ≡ true
ascii_bytes [] h = refl
ascii_bytes (b ∷ d) h = let k = both_true _ _ h in rw (ascii_byte b k.0, ascii_bytes d k.1) refl

ascii_path : (ss : List (List ℕ)) → AllByRecursion IsSegment ss → list_all ascii (path_text ss) ≡ true
ascii_path [] h = refl
ascii_path (s ∷ ss) h = list_all-append ascii s (path_text ss) ∙ rw (ascii_bytes s h.0.bytes, ascii_path ss h.1) refl

pub ascii-from_none : (text : List ℕ) → id_refusal text ≡ None → list_all ascii text ≡ true
ascii-from_none text e =
    let w = Spells-from_none text e in
    ap (list_all ascii) w.2.joined ∙ (list_all-append ascii w.0 (path_text w.1) ∙ rw (ascii_bytes w.0 (path_bytes w.0 w.2.is_domain.bytes), ascii_path w.1 w.2.are_segments) refl)

at_any : (text : List ℕ) (i : ℕ) → list_all ascii text ≡ true → slice_index text i < 128
at_any [] i h = lit< tt
at_any (b ∷ text) zero h = ltb-true _ _ (both_true _ _ h).0
at_any (b ∷ text) (suc i) h = at_any text i (both_true _ _ h).1

pub ascii_at : (text : List ℕ) (i : ℕ) → id_refusal text ≡ None → slice_index text i < 128
ascii_at text i e = at_any text i (ascii-from_none text e)

pub long_enough : (text : List ℕ) → id_refusal text ≡ None → 9 ≤ length text
long_enough text e = let w = Spells-from_none text e in omega (arith, ap length w.2.joined)

-- ---- the parts of an ID

position-path : (d : List ℕ) (ss : List (List ℕ)) → list_all is_domain_byte d ≡ true → position_or_len is_slash (d ++ path_text ss) ≡ length d
position-path [] [] h = refl
position-path [] (s ∷ ss) h = refl
position-path (b ∷ d) ss h =
    let k = both_true _ _ h in
    let e = position-path d ss k.1 in
    rw (not_slash b (path_byte b k.0), e) (omega arith)

pub domain_of-Spells : (text d : List ℕ) (ss : List (List ℕ)) → Spells text d ss → domain_of text ≡ d
domain_of-Spells text d ss h =
    ap domain_of h.joined ∙ (ap (λ n. take n (d ++ path_text ss)) (position-path d ss h.is_domain.bytes) ∙ take-append_seam d (path_text ss))

pub path_of-Spells : (text d : List ℕ) (ss : List (List ℕ)) → Spells text d ss → path_of text ≡ path_text ss
path_of-Spells text d ss h =
    ap (λ e. drop (9 + length e) text) (domain_of-Spells text d ss h) ∙ (ap (drop (9 + length d)) h.joined ∙ (drop-append-add prefix (d ++ path_text ss) (length d) ∙ drop-append_seam d (path_text ss)))

-- the domain ends within the text
pub domain_end-within : (text : List ℕ) → id_refusal text ≡ None → 9 + position_or_len is_slash (drop 9 text) ≤ length text
domain_end-within text e = omega (arith, long_enough text e, prefix_len-le-length (λ b. not (is_slash b)) (drop 9 text), length-drop 9 text)

-- ---- the server's ID

segments_pass : segments_refusal server_segments ≡ None
unfolding segment_refusal
segments_pass = refl

pub server_text-spelled : (d : List ℕ) → IsDomain d → Spells (server_text d) d server_segments
server_text-spelled d h =
    let l : length d ≤ 255 = h.short in
    record {
      joined = refl;
      fits = simp length-append (omega arith);
      is_domain = h;
      are_segments = IsSegments-from_none server_segments segments_pass;
    }

pub server_text-none : (d : List ℕ) → IsDomain d → id_refusal (server_text d) ≡ None
server_text-none d h = none_from_Spells (server_text d) d server_segments (server_text-spelled d h)

-- ---- one list of segments

parts-Spells : (text d : List ℕ) (ss : List (List ℕ)) → Spells text d ss → slice_split is_slash (drop 9 text) ≡ d ∷ ss
parts-Spells text d ss h = ap (λ t. slice_split is_slash (drop 9 t)) h.joined ∙ slice_split-path d ss (path_bytes d h.is_domain.bytes) h.are_segments

pub segments-Spells : (text d e : List ℕ) (ss ts : List (List ℕ)) → Spells text d ss → Spells text e ts → ss ≡ ts
segments-Spells text d e ss ts g h = let p = parts-Spells text d ss g in let q = parts-Spells text e ts h in cc
