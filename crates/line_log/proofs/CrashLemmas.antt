-- What a crash leaves of a file of lines.
use Rattle.std.proofs.Common.{◌≡◌, ◌⊎◌, inl, inr, true, false, ℕ, suc, ◌+◌, ◌-◌, ◌^◌, ◌<◌, ◌≤◌, List, [], ◌∷◌, ◌++◌, length, drop, refl, sym, ◌∙◌, ap, subst, arith, append_assoc, length-append, length-drop}
use Rattle.std.proofs.lemmas.List.{append-nil, get_or_append_left, get_or-append_right, get_or-drop}
use Rattle.std.proofs.lemmas.Bool.{cases_eq, cases_lt}
use Rattle.std.specs.Prelude.{◌≢◌, slice_index}
use Rattle.std.specs.List.{AllByRecursion}
use Rattle.line_log.specs.Lines.{lines_in, text_of, IsLogLine, IsBetween}
use Rattle.line_log.specs.Tails.{tail_in, IsTornRest, MayEnd}
use Rattle.line_log.specs.Log.{IsCrashed}
use Rattle.line_log.proofs.TailLemmas.{past_text, filler_first, any_first, any_disk, faded_tail, faded_text_at, torn_tail, IsFadedText}
use Rattle.line_log.proofs.LineLemmas.{shut, lines_of_text, text_append, all_append, text_gate, IsFaded, faded_lines}

pub split_front : (p c : List ℕ) → length p ≤ length c → ((i : ℕ) → i < length p → slice_index c i ≡ slice_index p i) → c ≡ p ++ drop (length p) c
split_front [] c le same = refl
split_front (x ∷ p) [] le same = absurd (omega arith)
split_front (x ∷ p) (y ∷ c) le same =
    let heads : y ≡ x = same 0 (omega arith) in
    let tails = split_front p c (omega arith) (λ i low. same (suc i) (omega arith)) in
    λ i. heads i ∷ tails i

shut_at : (d : List ℕ) → slice_index d 0 ≢ 123 → lines_in d ≡ []
shut_at [] other = refl
shut_at (b ∷ d) other = shut b d other

faded_at : (g d : List ℕ) → length g ≤ length d → ((i : ℕ) → i < length g → (slice_index d i ≡ 30) ⊎ (slice_index d i ≡ slice_index g i)) → slice_index d (length g) ≢ 123 → IsFaded g d
faded_at [] d le each other = shut_at d other
faded_at (b ∷ g) [] le each other = absurd (omega arith)
faded_at (b ∷ g) (c ∷ d) le each other = (each 0 (omega arith), faded_at g d (omega arith) (λ i low. each (suc i) (omega arith)) other)

-- the bytes of a text, with a byte behind it that is no gate
pub record HasText (c : List ℕ) (ls : List (List ℕ)) (end : ℕ) : Type 0 where
  pub within : end < length c
  pub same : (i : ℕ) → i < end → slice_index c i ≡ slice_index (text_of ls) i
  pub other : slice_index c end ≢ 123

module _ (ls : List (List ℕ)) (all : AllByRecursion IsLogLine ls) (end : ℕ) (is : end ≡ length (text_of ls)) where
  -- the lines behind a text
  pub after_text : (c : List ℕ) → end ≤ length c → ((i : ℕ) → i < end → slice_index c i ≡ slice_index (text_of ls) i) → lines_in c ≡ ls ++ lines_in (drop end c)
  after_text c within same =
      let whole : c ≡ text_of ls ++ drop (length (text_of ls)) c = split_front (text_of ls) c (omega (arith, is)) (λ i low. same i (omega (arith, is))) in
      ap lines_in whole ∙ lines_of_text ls (drop (length (text_of ls)) c) all ∙ ap (λ (n : ℕ). ls ++ lines_in (drop n c)) (sym is)

  -- what follows the lines is behind the text
  pub after_tail : (c : List ℕ) → end ≤ length c → ((i : ℕ) → i < end → slice_index c i ≡ slice_index (text_of ls) i) → tail_in c ≡ tail_in (drop end c)
  after_tail c within same =
      let whole : c ≡ text_of ls ++ drop (length (text_of ls)) c = split_front (text_of ls) c (omega (arith, is)) (λ i low. same i (omega (arith, is))) in
      ap tail_in whole ∙ past_text ls (drop (length (text_of ls)) c) all ∙ ap (λ (n : ℕ). tail_in (drop n c)) (sym is)

  -- a filler behind a text
  pub filler_end : (c : List ℕ) → end ≤ length c → length c ≤ end + (2 ^ 24 + 2 ^ 18) → ((i : ℕ) → i < end → slice_index c i ≡ slice_index (text_of ls) i) → (end < length c → slice_index c end ≡ 30) → MayEnd true (tail_in c)
  filler_end c within short same filler =
      let zero_more : end + 0 ≡ end = omega arith in
      subst (MayEnd true) (sym (after_tail c within same))
      (filler_first (drop end c) (omega (arith, short, length-drop end c)) (λ (some : 0 < length (drop end c)). get_or-drop end c 0 0 ∙ ap (slice_index c) zero_more ∙ filler (omega (arith, some, length-drop end c))))

  -- any byte but a gate behind a text
  pub shut_end : (c : List ℕ) → end ≤ length c → length c ≤ end + (2 ^ 24 + 2 ^ 18) → ((i : ℕ) → i < end → slice_index c i ≡ slice_index (text_of ls) i) → slice_index c end ≢ 123 → MayEnd false (tail_in c)
  shut_end c within short same other =
      let zero_more : end + 0 ≡ end = omega arith in
      let head : slice_index (drop end c) 0 ≡ slice_index c end = get_or-drop end c 0 0 ∙ ap (slice_index c) zero_more in
      subst (MayEnd false) (sym (after_tail c within same)) (any_first (drop end c) (omega (arith, short, length-drop end c)) (λ (e : slice_index (drop end c) 0 ≡ 123). other (sym head ∙ e)))

  -- a gate that is shut behind a text
  pub kept : (c : List ℕ) → HasText c ls end → lines_in c ≡ ls
  kept c has =
      let zero_more : end + 0 ≡ end = omega arith in
      let head : slice_index (drop end c) 0 ≡ slice_index c end = get_or-drop end c 0 0 ∙ ap (slice_index c) zero_more in
      after_text c (omega (arith, has.within)) has.same ∙ ap (λ (l : List (List ℕ)). ls ++ l) (shut_at (drop end c) (λ e. has.other (sym head ∙ e))) ∙ append-nil ls

module _ (ls : List (List ℕ)) (all : AllByRecursion IsLogLine ls) (end : ℕ) (is : end ≡ length (text_of ls)) (gs : List (List ℕ)) (more : AllByRecursion IsLogLine gs) (g : List ℕ) (g_is : text_of gs ≡ g) where
  pub joined_length : end + length g ≡ length (text_of (ls ++ gs))
  joined_length = omega (arith, is, ap length (text_append ls gs), length-append (text_of ls) (text_of gs), ap length g_is)

  joined : (i : ℕ) → i < length g → slice_index (text_of (ls ++ gs)) (end + i) ≡ slice_index g i
  joined i low =
      let back : end + i - end ≡ i = omega arith in
      ap (λ (t : List ℕ). slice_index t (end + i)) (text_append ls gs) ∙ get_or-append_right (text_of ls) (text_of gs) end (end + i) 0 (sym is) (omega arith)
      ∙ ap (slice_index (text_of gs)) back ∙ ap (λ (t : List ℕ). slice_index t i) g_is

  front : (i : ℕ) → i < end → slice_index (text_of (ls ++ gs)) i ≡ slice_index (text_of ls) i
  front i low = ap (λ (t : List ℕ). slice_index t i) (text_append ls gs) ∙ get_or_append_left (text_of ls) (text_of gs) 0 i (omega (arith, is))

  -- the text was added
  pub has_both : (c : List ℕ) → end + length g < length c → ((i : ℕ) → i < end → slice_index c i ≡ slice_index (text_of ls) i) → ((i : ℕ) → i < length g → slice_index c (end + i) ≡ slice_index g i)
      → slice_index c (end + length g) ≢ 123 → HasText c (ls ++ gs) (end + length g)
  has_both c within same added other = record {
    within = within;
    same = λ i low. elim (cases_lt i end) [
      | inl before ↦ same i before ∙ sym (front i before)
      | inr after ↦
          let there : end + (i - end) ≡ i = omega arith in
          ap (slice_index c) (sym there) ∙ added (i - end) (omega arith) ∙ sym (joined (i - end) (omega arith)) ∙ ap (slice_index (text_of (ls ++ gs))) there
    ];
    other = other;
  }

  between_old : (c : List ℕ) → lines_in c ≡ ls → IsBetween ls (ls ++ gs) (lines_in c)
  between_old c found = record { no_fewer = ([], append-nil ls ∙ sym found); no_more = (gs, ap (λ (l : List (List ℕ)). l ++ gs) found) }

  between_new : (c : List ℕ) → lines_in c ≡ ls ++ gs → IsBetween ls (ls ++ gs) (lines_in c)
  between_new c found = record { no_fewer = (gs, sym found); no_more = ([], append-nil (lines_in c) ∙ found) }

  -- each byte of the text is there or a filler
  pub faded_after : (c : List ℕ) → end + length g < length c → ((i : ℕ) → i < end → slice_index c i ≡ slice_index (text_of ls) i)
      → ((i : ℕ) → i < length g → (slice_index c (end + i) ≡ 30) ⊎ (slice_index c (end + i) ≡ slice_index g i)) → slice_index c (end + length g) ≢ 123 → IsBetween ls (ls ++ gs) (lines_in c)
  faded_after c within same each other =
      let d = drop end c in
      let at = λ (i : ℕ). get_or-drop end c i 0 in
      let faded : IsFaded g d = faded_at g d (omega (arith, length-drop end c))
      (λ i low. elim (each i low) [ inl filler ↦ inl (get_or-drop end c i 0 ∙ filler) | inr new ↦ inr (get_or-drop end c i 0 ∙ new) ])
      (λ e. other (sym (get_or-drop end c (length g) 0) ∙ e)) in
      let found = faded_lines gs d more (subst (λ (t : List ℕ). IsFaded t d) (sym g_is) faded) in
      let read = after_text ls all end is c (omega arith) same in
      record {
        no_fewer = (lines_in d, sym read);
        no_more = (found.0, ap (λ (l : List (List ℕ)). l ++ found.0) read ∙ append_assoc ls (lines_in d) found.0 ∙ ap (λ (l : List (List ℕ)). ls ++ l) found.1);
      }

  -- each byte of the text is there or a filler, a filler is behind it, and these are the bytes of a torn write
  pub faded_end : (c : List ℕ) → length g ≤ 2 ^ 23 → end + length g < length c → length c ≤ end + (2 ^ 24 + 2 ^ 18) → ((i : ℕ) → i < end → slice_index c i ≡ slice_index (text_of ls) i)
      → ((i : ℕ) → i < length g → (slice_index c (end + i) ≡ 30) ⊎ (slice_index c (end + i) ≡ slice_index g i)) → slice_index c (end + length g) ≡ 30 → IsTornRest (drop end c) → MayEnd true (tail_in c)
  faded_end c few within short same each filler torn =
      let d = drop end c in
      let faded : IsFadedText g d = faded_text_at g d (omega (arith, length-drop end c))
      (λ i low. elim (each i low) [ inl old ↦ inl (get_or-drop end c i 0 ∙ old) | inr new ↦ inr (get_or-drop end c i 0 ∙ new) ])
      (get_or-drop end c (length g) 0 ∙ filler) in
      subst (MayEnd true) (sym (after_tail ls all end is c (omega arith) same)) (torn_tail d (omega (arith, short, length-drop end c)) torn (faded_tail gs d (omega (arith, few, ap length g_is)) more (subst (λ (t : List ℕ). IsFadedText t d) (sym g_is) faded)))

  -- all of the text is there but the gate, which has any byte, and a filler is behind it
  pub gate_after : (c : List ℕ) → 0 < length g → end + length g < length c → length c ≤ end + (2 ^ 24 + 2 ^ 18) → ((i : ℕ) → i < end → slice_index c i ≡ slice_index (text_of ls) i)
      → ((i : ℕ) → 0 < i → i < length g → slice_index c (end + i) ≡ slice_index g i) → slice_index c (end + length g) ≡ 30 → IsCrashed false ls (ls ++ gs) c
  gate_after c some within short same each filler = elim (cases_eq (slice_index c end) 123) [
    | inl open_gate ↦
        let gate : slice_index g 0 ≡ 123 = ap (λ (t : List ℕ). slice_index t 0) (sym g_is) ∙ text_gate gs more (omega (arith, ap length g_is)) in
        let added : (i : ℕ) → i < length g → slice_index c (end + i) ≡ slice_index g i = λ i low. elim (cases_eq i 0) [
          | inl first ↦
              let here : end + i ≡ end = omega arith in
              ap (slice_index c) here ∙ open_gate ∙ sym gate ∙ ap (slice_index g) (sym first)
          | inr later ↦ each i (omega arith) low
        ] in
        let no_gate : slice_index c (end + length g) ≢ 123 = λ e. omega (arith, filler, e) in
        let both = has_both c within same added no_gate in
        record {
          lines = between_new c (kept (ls ++ gs) (all_append ls gs all more) (end + length g) joined_length c both);
          end = any_disk false (tail_in c) (filler_end (ls ++ gs) (all_append ls gs all more) (end + length g) joined_length c (omega arith) (omega (arith, short)) both.same (λ (some : end + length g < length c). filler));
        }
    | inr shut_gate ↦ record {
      lines = between_old c (kept ls all end is c (record { within = omega arith; same = same; other = shut_gate }));
      end = shut_end ls all end is c (omega arith) short same shut_gate;
    }
  ]

  -- all of the text is there
  pub added_whole : (c : List ℕ) → end + length g < length c → ((i : ℕ) → i < end → slice_index c i ≡ slice_index (text_of ls) i) → ((i : ℕ) → i < length g → slice_index c (end + i) ≡ slice_index g i)
      → slice_index c (end + length g) ≢ 123 → lines_in c ≡ ls ++ gs
  added_whole c within same added other = kept (ls ++ gs) (all_append ls gs all more) (end + length g) joined_length c (has_both c within same added other)
