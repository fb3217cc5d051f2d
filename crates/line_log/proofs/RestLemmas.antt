-- What was found in the bytes that follow a line that is broken.
use Rattle.std.proofs.Common.{◌≡◌, inl, inr, ℕ, ◌+◌, ◌-◌, ◌^◌, ◌<◌, ◌≤◌, List, length, drop, sym, ◌∙◌, ap, arith, length-drop}
use Rattle.std.proofs.lemmas.Bool.{cases_lt}
use Rattle.std.proofs.lemmas.List.{get_or-drop}
use Rattle.std.specs.Prelude.{◌≢◌, slice_index}
use Rattle.line_log.specs.Lines.{lines_in, text_of}
use Rattle.line_log.specs.Log.{IsCutOff}
use Rattle.line_log.specs.Tails.{IsTornRest}
use Rattle.line_log.specs.TornRestPrivate.{HasEnd, HasLineEnd}

module _ (file block : List ℕ) (from at : ℕ) (same : (i : ℕ) → i < length block → slice_index file (at + i) ≡ slice_index block i) where
  in_block : (i : ℕ) → at ≤ i → i < at + length block → slice_index file i ≡ slice_index block (i - at)
  in_block i behind low =
      let there : at + (i - at) ≡ i = omega arith in
      ap (slice_index file) (sym there) ∙ same (i - at) (omega arith)

  pub end_more : (end used : ℕ) → HasEnd file from at end → used ≤ length block → ((i : ℕ) → used ≤ i → i < length block → slice_index block i ≡ 30) → slice_index block (used - 1) ≢ 30 → 0 < used
      → HasEnd file from (at + length block) (at + used)
  end_more end used has within filler last some = record {
    above = omega (arith, has.above, has.below);
    below = omega (arith, within);
    filler = λ i past low. in_block i (omega arith) low ∙ filler (i - at) (omega arith) (omega arith);
    last = λ more is.
        let back : at + used - 1 - at ≡ used - 1 = omega (arith, some) in
        last (ap (slice_index block) (sym back) ∙ sym (in_block (at + used - 1) (omega (arith, some)) (omega (arith, some, within))) ∙ is);
  }

  pub end_same : (end : ℕ) → HasEnd file from at end → ((i : ℕ) → i < length block → slice_index block i ≡ 30) → HasEnd file from (at + length block) end
  end_same end has filler = record {
    above = has.above;
    below = omega (arith, has.below);
    filler = λ i past low. elim (cases_lt i at) [ inl before ↦ has.filler i past before | inr new ↦ in_block i new low ∙ filler (i - at) (omega arith) ];
    last = has.last;
  }

  module _ (len : ℕ) (inside : at + length block ≤ len) where
    pub line_found : (end n : ℕ) → HasLineEnd file from at len end → len ≤ end → 0 < n → n ≤ length block → slice_index block (n - 1) ≡ 10 → ((i : ℕ) → i + 1 < n → slice_index block i ≢ 10)
        → HasLineEnd file from (at + length block) len (at + n)
    line_found end n has none some within lf before = record {
      start = omega (arith, has.start);
      within = omega (arith, within, inside);
      behind = λ low. omega (arith, within);
      above = λ low. omega (arith, has.start, some);
      last = λ low.
          let back : at + n - 1 - at ≡ n - 1 = omega (arith, some) in
          in_block (at + n - 1) (omega (arith, some)) (omega (arith, some, within)) ∙ ap (slice_index block) back ∙ lf;
      before = λ i past low first. elim (cases_lt i at) [
        | inl old ↦ has.before i past old (omega (arith, first, within, inside, none))
        | inr new ↦ λ is. before (i - at) (omega (arith, first, new)) (sym (in_block i new low) ∙ is)
      ];
    }

    pub line_none : (end : ℕ) → HasLineEnd file from at len end → len ≤ end → ((i : ℕ) → i < length block → slice_index block i ≢ 10) → HasLineEnd file from (at + length block) len end
    line_none end has none no_lf = record {
      start = omega (arith, has.start);
      within = has.within;
      behind = λ low. omega (arith, low, none);
      above = has.above;
      last = has.last;
      before = λ i past low first. elim (cases_lt i at) [
        | inl old ↦ has.before i past old first
        | inr new ↦ λ is. no_lf (i - at) (omega (arith, new, low)) (sym (in_block i new low) ∙ is)
      ];
    }

  pub line_kept : (len end : ℕ) → HasLineEnd file from at len end → end < len → HasLineEnd file from (at + length block) len end
  line_kept len end has low_end = record {
    start = omega (arith, has.start);
    within = has.within;
    behind = λ low. omega (arith, has.behind low);
    above = has.above;
    last = has.last;
    before = λ i past low first. elim (cases_lt i at) [
      | inl old ↦ has.before i past old first
      | inr new ↦ absurd (omega (arith, has.behind low_end, first, new))
    ];
  }

module _ (file : List ℕ) (from len end line : ℕ) (all : len ≡ length file) (has : HasEnd file from len end) (first : HasLineEnd file from len len line) where
  at_rest : (i : ℕ) → slice_index (drop from file) i ≡ slice_index file (from + i)
  at_rest i = get_or-drop from file i 0

  pub torn_not : from + 2 ^ 16 < end → line < end → IsTornRest (drop from file) → ⊥
  torn_not far behind torn =
      let there : from + (end - 1 - from) ≡ end - 1 = omega (arith, far) in
      let low : end - 1 - from < length (drop from file) = omega (arith, far, has.below, all, length-drop from file) in
      let is : slice_index (drop from file) (end - 1 - from) ≡ slice_index file (end - 1) = at_rest (end - 1 - from) ∙ ap (slice_index file) there in
      let other = has.last (omega (arith, far)) in
      elim torn [
        | inl few ↦ other (sym is ∙ few (end - 1 - from) (omega (arith, far)) low)
        | inr one ↦
            let found : line < len = omega (arith, behind, has.below) in
            let here : from + (line - 1 - from) ≡ line - 1 = omega (arith, first.above found) in
            let lf : slice_index (drop from file) (line - 1 - from) ≡ 10 = at_rest (line - 1 - from) ∙ ap (slice_index file) here ∙ first.last found in
            other (sym is ∙ one (line - 1 - from) (end - 1 - from) (omega (arith, behind, first.above found)) low lf)
      ]

-- what follows the lines of a file
pub is_cut : (file : List ℕ) (at cut : ℕ) → at ≡ length (text_of (lines_in file)) → HasEnd file at (length file) (at + cut) → IsCutOff file cut
is_cut file at cut at_is has = record {
  filler = λ i past low. has.filler i (omega (arith, at_is, past)) low;
  last = λ some is.
      let here : at + cut - 1 ≡ length (text_of (lines_in file)) + cut - 1 = omega (arith, at_is) in
      has.last (omega (arith, some)) (ap (slice_index file) here ∙ is);
}
