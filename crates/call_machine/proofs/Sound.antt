-- The invariant of a machine's calls.
use Rattle.std.proofs.Common.{◌≡◌, ◌≢◌, ◌↔◌, ℕ, ◌+◌, ◌<◌, ◌≤◌, true, false, ◌⊎◌, List, [], ◌∷◌, ◌++◌, length, take, Some, IsSome, sym, ap, subst, ◌∙◌, inl, inr, ⊎_elim, arith}
use Rattle.std.specs.Prelude.{map}
use Rattle.std.proofs.lemmas.Bool.{both_ways}
use Rattle.std.proofs.lemmas.List.{append-nil}
use Rattle.std.proofs.Math.Seq.{take-append_seam}
use Rattle.entry_book.specs.Order.{Within}
use Rattle.entry_book.specs.Batches.{Batch}
use Rattle.entry_book.proofs.Sets.{within_left, within_right, from_within_append}
use Rattle.call_machine.specs.Schedules.{Different}
use Rattle.call_machine.specs.Calls.{Call, MachineState, with_call, moved, answer_of}
use Rattle.call_machine.specs.Kept.{AscendingTurns, number_of}
use Rattle.call_machine.proofs.Lists.{split_at}
use Rattle.call_machine.proofs.Rows.{same_call, within_new, within_other, from_with_call, numbers-with_call, one_number_more}
use Rattle.call_machine.proofs.Line.{entered, journal_in, journal-append, StageFits, Fits, fits_replaced, journal_replaced, fits_without, journal_without, fits_snoc, fits_at, turns_replaced, turns_without, turns_snoc, not_in_front, not_in_rest, is_begun}

-- ---- the numbers that a call holds, after this number of accepted events

pub record Stamped (count : ℕ) (c : Call) : Type 0 where
  pub invoked : c.invoked ≤ count
  pub begun : is_begun c.stage ≡ true → (c.invoked < c.turn) × (c.turn ≤ count)
  pub over : (n : ℕ) → c.replied ≡ Some n → (n ≤ count) × IsSome (answer_of c.stage) × (is_begun c.stage ≡ true → c.turn < n)

pub stamped_more : (count : ℕ) (c : Call) → Stamped count c → Stamped (count + 1) c
stamped_more count c s = record {
  invoked = let h = s.invoked in omega arith;
  begun = λ b. let h = s.begun b in (h.0, let k = h.1 in omega arith);
  over = λ n e. let h = s.over n e in (let k = h.0 in omega arith, h.1, h.2);
}

-- ---- all together

pub record Sound (s : MachineState) : Type 0 where
  -- the calls that have begun and met no conflict, in the order of their turns
  pub line : List Call
  pub members : (c : Call) → Within line c ↔ (Within s.calls c × (is_begun c.stage ≡ true))
  pub turns : AscendingTurns line
  pub fits : Fits [] line
  pub journal : s.journal ≡ journal_in line
  pub numbers : Different (map number_of s.calls)
  pub stamped : (c : Call) → Within s.calls c → Stamped s.count c

-- the line without a call's number
abbrev IsRest : List Call → ℕ → List Call → Type 0
IsRest calls n rest = (x : Call) → Within rest x ↔ (Within calls x × (is_begun x.stage ≡ true) × (x.number ≢ n))

rest_same : (calls line : List Call) (r : Call) → Different (map number_of calls) → ((c : Call) → Within line c ↔ (Within calls c × (is_begun c.stage ≡ true))) → Within calls r → is_begun r.stage ≡ false → IsRest calls r.number line
rest_same calls line r d m w b x = (
  λ v. let q = (m x).0 v in (q.0, q.1, λ e. both_ways (is_begun x.stage) (ap (λ (c : Call). is_begun c.stage) (same_call calls x r d q.0 w e) ∙ b) q.1),
  λ v. (m x).1 (v.0, v.1),
)

rest_of_line : (calls xs ys : List Call) (r : Call) → Different (map number_of calls) → ((c : Call) → Within (xs ++ r ∷ ys) c ↔ (Within calls c × (is_begun c.stage ≡ true))) → AscendingTurns (xs ++ r ∷ ys) → Within calls r → IsRest calls r.number (xs ++ ys)
rest_of_line calls xs ys r d m a w x = (
  λ v.
      let u : Within (xs ++ r ∷ ys) x = ⊎_elim (λ l. within_left xs (r ∷ ys) x l) (λ k. within_right xs (r ∷ ys) x (inr k)) (from_within_append xs ys x v) in
      let q = (m x).0 u in (
        q.0,
        q.1,
        λ e.
            let i : x ≡ r = same_call calls x r d q.0 w e in
            ⊎_elim
            (λ l. not_in_front xs ys r a (subst (Within xs) i l))
            (λ k. not_in_rest xs ys r a (subst (Within ys) i k))
            (from_within_append xs ys x v),
      ),
  λ v. ⊎_elim
      (λ l. within_left xs ys x l)
      (λ k. ⊎_elim (λ e. absurd (v.2 (ap number_of (sym e)))) (λ j. within_right xs ys x j) k)
      (from_within_append xs (r ∷ ys) x ((m x).1 (v.0, v.1))),
)

members_with : (calls rest line : List Call) (r c : Call) → Different (map number_of calls) → Within calls r → c.number ≡ r.number → IsRest calls r.number rest → is_begun c.stage ≡ true → ((x : Call) → Within line x ↔ ((x ≡ c) ⊎ Within rest x)) → (x : Call) → Within line x ↔ (Within (with_call c calls) x × (is_begun x.stage ≡ true))
members_with calls rest line r c d w n h b l x = (
  λ v. ⊎_elim
      (λ e. (subst (Within (with_call c calls)) (sym e) (within_new c calls r w (sym n)), ap (λ (t : Call). is_begun t.stage) e ∙ b))
      (λ k. let q = (h x).0 k in (within_other c calls x q.0 (λ e. q.2 (e ∙ n)), q.1))
      ((l x).0 v),
  λ v. (l x).1 (⊎_elim (λ e. inl e) (λ q. inr ((h x).1 (q.0, v.1, λ e. q.1 (e ∙ sym n)))) (from_with_call c calls x d v.0)),
)

members_without : (calls rest : List Call) (r c : Call) → Different (map number_of calls) → Within calls r → c.number ≡ r.number → IsRest calls r.number rest → is_begun c.stage ≡ false → (x : Call) → Within rest x ↔ (Within (with_call c calls) x × (is_begun x.stage ≡ true))
members_without calls rest r c d w n h b x = (
  λ v. let q = (h x).0 v in (within_other c calls x q.0 (λ e. q.2 (e ∙ n)), q.1),
  λ v. ⊎_elim
      (λ e. absurd (both_ways (is_begun x.stage) (ap (λ (t : Call). is_begun t.stage) e ∙ b) v.1))
      (λ q. (h x).1 (q.0, v.1, λ e. q.1 (e ∙ sym n)))
      (from_with_call c calls x d v.0),
)

stamped_with : (count : ℕ) (calls : List Call) (c : Call) → Different (map number_of calls) → ((x : Call) → Within calls x → Stamped count x) → Stamped (count + 1) c → (x : Call) → Within (with_call c calls) x → Stamped (count + 1) x
stamped_with count calls c d h k x w = ⊎_elim (λ e. subst (Stamped (count + 1)) (sym e) k) (λ q. stamped_more count x (h x q.0)) (from_with_call c calls x d w)

different_with : (calls : List Call) (c : Call) → Different (map number_of calls) → Different (map number_of (with_call c calls))
different_with calls c d = subst Different (sym (numbers-with_call c calls)) d

within_middle : (xs ys : List Call) (c x : Call) → Within (xs ++ c ∷ ys) x ↔ ((x ≡ c) ⊎ Within (xs ++ ys) x)
within_middle xs ys c x = (
  λ v. ⊎_elim (λ l. inr (within_left xs ys x l)) (λ k. ⊎_elim (λ e. inl (sym e)) (λ j. inr (within_right xs ys x j)) k) (from_within_append xs (c ∷ ys) x v),
  λ v. ⊎_elim (λ e. within_right xs (c ∷ ys) x (inl (sym e))) (λ k. ⊎_elim (λ l. within_left xs (c ∷ ys) x l) (λ j. within_right xs (c ∷ ys) x (inr j)) (from_within_append xs ys x k)) v,
)

within_snoc : (xs : List Call) (c x : Call) → Within (xs ++ c ∷ []) x ↔ ((x ≡ c) ⊎ Within xs x)
within_snoc xs c x = (
  λ v. ⊎_elim (λ l. inr l) (λ k. ⊎_elim (λ e. inl (sym e)) (λ j. absurd j) k) (from_within_append xs (c ∷ []) x v),
  λ v. ⊎_elim (λ e. within_right xs (c ∷ []) x (inl (sym e))) (λ k. within_left xs (c ∷ []) x k) v,
)

-- ---- the steps

-- a call that isn't in the line, before and after
pub kept_aside : (s : MachineState) (r c : Call) → Sound s → Within s.calls r → c.number ≡ r.number → is_begun r.stage ≡ false → is_begun c.stage ≡ false → Stamped (s.count + 1) c → Sound (moved c s)
kept_aside s r c h w n b d k = record {
  line = h.line;
  members = members_without s.calls h.line r c h.numbers w n (rest_same s.calls h.line r h.numbers h.members w b) d;
  turns = h.turns;
  fits = h.fits;
  journal = h.journal;
  numbers = different_with s.calls c h.numbers;
  stamped = stamped_with s.count s.calls c h.numbers h.stamped k;
}

-- a call joins the line at its end
pub joined : (s : MachineState) (r c : Call) → Sound s → Within s.calls r → c.number ≡ r.number → is_begun r.stage ≡ false → is_begun c.stage ≡ true → entered c.stage c.batch ≡ [] → c.turn ≡ s.count + 1 → StageFits c.stage c.batch s.journal → Stamped (s.count + 1) c → Sound (moved c s)
joined s r c h w n b d e t f k = record {
  line = h.line ++ c ∷ [];
  members = members_with s.calls h.line (h.line ++ c ∷ []) r c h.numbers w n (rest_same s.calls h.line r h.numbers h.members w b) d (within_snoc h.line c);
  turns = turns_snoc h.line c h.turns (λ x v. let q = (h.members x).0 v in let p = ((h.stamped x q.0).begun q.1).1 in omega arith);
  fits = fits_snoc h.line c h.fits (subst (StageFits c.stage c.batch) h.journal f);
  journal = h.journal ∙ sym (journal-append h.line (c ∷ []) ∙ (ap (λ l. journal_in h.line ++ (l ++ [])) e ∙ append-nil (journal_in h.line)));
  numbers = different_with s.calls c h.numbers;
  stamped = stamped_with s.count s.calls c h.numbers h.stamped k;
}

-- the line before and after a call that has begun
record Round (s : MachineState) (r : Call) : Type 0 where
  front : List Call
  rest : List Call
  members : (c : Call) → Within (front ++ r ∷ rest) c ↔ (Within s.calls c × (is_begun c.stage ≡ true))
  turns : AscendingTurns (front ++ r ∷ rest)
  fits : Fits [] (front ++ r ∷ rest)
  journal : s.journal ≡ journal_in (front ++ r ∷ rest)

round : (s : MachineState) (r : Call) → Sound s → Within s.calls r → is_begun r.stage ≡ true → Round s r
round s r h w b =
    let p = split_at h.line r ((h.members r).1 (w, b)) in
    record {
      front = p.front;
      rest = p.rest;
      members = λ c. subst (λ l. Within l c ↔ (Within s.calls c × (is_begun c.stage ≡ true))) p.is (h.members c);
      turns = subst AscendingTurns p.is h.turns;
      fits = subst (Fits []) p.is h.fits;
      journal = h.journal ∙ ap journal_in p.is;
    }

-- a call keeps its index in the line
pub stayed : (s : MachineState) (r c : Call) → Sound s → Within s.calls r → c.number ≡ r.number → is_begun r.stage ≡ true → is_begun c.stage ≡ true → entered c.stage c.batch ≡ entered r.stage r.batch → c.turn ≡ r.turn → ((journal : List Batch) → take (length journal) s.journal ≡ journal → StageFits r.stage r.batch journal → StageFits c.stage c.batch journal) → Stamped (s.count + 1) c → Sound (moved c s)
stayed s r c h w n b d e t f k =
    let o = round s r h w b in
    let seam : take (length (journal_in o.front)) s.journal ≡ journal_in o.front =
    ap (take (length (journal_in o.front))) (o.journal ∙ journal-append o.front (r ∷ o.rest)) ∙ take-append_seam (journal_in o.front) (journal_in (r ∷ o.rest)) in
    record {
      line = o.front ++ c ∷ o.rest;
      members = members_with s.calls (o.front ++ o.rest) (o.front ++ c ∷ o.rest) r c h.numbers w n (rest_of_line s.calls o.front o.rest r h.numbers o.members o.turns w) d (within_middle o.front o.rest c);
      turns = turns_replaced o.front o.rest r c o.turns t;
      fits = fits_replaced o.front o.rest r c o.fits e (f (journal_in o.front) seam (fits_at o.front o.rest r o.fits));
      journal = o.journal ∙ sym (journal_replaced o.front o.rest r c e);
      numbers = different_with s.calls c h.numbers;
      stamped = stamped_with s.count s.calls c h.numbers h.stamped k;
    }

-- a call moves to the end of the line, and may enter the journal
pub went_last : (s : MachineState) (r c : Call) → Sound s → Within s.calls r → c.number ≡ r.number → is_begun r.stage ≡ true → is_begun c.stage ≡ true → entered r.stage r.batch ≡ [] → c.turn ≡ s.count + 1 → StageFits c.stage c.batch s.journal → Stamped (s.count + 1) c → Sound (record (moved c s) { journal = s.journal ++ entered c.stage c.batch })
went_last s r c h w n b d e t f k =
    let o = round s r h w b in
    let same : s.journal ≡ journal_in (o.front ++ o.rest) = o.journal ∙ sym (journal_without o.front o.rest r e) in
    let rest = rest_of_line s.calls o.front o.rest r h.numbers o.members o.turns w in
    record {
      line = (o.front ++ o.rest) ++ c ∷ [];
      members = members_with s.calls (o.front ++ o.rest) ((o.front ++ o.rest) ++ c ∷ []) r c h.numbers w n rest d (within_snoc (o.front ++ o.rest) c);
      turns = turns_snoc (o.front ++ o.rest) c (turns_without o.front o.rest r o.turns) (λ x v. let q = (rest x).0 v in let p = ((h.stamped x q.0).begun q.1).1 in omega arith);
      fits = fits_snoc (o.front ++ o.rest) c (fits_without o.front o.rest r o.fits e) (subst (StageFits c.stage c.batch) same f);
      journal = ap (λ j. j ++ entered c.stage c.batch) same ∙ sym (journal-append (o.front ++ o.rest) (c ∷ []) ∙ ap (λ l. journal_in (o.front ++ o.rest) ++ l) (append-nil (entered c.stage c.batch)));
      numbers = different_with s.calls c h.numbers;
      stamped = stamped_with s.count s.calls c h.numbers h.stamped k;
    }

-- a call leaves the line
pub left : (s : MachineState) (r c : Call) → Sound s → Within s.calls r → c.number ≡ r.number → is_begun r.stage ≡ true → is_begun c.stage ≡ false → entered r.stage r.batch ≡ [] → Stamped (s.count + 1) c → Sound (moved c s)
left s r c h w n b d e k =
    let o = round s r h w b in
    record {
      line = o.front ++ o.rest;
      members = members_without s.calls (o.front ++ o.rest) r c h.numbers w n (rest_of_line s.calls o.front o.rest r h.numbers o.members o.turns w) d;
      turns = turns_without o.front o.rest r o.turns;
      fits = fits_without o.front o.rest r o.fits e;
      journal = o.journal ∙ sym (journal_without o.front o.rest r e);
      numbers = different_with s.calls c h.numbers;
      stamped = stamped_with s.count s.calls c h.numbers h.stamped k;
    }

-- a new call
pub came : (s : MachineState) (c : Call) → Sound s → ((x : Call) → Within s.calls x → x.number ≡ c.number → ⊥) → is_begun c.stage ≡ false → Stamped (s.count + 1) c → Sound (record s { count = s.count + 1; calls = s.calls ++ c ∷ [] })
came s c h f b k = record {
  line = h.line;
  members = λ x. (
    λ v. let q = (h.members x).0 v in (within_left s.calls (c ∷ []) x q.0, q.1),
    λ v. ⊎_elim (λ e. absurd (both_ways (is_begun x.stage) (ap (λ (t : Call). is_begun t.stage) e ∙ b) v.1)) (λ w. (h.members x).1 (w, v.1)) ((within_snoc s.calls c x).0 v.0),
  );
  turns = h.turns;
  fits = h.fits;
  journal = h.journal;
  numbers = one_number_more s.calls c h.numbers f;
  stamped = λ x v. ⊎_elim (λ e. subst (Stamped (s.count + 1)) (sym e) k) (λ w. stamped_more s.count x (h.stamped x w)) ((within_snoc s.calls c x).0 v);
}
