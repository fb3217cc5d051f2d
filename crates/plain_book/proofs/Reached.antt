-- A walk from the entries that start a chain, from identities to children, reaches all entries in which a chain ends.
use Rattle.std.proofs.Common.{◌≡◌, ℕ, zero, suc, ◌+◌, ◌-◌, ◌<◌, Bool, true, false, not, ◌&&◌, ◌||◌, ◌⊎◌, List, [], ◌∷◌, ◌++◌, length, length-append, refl, sym, ap, subst, ◌∙◌, inl, inr, ⊎_elim, arith}
use Rattle.std.specs.Prelude.{filter, bytes_eq}
use Rattle.std.proofs.lemmas.Bool.{or_cases, or_left, or_right, and_from, and_parts, not_from_false, cases_Bool, false≢true}
use Rattle.entry_book.specs.declared.agent.Agent.{Agent}
use Rattle.entry_book.specs.Rows.{Bytes, Entry, entry_key}
use Rattle.entry_book.specs.Order.{Ascending, Within}
use Rattle.entry_book.specs.Authorised.{holds, starts, ends_within}
use Rattle.entry_book.proofs.Sets.{length_filter_le, within_filter, from_within_filter, within_left, within_right, from_within_append, text_is, text_same}
use Rattle.entry_book.proofs.Chains.{more, less, start, bounded}
use Rattle.plain_book.specs.Found.{is_missing, with_all}
use Rattle.plain_book.proofs.FoundEntries.{all_found, counted, new_found, same_filter}
use Rattle.plain_book.proofs.Ranks.{none_within}

-- the entry starts a chain, or its parent is one of these identities
abbrev pub reached : Bytes → Agent → List Bytes → Entry → Bool
reached s a [] e = starts s a e
reached s a (i ∷ is) e = reached s a is e || bytes_eq e.parent i

-- the entries of this parent that were not reached before
abbrev pub new_children : Bytes → Agent → List Bytes → Bytes → List Entry → List Entry
new_children s a is i es = filter (λ e. not (reached s a is e) && bytes_eq e.parent i) es

-- The invariant of the walk. Each identity visited is that of an entry in which a chain ends. Each waiting entry is
-- reached. Each entry reached is waiting, or its identity is visited.
pub record Walked (s : Bytes) (a : Agent) (es : List Entry) (is : List Bytes) (waiting : List Entry) : Type 0 where
  pub known : (i : Bytes) → Within is i → (c : Entry) × Within es c × (c.identity ≡ i) × (ends_within s a es (length es) c ≡ true)
  pub inside : (c : Entry) → Within waiting c → Within es c × (reached s a is c ≡ true)
  pub closed : (c : Entry) → Within es c → reached s a is c ≡ true → Within waiting c ⊎ Within is c.identity

module _ (s : Bytes) (a : Agent) (es : List Entry) where
  -- the agent's children, except the aliases that it holds
  abbrev pub agent_children : Entry → Bool
  agent_children e = not (holds s a e) && bytes_eq e.parent a.id

  pub at_start : Walked s a es [] (filter (holds s a) es ++ filter agent_children es)
  at_start = record {
    known = λ i w. absurd w;
    inside = λ c w. ⊎_elim
        (λ l. let r = from_within_filter (holds s a) es c l in (r.0, or_left (holds s a c) _ r.1))
        (λ r. let k = from_within_filter agent_children es c r in (k.0, or_right (holds s a c) _ (and_parts _ _ k.1).1))
        (from_within_append (filter (holds s a) es) (filter agent_children es) c w);
    closed = λ c w t. inl (⊎_elim
        (λ h. within_left (filter (holds s a) es) (filter agent_children es) c (within_filter (holds s a) es c w h))
        (λ p. ⊎_elim
        (λ h. within_left (filter (holds s a) es) (filter agent_children es) c (within_filter (holds s a) es c w h))
        (λ f. within_right (filter (holds s a) es) (filter agent_children es) c (within_filter agent_children es c w (and_from _ _ (not_from_false _ f) p)))
        (cases_Bool (holds s a c)))
        (or_cases (holds s a c) _ t));
  }

  -- a chain ends in each entry reached
  ends : (is : List Bytes) → ((i : Bytes) → Within is i → (c : Entry) × Within es c × (c.identity ≡ i) × (ends_within s a es (length es) c ≡ true)) → (e : Entry) → Within es e → reached s a is e ≡ true → ends_within s a es (length es) e ≡ true
  ends [] known e w t = start s a es (length es) e t
  ends (i ∷ is) known e w t = ⊎_elim
      (λ old. ends is (λ j v. known j (inr v)) e w old)
      (λ new. let c = known i (inl refl) in bounded s a es e (suc (length es)) w (more s a es (length es) e c.0 c.1 (text_is e.parent i new ∙ sym c.2) c.3))
      (or_cases (reached s a is e) _ t)

  -- the invariant after the children of one more entry
  pub further : (is : List Bytes) (waiting : List Entry) (c : Entry) → Walked s a es is (waiting ++ c ∷ []) → Walked s a es (c.identity ∷ is) (waiting ++ new_children s a is c.identity es)
  further is waiting c h =
      let new : List Entry = new_children s a is c.identity es in
      let is_new : Entry → Bool = λ e. not (reached s a is e) && bytes_eq e.parent c.identity in
      let here = h.inside c (within_right waiting (c ∷ []) c (inl refl)) in
      let still : (e : Entry) → Within es e → reached s a is e ≡ true → Within (waiting ++ new) e ⊎ Within (c.identity ∷ is) e.identity = λ e w t. ⊎_elim
      (λ v. ⊎_elim (λ l. inl (within_left waiting new e l)) (λ r. ⊎_elim (λ q. inr (inl (ap (λ e. e.identity) q))) (λ n. absurd n) r) (from_within_append waiting (c ∷ []) e v))
      (λ v. inr (inr v))
      (h.closed e w t) in
      record {
        known = λ i w. ⊎_elim (λ q. (c, here.0, q, ends is h.known c here.0 here.1)) (λ v. h.known i v) w;
        inside = λ e w. ⊎_elim
            (λ l. let r = h.inside e (within_left waiting (c ∷ []) e l) in (r.0, or_left (reached s a is e) _ r.1))
            (λ r. let k = from_within_filter is_new es e r in (k.0, or_right (reached s a is e) _ (and_parts _ _ k.1).1))
            (from_within_append waiting new e w);
        closed = λ e w t. ⊎_elim
            (λ old. still e w old)
            (λ child. ⊎_elim (λ old. still e w old) (λ f. inl (within_right waiting new e (within_filter is_new es e w (and_from _ _ (not_from_false _ f) child)))) (cases_Bool (reached s a is e)))
            (or_cases (reached s a is e) _ t);
      }

  from_start : (is : List Bytes) (e : Entry) → starts s a e ≡ true → reached s a is e ≡ true
  from_start [] e t = t
  from_start (i ∷ is) e t = or_left (reached s a is e) _ (from_start is e t)

  from_read : (is : List Bytes) (i : Bytes) (e : Entry) → Within is i → e.parent ≡ i → reached s a is e ≡ true
  from_read [] i e w q = absurd w
  from_read (j ∷ is) i e w q = ⊎_elim (λ p. or_right (reached s a is e) _ (text_same e.parent j (q ∙ sym p))) (λ v. or_left (reached s a is e) _ (from_read is i e v q)) w

  all_reached : (is : List Bytes) → Walked s a es is [] → (n : ℕ) (e : Entry) → Within es e → ends_within s a es n e ≡ true → reached s a is e ≡ true
  all_reached is h zero e w t = from_start is e t
  all_reached is h (suc n) e w t = ⊎_elim
      (λ u. from_start is e u)
      (λ r. ⊎_elim (λ v. absurd v) (λ v. from_read is (r.0).identity e v r.2) (h.closed r.0 r.1 (all_reached is h n r.0 r.1 r.3)))
      (less s a es n e t)

-- ---- tests with the same result

same_test : (b c : Bool) → (b ≡ true → c ≡ true) → (c ≡ true → b ≡ true) → b ≡ c
same_test true c f g = sym (f refl)
same_test false true f g = g refl
same_test false false f g = refl

-- at the end, the entries reached are those in which a chain ends
pub at_end : (s : Bytes) (a : Agent) (es : List Entry) (is : List Bytes) → Walked s a es is [] → filter (reached s a is) es ≡ filter (ends_within s a es (length es)) es
at_end s a es is h = same_filter (reached s a is) (ends_within s a es (length es)) es (λ e w. same_test _ _ (ends s a es is h.known e w) (all_reached s a es is h (length es) e w))

-- ---- the first entries found, and one iteration

module _ (s : Bytes) (a : Agent) (es : List Entry) (order : Ascending entry_key es) where
  pub first_found : (starts none first : List Entry) → starts ≡ filter (holds s a) es → none ≡ [] → first ≡ with_all starts none → first ≡ filter (holds s a) es
  first_found starts none first e n h =
      h ∙ (ap (λ l. with_all l none) e
      ∙ (ap (with_all (filter (holds s a) es)) (n ∙ sym (none_within (λ x. false) es (λ x w t. false≢true t)))
      ∙ all_found (λ x. false) (holds s a) es order))

  pub found_at_start : (first own found : List Entry) → first ≡ filter (holds s a) es → own ≡ filter (λ e. bytes_eq e.parent a.id) es → found ≡ with_all own first → found ≡ filter (reached s a []) es
  found_at_start first own found f o h =
      h ∙ (ap (λ l. with_all l first) o
      ∙ (ap (with_all (filter (λ e. bytes_eq e.parent a.id) es)) f
      ∙ all_found (holds s a) (λ e. bytes_eq e.parent a.id) es order))

  pub waiting_at_start : (starts none first own before waiting : List Entry) → starts ≡ filter (holds s a) es → none ≡ [] → first ≡ filter (holds s a) es → own ≡ filter (λ e. bytes_eq e.parent a.id) es → before ≡ filter (is_missing none) starts → waiting ≡ before ++ filter (is_missing first) own → Walked s a es [] waiting
  waiting_at_start starts none first own before waiting e n f o b w =
      let missing = new_found (λ x. false) (holds s a) es order in
      let all_new : before ≡ filter (holds s a) es =
      b ∙ (ap (filter (is_missing none)) e ∙ (ap (λ l. filter (is_missing l) (filter (holds s a) es)) (n ∙ sym (none_within (λ x. false) es (λ x w t. false≢true t))) ∙ missing)) in
      let others : filter (is_missing first) own ≡ filter (agent_children s a es) es =
      ap (filter (is_missing first)) o ∙ (ap (λ l. filter (is_missing l) (filter (λ e. bytes_eq e.parent a.id) es)) f ∙ new_found (holds s a) (λ e. bytes_eq e.parent a.id) es order) in
      subst (Walked s a es []) (sym (w ∙ (ap (λ l. l ++ filter (is_missing first) own) all_new ∙ ap (λ l. filter (holds s a) es ++ l) others))) (at_start s a es)

  -- One iteration: the children of the entry c are put among those found, and those not found before are appended to the
  -- waiting ones.
  pub record Turn (is : List Bytes) (i : Bytes) (c : Entry) (children old new before after : List Entry) : Type 0 where
    pub identity : i ≡ c.identity
    pub read : children ≡ filter (λ e. bytes_eq e.parent i) es
    pub found_before : old ≡ filter (reached s a is) es
    pub found : new ≡ with_all children old
    pub waiting : after ≡ before ++ filter (is_missing old) children

  module _ (is : List Bytes) (i : Bytes) (c : Entry) (children old new before after : List Entry) (t : Turn is i c children old new before after) where
    new_is : new ≡ filter (λ e. reached s a is e || bytes_eq e.parent i) es
    new_is = t.found ∙ (ap (λ l. with_all l old) t.read ∙ (ap (with_all (filter (λ e. bytes_eq e.parent i) es)) t.found_before ∙ all_found (reached s a is) (λ e. bytes_eq e.parent i) es order))

    after_is : after ≡ before ++ new_children s a is i es
    after_is = t.waiting ∙ ap (λ l. before ++ l) (ap (filter (is_missing old)) t.read ∙ (ap (λ l. filter (is_missing l) (filter (λ e. bytes_eq e.parent i) es)) t.found_before ∙ new_found (reached s a is) (λ e. bytes_eq e.parent i) es order))

    pub turn : Walked s a es is (before ++ c ∷ []) → (read : List Bytes) × (new ≡ filter (reached s a read) es) × Walked s a es read after
    turn h = (
      i ∷ is,
      new_is,
      subst (Walked s a es (i ∷ is)) (sym after_is) (subst (λ j. Walked s a es (j ∷ is) (before ++ new_children s a is j es)) (sym t.identity) (further s a es is before c h)),
    )

    pub turn_smaller : length after + (length es - length new) < length (before ++ c ∷ []) + (length es - length old)
    turn_smaller =
        let grown = counted (reached s a is) (λ e. bytes_eq e.parent i) es in
        let most = length_filter_le (λ e. reached s a is e || bytes_eq e.parent i) es in
        let now = ap length new_is in
        let were = ap length t.found_before in
        let wait = ap length after_is ∙ length-append before (new_children s a is i es) in
        let waited = length-append before (c ∷ []) in
        omega arith
