-- The computed set of authorised entries is the set of ends of chains.
use Rattle.std.proofs.Common.{◌≡◌, ℕ, zero, suc, ◌≤◌, true, ◌&&◌, ◌⊎◌, List, [], ◌∷◌, ◌++◌, length, refl, sym, subst, inl, inr, ⊎_elim, arith}
use Rattle.std.specs.Prelude.{filter, bytes_eq}
use Rattle.std.proofs.lemmas.Bool.{or_cases, and_parts, and_from, or_left, or_right, cases_order}
use Rattle.entry_book.specs.declared.agent.Agent.{Agent}
use Rattle.entry_book.specs.Rows.{Bytes, Entry, entry_key}
use Rattle.entry_book.specs.Order.{Within, Ascending}
use Rattle.entry_book.specs.Book.{Book}
use Rattle.std.specs.List.{AllByRecursion}
use Rattle.std.specs.Prelude.{◌↔◌}
use Rattle.spiffe_name.specs.Selector.{SelectorPair}
use Rattle.spiffe_name.specs.SelectorOrder.{selector_eq}
use Rattle.spiffe_name.specs.SelectorSet.{has, is_within}
use Rattle.entry_book.specs.Authorised.{Holds, Starts, FollowsOn, Linked, IsChain, EndsChain, holds, starts, ends_within, authorised}
use Rattle.entry_book.proofs.Present.{selector_is, selector_same}
use Rattle.entry_book.proofs.Sets.{All-more, within_any, from_any, within_filter, from_within_filter, count_grows, all_pass, text_is, text_same, ascending_filter}

module _ (s : Bytes) (a : Agent) (es : List Entry) where
  pub more : (n : ℕ) (e c : Entry) → Within es c → e.parent ≡ c.identity → ends_within s a es n c ≡ true → ends_within s a es (suc n) e ≡ true
  more n e c w q t = or_right (starts s a e) _ (within_any (λ c. bytes_eq e.parent c.identity && ends_within s a es n c) es c w (and_from _ _ (text_same e.parent c.identity q) t))

  -- why an entry ends a chain of at most n + 2 entries
  pub less : (n : ℕ) (e : Entry) → ends_within s a es (suc n) e ≡ true → (starts s a e ≡ true) ⊎ ((c : Entry) × Within es c × (e.parent ≡ c.identity) × (ends_within s a es n c ≡ true))
  less n e h = ⊎_elim (λ t. inl t) (λ v. let r = from_any (λ c. bytes_eq e.parent c.identity && ends_within s a es n c) es v in let k = and_parts _ _ r.2 in inr (r.0, r.1, text_is e.parent (r.0).identity k.0, k.1)) (or_cases (starts s a e) _ h)

  pub start : (n : ℕ) (e : Entry) → starts s a e ≡ true → ends_within s a es n e ≡ true
  start zero e t = t
  start (suc n) e t = or_left (starts s a e) _ t

  step : (n : ℕ) (e : Entry) → ends_within s a es n e ≡ true → ends_within s a es (suc n) e ≡ true
  step zero e t = start (suc zero) e t
  step (suc n) e t = ⊎_elim (λ u. start (suc (suc n)) e u) (λ r. more (suc n) e r.0 r.1 r.2 (step n r.0 r.3)) (less n e t)

  up : (n m : ℕ) (e : Entry) → n ≤ m → ends_within s a es n e ≡ true → ends_within s a es m e ≡ true
  up n zero e l t = let q : n ≡ zero = omega arith in subst (λ k. ends_within s a es k e ≡ true) q t
  up n (suc m) e l t = ⊎_elim (λ q. subst (λ k. ends_within s a es k e ≡ true) q t) (λ r. ⊎_elim (λ b. step m e (up n m e (omega arith) t)) (λ b. absurd (omega arith)) r) (cases_order n (suc m))

  Still : ℕ → Type 0
  Still n = (e : Entry) → Within es e → ends_within s a es (suc n) e ≡ true → ends_within s a es n e ≡ true

  still_more : (n : ℕ) → Still n → Still (suc n)
  unfolding Still
  still_more n h e w t = ⊎_elim (λ u. start (suc n) e u) (λ r. more n e r.0 r.1 r.2 (h r.0 r.1 r.3)) (less (suc n) e t)

  grown : (n : ℕ) → Still n ⊎ (n ≤ length (filter (ends_within s a es n) es))
  unfolding Still
  grown zero = inr (omega arith)
  grown (suc n) = ⊎_elim (λ h. inl (still_more n h)) (λ l. ⊎_elim (λ k. inr (omega arith)) (λ r. inl (still_more n r.1)) (count_grows (ends_within s a es n) (ends_within s a es (suc n)) es (λ e w t. step n e t))) (grown n)

  still_at : Still (length es)
  unfolding Still
  still_at = ⊎_elim (λ h. h) (λ l. λ e w t. all_pass (ends_within s a es (length es)) es l e w) (grown (length es))

  still_from : (n : ℕ) → length es ≤ n → Still n
  still_from zero l = let q : length es ≡ zero = omega arith in subst Still q still_at
  still_from (suc n) l = ⊎_elim (λ q. subst Still q still_at) (λ r. ⊎_elim (λ b. still_more n (still_from n (omega arith))) (λ b. absurd (omega arith)) r) (cases_order (length es) (suc n))

  down : (n : ℕ) (e : Entry) → Within es e → length es ≤ n → ends_within s a es n e ≡ true → ends_within s a es (length es) e ≡ true
  unfolding Still
  down zero e w l t = let q : zero ≡ length es = omega arith in subst (λ k. ends_within s a es k e ≡ true) q t
  down (suc n) e w l t = ⊎_elim (λ q. subst (λ k. ends_within s a es k e ≡ true) (sym q) t) (λ r. ⊎_elim (λ b. down n e w (omega arith) (still_from n (omega arith) e w t)) (λ b. absurd (omega arith)) r) (cases_order (length es) (suc n))

  pub bounded : (e : Entry) (n : ℕ) → Within es e → ends_within s a es n e ≡ true → ends_within s a es (length es) e ≡ true
  bounded e n w t = ⊎_elim (λ q. subst (λ k. ends_within s a es k e ≡ true) q t) (λ r. ⊎_elim (λ b. up n (length es) e (omega arith) t) (λ b. down n e w (omega arith) t) r) (cases_order n (length es))

-- ---- selectors

pub has_member : (xs : List SelectorPair) (x : SelectorPair) → has xs x ≡ true → Within xs x
has_member xs x h = let r = from_any (λ t. selector_eq t x) xs h in subst (Within xs) (selector_is r.0 x r.2) r.1

pub member_has : (xs : List SelectorPair) (x : SelectorPair) → Within xs x → has xs x ≡ true
member_has xs x w = within_any (λ t. selector_eq t x) xs x w (selector_same x x refl)

pub subset_of : (xs ys : List SelectorPair) → is_within xs ys ≡ true → (x : SelectorPair) → Within xs x → Within ys x
subset_of [] ys h x w = absurd w
subset_of (z ∷ zs) ys h x w = let k = and_parts _ _ h in ⊎_elim (λ e. subst (Within ys) e (has_member ys z k.0)) (λ v. subset_of zs ys k.1 x v) w

pub of_subset : (xs ys : List SelectorPair) → ((x : SelectorPair) → Within xs x → Within ys x) → is_within xs ys ≡ true
of_subset [] ys h = refl
of_subset (z ∷ zs) ys h = and_from _ _ (member_has ys z (h z (inl refl))) (of_subset zs ys (λ x w. h x (inr w)))

-- ---- the first entry of a chain

holds_is : (s : Bytes) (a : Agent) (e : Entry) → holds s a e ≡ true → Holds s a e
holds_is s a e h = let k = and_parts _ _ h in record { is_alias = text_is e.parent s k.0; has_all = subset_of e.selectors a.selectors k.1 }

is_holds : (s : Bytes) (a : Agent) (e : Entry) → Holds s a e → holds s a e ≡ true
is_holds s a e h = and_from _ _ (text_same e.parent s h.is_alias) (of_subset e.selectors a.selectors h.has_all)

abbrev Begins : Bytes → Agent → Entry → Type 0
Begins s a e = Holds s a e ⊎ (e.parent ≡ a.id)

begins_is : (s : Bytes) (a : Agent) (e : Entry) → starts s a e ≡ true → Begins s a e
begins_is s a e h = ⊎_elim (λ k. inl (holds_is s a e k)) (λ k. inr (text_is e.parent a.id k)) (or_cases (holds s a e) _ h)

is_begins : (s : Bytes) (a : Agent) (e : Entry) → Begins s a e → starts s a e ≡ true
is_begins s a e h = ⊎_elim (λ k. or_left _ _ (is_holds s a e k)) (λ k. or_right (holds s a e) _ (text_same e.parent a.id k)) h

-- ---- from the computation to a chain: one more entry at the end

starts_more : (s : Bytes) (a : Agent) (xs : List Entry) (e : Entry) → Starts s a xs → Starts s a (xs ++ e ∷ [])
starts_more s a [] e h = absurd h
starts_more s a (x ∷ xs) e h = h

follows_more : (x : Entry) (xs : List Entry) (c e : Entry) → FollowsOn x (xs ++ c ∷ []) → e.parent ≡ c.identity → FollowsOn x ((xs ++ c ∷ []) ++ e ∷ [])
follows_more x [] c e h q = (h.0, (q, tt))
follows_more x (y ∷ ys) c e h q = (h.0, follows_more y ys c e h.1 q)

linked_more : (front : List Entry) (c e : Entry) → Linked (front ++ c ∷ []) → e.parent ≡ c.identity → Linked ((front ++ c ∷ []) ++ e ∷ [])
linked_more [] c e h q = (q, tt)
linked_more (x ∷ xs) c e h q = follows_more x xs c e h q

chain_of : (s : Bytes) (a : Agent) (b : Book) (n : ℕ) (e : Entry) → Within b.entries e → ends_within s a b.entries n e ≡ true → EndsChain s a b e
chain_of s a b zero e w t = ([], record { of_book = (w, tt); start = begins_is s a e t; linked = tt })
chain_of s a b (suc n) e w t = ⊎_elim
    (λ u. ([], record { of_book = (w, tt); start = begins_is s a e u; linked = tt }))
    (λ r.
    let k = chain_of s a b n r.0 r.1 r.3 in
    let chain : IsChain s a b (k.0 ++ r.0 ∷ []) = k.1 in
    (k.0 ++ r.0 ∷ [], record { of_book = All-more (Within b.entries) (k.0 ++ r.0 ∷ []) e chain.of_book w; start = starts_more s a (k.0 ++ r.0 ∷ []) e chain.start; linked = linked_more k.0 r.0 e chain.linked r.2 }))
    (less s a b.entries n e t)

-- ---- from a chain to the computation: along the chain

along : (s : Bytes) (a : Agent) (es : List Entry) (c : Entry) (mid : List Entry) (e : Entry) (n : ℕ) → Within es c → ends_within s a es n c ≡ true → AllByRecursion (Within es) (mid ++ e ∷ []) → FollowsOn c (mid ++ e ∷ []) → (m : ℕ) × (ends_within s a es m e ≡ true)
along s a es c [] e n w t all f = (suc n, more s a es n e c w f.0 t)
along s a es c (x ∷ xs) e n w t all f = along s a es x xs e (suc n) all.0 (more s a es n x c w f.0 t) all.1 f.1

last_within : {X : Type 0} (P : X → Type 0) (xs : List X) (x : X) → AllByRecursion P (xs ++ x ∷ []) → P x
last_within P [] x h = h.0
last_within P (y ∷ ys) x h = last_within P ys x h.1

ends_of : (s : Bytes) (a : Agent) (es : List Entry) (front : List Entry) (e : Entry) → AllByRecursion (Within es) (front ++ e ∷ []) → Starts s a (front ++ e ∷ []) → Linked (front ++ e ∷ []) → (m : ℕ) × (ends_within s a es m e ≡ true)
ends_of s a es [] e all h l = (0, is_begins s a e h)
ends_of s a es (x ∷ xs) e all h l = along s a es x xs e 0 all.0 (is_begins s a x h) all.1 l

pub ends_of_chains : (s : Bytes) (a : Agent) (b : Book) (e : Entry) → Within (authorised s a b) e ↔ EndsChain s a b e
unfolding authorised
ends_of_chains s a b e = (
  λ w. let r = from_within_filter (ends_within s a b.entries (length b.entries)) b.entries e w in chain_of s a b (length b.entries) e r.0 r.1,
  λ k.
      let chain : IsChain s a b (k.0 ++ e ∷ []) = k.1 in
      let w : Within b.entries e = last_within (Within b.entries) k.0 e chain.of_book in
      let r = ends_of s a b.entries k.0 e chain.of_book chain.start chain.linked in
      within_filter (ends_within s a b.entries (length b.entries)) b.entries e w (bounded s a b.entries e r.0 w r.1),
)

pub authorised_in_order : (s : Bytes) (a : Agent) (b : Book) → Ascending entry_key b.entries → Ascending entry_key (authorised s a b)
unfolding authorised
authorised_in_order s a b h = ascending_filter entry_key (ends_within s a b.entries (length b.entries)) b.entries h

-- ---- entries that a chain reaches immediately, or with one more step

pub begun_is_authorised : (s : Bytes) (a : Agent) (b : Book) (e : Entry) → Within b.entries e → Holds s a e ⊎ (e.parent ≡ a.id) → Within (authorised s a b) e
begun_is_authorised s a b e w h = (ends_of_chains s a b e).1 ([], record { of_book = (w, tt); start = h; linked = tt })

pub next_is_authorised : (s : Bytes) (a : Agent) (b : Book) (c e : Entry) → Within b.entries e → Within (authorised s a b) c → e.parent ≡ c.identity → Within (authorised s a b) e
next_is_authorised s a b c e w v q =
    let k = (ends_of_chains s a b c).0 v in
    let chain : IsChain s a b (k.0 ++ c ∷ []) = k.1 in
    (ends_of_chains s a b e).1 (k.0 ++ c ∷ [], record { of_book = All-more (Within b.entries) (k.0 ++ c ∷ []) e chain.of_book w; start = starts_more s a (k.0 ++ c ∷ []) e chain.start; linked = linked_more k.0 c e chain.linked q })

pub child_is_authorised : (s : Bytes) (a : Agent) (b : Book) (e : Entry) → Within b.entries e → (e.parent ≡ a.id) ⊎ ((c : Entry) × Within (authorised s a b) c × (e.parent ≡ c.identity)) → Within (authorised s a b) e
child_is_authorised s a b e w h = ⊎_elim (λ p. begun_is_authorised s a b e w (inr p)) (λ r. next_is_authorised s a b r.0 e w r.1 r.2) h

-- why an entry is one of them
last_step : (s : Bytes) (a : Agent) (b : Book) (n : ℕ) (e : Entry) → ends_within s a b.entries n e ≡ true → (Holds s a e ⊎ (e.parent ≡ a.id)) ⊎ ((c : Entry) × Within b.entries c × (e.parent ≡ c.identity))
last_step s a b zero e h = inl (begins_is s a e h)
last_step s a b (suc n) e h = ⊎_elim (λ u. inl (begins_is s a e u)) (λ r. inr (r.0, r.1, r.2)) (less s a b.entries n e h)

pub reached_by : (s : Bytes) (a : Agent) (b : Book) (e : Entry) → Within (authorised s a b) e → (Holds s a e ⊎ (e.parent ≡ a.id)) ⊎ ((c : Entry) × Within b.entries c × (e.parent ≡ c.identity))
unfolding authorised
reached_by s a b e w = last_step s a b (length b.entries) e (from_within_filter (ends_within s a b.entries (length b.entries)) b.entries e w).1

pub others_dont_matter : (s : Bytes) (a : Agent) (b : Book) (others : List Agent) → authorised s a (record b { agents = others }) ≡ authorised s a b
unfolding authorised
others_dont_matter s a b others = refl
