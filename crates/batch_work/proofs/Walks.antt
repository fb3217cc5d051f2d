-- The walk to the authorised entries: what it finds, that these are all at its end, and that it ends.
use Rattle.std.proofs.Common.{◌≡◌, ℕ, zero, suc, ◌<◌, true, false, not, List, [], ◌∷◌, length, map, refl, sym, subst, ◌∙◌, inl, ⊎_elim}
use Rattle.std.specs.Prelude.{filter, bytes_eq}
use Rattle.std.specs.List.{AllByRecursion}
use Rattle.std.proofs.lemmas.Bool.{or_left, or_right, or_cases, both_ways, not-true, not_from_false, or_parts, and_parts}
use Rattle.entry_book.specs.declared.agent.Agent.{Agent}
use Rattle.entry_book.specs.Rows.{Bytes, Entry, entry_key}
use Rattle.entry_book.specs.Order.{Within, Ascending}
use Rattle.entry_book.specs.Book.{Book, children_of}
use Rattle.entry_book.specs.Authorised.{holds, starts, ends_within, authorised}
use Rattle.entry_book.proofs.Sets.{within_filter, from_within_filter, within_left, within_right, from_within_append, from_any, same_sets, ascending_filter, text_is, text_same, count_grows}
use Rattle.entry_book.proofs.Chains.{more, less, start, bounded}
use Rattle.batch_work.specs.Reads.{found, is_one_of, unread}
use Rattle.batch_work.proofs.TextSets.{within_text_set, from_text_set, within_map, from_within_map}

module _ (s : Bytes) (a : Agent) (b : Book) where
  pub found_inside : (rs : List Bytes) (e : Entry) → Within (found s a rs b) e → Within b.entries e
  found_inside [] e w = ⊎_elim
      (λ v. (from_within_filter (λ x. bytes_eq x.parent s) b.entries e (from_within_filter (holds s a) (children_of s b) e v).0).0)
      (λ v. (from_within_filter (λ x. bytes_eq x.parent a.id) b.entries e v).0)
      (from_within_append (filter (holds s a) (children_of s b)) _ e w)
  found_inside (r ∷ rs) e w = ⊎_elim
      (λ v. found_inside rs e v)
      (λ v. (from_within_filter (λ x. bytes_eq x.parent r) b.entries e v).0)
      (from_within_append (found s a rs b) _ e w)

  -- an identity of an authorised entry
  unfoldable pub Known : Bytes → Type 0
  Known i = (e : Entry) × Within b.entries e × (ends_within s a b.entries (length b.entries) e ≡ true) × (e.identity ≡ i)

  pub found_ends : (rs : List Bytes) → AllByRecursion Known rs → (e : Entry) → Within (found s a rs b) e → ends_within s a b.entries (length b.entries) e ≡ true
  unfolding Known
  found_ends [] k e w = start s a b.entries (length b.entries) e (⊎_elim
      (λ v. or_left _ _ (from_within_filter (holds s a) (children_of s b) e v).1)
      (λ v. or_right (holds s a e) _ (from_within_filter (λ x. bytes_eq x.parent a.id) b.entries e v).1)
      (from_within_append (filter (holds s a) (children_of s b)) _ e w))
  found_ends (r ∷ rs) k e w = ⊎_elim
      (λ v. found_ends rs k.1 e v)
      (λ v. let h = from_within_filter (λ x. bytes_eq x.parent r) b.entries e v in let c = k.0 in
      bounded s a b.entries e (suc (length b.entries)) h.0 (more s a b.entries (length b.entries) e c.0 c.1 (text_is e.parent r h.1 ∙ sym c.3) c.2))
      (from_within_append (found s a rs b) _ e w)

  pub found_start : (rs : List Bytes) (e : Entry) → Within b.entries e → starts s a e ≡ true → Within (found s a rs b) e
  found_start [] e w t = ⊎_elim
      (λ h. within_left _ _ e (within_filter (holds s a) (children_of s b) e (within_filter (λ x. bytes_eq x.parent s) b.entries e w (and_parts _ _ h).0) h))
      (λ p. within_right (filter (holds s a) (children_of s b)) _ e (within_filter (λ x. bytes_eq x.parent a.id) b.entries e w p))
      (or_cases (holds s a e) _ t)
  found_start (r ∷ rs) e w t = within_left (found s a rs b) _ e (found_start rs e w t)

  pub found_child : (rs : List Bytes) (i : Bytes) (e : Entry) → Within rs i → Within b.entries e → e.parent ≡ i → Within (found s a rs b) e
  found_child [] i e v w p = absurd v
  found_child (r ∷ rs) i e v w p = ⊎_elim
      (λ q. within_right (found s a rs b) _ e (within_filter (λ x. bytes_eq x.parent r) b.entries e w (text_same e.parent r (p ∙ sym q))))
      (λ u. within_left (found s a rs b) _ e (found_child rs i e u w p))
      v

  -- what is read next is the identity of an entry that was found, and is new
  pub next_is : (rs : List Bytes) (i : Bytes) (is : List Bytes) → unread a rs (found s a rs b) ≡ i ∷ is → ((e : Entry) × Within (found s a rs b) e × (e.identity ≡ i)) × (is_one_of i (a.id ∷ rs) ≡ false)
  next_is rs i is h =
      let w : Within (unread a rs (found s a rs b)) i = subst (λ l. Within l i) (sym h) (inl refl) in
      let r = from_within_filter (λ i. not (is_one_of i (a.id ∷ rs))) (map (λ e. e.identity) (found s a rs b)) i (from_text_set _ i w) in
      (from_within_map (λ e. e.identity) (found s a rs b) i r.0, not-true _ r.1)

  -- if nothing is left to read, each identity found was read
  pub read_all : (rs : List Bytes) → unread a rs (found s a rs b) ≡ [] → (e : Entry) → Within (found s a rs b) e → is_one_of e.identity (a.id ∷ rs) ≡ true
  read_all rs n e w = elim (is_one_of e.identity (a.id ∷ rs)) as (λ t. is_one_of e.identity (a.id ∷ rs) ≡ t → is_one_of e.identity (a.id ∷ rs) ≡ true) [
    | true ↦ λ q. q
    | false ↦ λ q. absurd (subst (λ l. Within l e.identity) n (within_text_set _ e.identity (within_filter (λ i. not (is_one_of i (a.id ∷ rs))) (map (λ e. e.identity) (found s a rs b)) e.identity (within_map (λ e. e.identity) (found s a rs b) e w) (not_from_false _ q))))
  ] refl

  pub all_found : (rs : List Bytes) → unread a rs (found s a rs b) ≡ [] → (n : ℕ) (e : Entry) → Within b.entries e → ends_within s a b.entries n e ≡ true → Within (found s a rs b) e
  all_found rs u zero e w t = found_start rs e w t
  all_found rs u (suc n) e w t = ⊎_elim
      (λ h. found_start rs e w h)
      (λ r. let c : Entry = r.0 in ⊎_elim
      (λ q. found_start rs e w (or_right (holds s a e) _ (text_same e.parent a.id (r.2 ∙ sym (text_is a.id c.identity q)))))
      (λ q. let i = from_any (λ y. bytes_eq y c.identity) rs q in found_child rs i.0 e i.1 w (r.2 ∙ sym (text_is i.0 c.identity i.2)))
      (or_cases (bytes_eq a.id c.identity) _ (read_all rs u c (all_found rs u n c r.1 r.3))))
      (less s a b.entries n e t)

  -- at the end of the walk the entries found, as a set, are the authorised ones
  pub walk_gives : Ascending entry_key b.entries → (rs : List Bytes) → AllByRecursion Known rs → unread a rs (found s a rs b) ≡ [] → (set : List Entry) → Ascending entry_key set → ((e : Entry) → Within set e → Within (found s a rs b) e) → ((e : Entry) → Within (found s a rs b) e → Within set e) → set ≡ authorised s a b
  unfolding authorised
  walk_gives o rs k n set c from into = same_sets entry_key set (authorised s a b) c (ascending_filter entry_key _ b.entries o)
      (λ e w. let f = from e w in within_filter (ends_within s a b.entries (length b.entries)) b.entries e (found_inside rs e f) (found_ends rs k e f))
      (λ e w. let r = from_within_filter (ends_within s a b.entries (length b.entries)) b.entries e w in into e (all_found rs n (length b.entries) e r.0 r.1))

  pub known_more : (rs : List Bytes) (i : Bytes) (is : List Bytes) → AllByRecursion Known rs → unread a rs (found s a rs b) ≡ i ∷ is → AllByRecursion Known (i ∷ rs)
  unfolding Known
  known_more rs i is k h = let n = (next_is rs i is h).0 in ((n.0, found_inside rs n.0 n.1, found_ends rs k n.0 n.1, n.2), k)

  -- the entries whose identity wasn't read: their number falls with each read
  abbrev pub pending : List Bytes → List Entry
  pending rs = filter (λ e. not (is_one_of e.identity (a.id ∷ rs))) b.entries

  pub fewer : (rs : List Bytes) (i : Bytes) (is : List Bytes) → unread a rs (found s a rs b) ≡ i ∷ is → length (pending (i ∷ rs)) < length (pending rs)
  fewer rs i is h =
      let n = next_is rs i is h in
      let e : Entry = n.0.0 in
      let inside = found_inside rs e n.0.1 in
      let new : is_one_of e.identity (a.id ∷ rs) ≡ false = subst (λ j. is_one_of j (a.id ∷ rs) ≡ false) (sym n.0.2) n.1 in
      let read : is_one_of e.identity (a.id ∷ (i ∷ rs)) ≡ true = or_right (bytes_eq a.id e.identity) _ (or_left _ _ (text_same i e.identity (sym n.0.2))) in
      ⊎_elim (λ l. l)
      (λ r. absurd (both_ways _ (not-true _ (r.1 e inside (not_from_false _ new))) read))
      (count_grows (λ e. not (is_one_of e.identity (a.id ∷ (i ∷ rs)))) (λ e. not (is_one_of e.identity (a.id ∷ rs))) b.entries (λ x w t. narrower x t))
    where
      narrower : (x : Entry) → not (is_one_of x.identity (a.id ∷ (i ∷ rs))) ≡ true → not (is_one_of x.identity (a.id ∷ rs)) ≡ true
      narrower x t = let p = or_parts (bytes_eq a.id x.identity) _ (not-true _ t) in let q = or_parts (bytes_eq i x.identity) _ p.1 in not_from_false _ (rw p.0 q.1)
