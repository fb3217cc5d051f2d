-- The walk to the authorised entries satisfies its definition in direct words.
use Rattle.std.proofs.Common.{◌≡◌, ◌≢◌, ℕ, zero, suc, ◌≤◌, true, ◌⊎◌, ◌↔◌, List, [], ◌∷◌, ◌++◌, length, map, Option, Some, None, refl, sym, ap, subst, inl, inr, ⊎_elim, arith}
use Rattle.std.specs.Prelude.{filter, bytes_eq, not}
use Rattle.std.specs.List.{AllByRecursion}
use Rattle.std.proofs.lemmas.Bool.{and_parts, and_from, or_left, or_right, not-true, not_from_false, both_ways}
use Rattle.std.proofs.lemmas.List.{append_assoc, append-nil}
use Rattle.spiffe_name.specs.Id.{server_text}
use Rattle.entry_book.specs.declared.agent.Agent.{Agent}
use Rattle.entry_book.specs.Rows.{Bytes, Entry, agent_key}
use Rattle.entry_book.specs.Order.{Within, Ascending, is_before, first}
use Rattle.entry_book.specs.Book.{Book, AscendingBook, HasAgent, agent_at, children_of}
use Rattle.entry_book.specs.Authorised.{Holds, holds, ends_within, authorised}
use Rattle.entry_book.proofs.Chains.{ends_of_chains, of_subset, subset_of}
use Rattle.entry_book.proofs.Keys.{at_row, row_alone}
use Rattle.entry_book.proofs.Sets.{All-within, before-irrefl, before-trans, length_filter_le, text_is, text_same, within_filter, within_right, from_within_filter, from_within_append}
use Rattle.version_book.specs.declared.mark.MarkKind.TheVariants as mark
use Rattle.batch_work.specs.Reads.{found, is_one_of, unread, least_then, walk, walk_marks, trust_marks, for_agent_marks, domains_of}
use Rattle.batch_work.specs.Walked.{IsAuthorised, IsFound, IsUnread, IsNextIdentity, IsWalk, WalkAsSaid, OneWalk, TrustedAsSaid, AuthorisedReads, TrustReads, MissingReads}
use Rattle.batch_work.proofs.Plays.{cons_apart}
use Rattle.batch_work.proofs.TextSets.{text_set-ascending, from_text_set, within_text_set, within_map, from_within_map, within_flat, from_within_flat, one_of, from_one_of, not_one_of}
use Rattle.batch_work.proofs.Walks.{Known, found_inside, found_start, found_child, read_all, all_found, known_more, pending, fewer}
use Rattle.batch_work.proofs.WalkOrder.{walk_new, walk_once}

-- ---- what is read after others: the others in reverse, in front of what was read before

abbrev back : List Bytes → List Bytes → List Bytes
back [] rs = rs
back (x ∷ xs) rs = back xs (x ∷ rs)

into_back : (xs rs : List Bytes) (i : Bytes) → Within xs i ⊎ Within rs i → Within (back xs rs) i
into_back [] rs i w = ⊎_elim (λ v. absurd v) (λ v. v) w
into_back (x ∷ xs) rs i w = into_back xs (x ∷ rs) i (⊎_elim (λ v. ⊎_elim (λ q. inr (inl q)) (λ u. inl u) v) (λ v. inr (inr v)) w)

from_back : (xs rs : List Bytes) (i : Bytes) → Within (back xs rs) i → Within xs i ⊎ Within rs i
from_back [] rs i w = inr w
from_back (x ∷ xs) rs i w = ⊎_elim (λ v. inl (inr v)) (λ v. ⊎_elim (λ q. inl (inl q)) (λ u. inr u) v) (from_back xs (x ∷ rs) i w)

cons_head : (x y : Bytes) (xs ys : List Bytes) → x ∷ xs ≡ y ∷ ys → x ≡ y
cons_head x y xs ys e = cc

cons_tail : (x y : Bytes) (xs ys : List Bytes) → x ∷ xs ≡ y ∷ ys → xs ≡ ys
cons_tail x y xs ys e = cc

module _ (s : Bytes) (a : Agent) (b : Book) where
  -- ---- what is found, in direct words

  held_is : (e : Entry) → holds s a e ≡ true → Holds s a e
  held_is e h = let k = and_parts _ _ h in record { is_alias = text_is e.parent s k.0; has_all = subset_of e.selectors a.selectors k.1 }

  is_held : (e : Entry) → Holds s a e → holds s a e ≡ true
  is_held e h = and_from _ _ (text_same e.parent s h.is_alias) (of_subset e.selectors a.selectors h.has_all)

  found_by : (rs : List Bytes) (e : Entry) → Within (found s a rs b) e → Holds s a e ⊎ ((e.parent ≡ a.id) ⊎ Within rs e.parent)
  found_by [] e w = ⊎_elim
      (λ v. inl (held_is e (from_within_filter (holds s a) (children_of s b) e v).1))
      (λ v. inr (inl (text_is e.parent a.id (from_within_filter (λ x. bytes_eq x.parent a.id) b.entries e v).1)))
      (from_within_append (filter (holds s a) (children_of s b)) _ e w)
  found_by (r ∷ rs) e w = ⊎_elim
      (λ v. ⊎_elim (λ h. inl h) (λ h. inr (⊎_elim (λ p. inl p) (λ u. inr (inr u)) h)) (found_by rs e v))
      (λ v. inr (inr (inl (sym (text_is e.parent r (from_within_filter (λ x. bytes_eq x.parent r) b.entries e v).1)))))
      (from_within_append (found s a rs b) _ e w)

  is_found : (rs : List Bytes) (e : Entry) → Within (found s a rs b) e → IsFound s a b rs e
  is_found rs e w = record { of_book = found_inside s a b rs e w; by = found_by rs e w }

  found_is : (rs : List Bytes) (e : Entry) → IsFound s a b rs e → Within (found s a rs b) e
  found_is rs e f = ⊎_elim
      (λ h. found_start s a b rs e f.of_book (or_left _ _ (is_held e h)))
      (λ k. ⊎_elim
      (λ p. found_start s a b rs e f.of_book (or_right (holds s a e) _ (text_same e.parent a.id p)))
      (λ w. found_child s a b rs e.parent e w f.of_book refl)
      k)
      f.by

  -- ---- the least first

  is_unread : (rs : List Bytes) (i : Bytes) → Within (unread a rs (found s a rs b)) i → IsUnread s a b rs i
  is_unread rs i w =
      let r = from_within_filter (λ i. not (is_one_of i (a.id ∷ rs))) (map (λ e. e.identity) (found s a rs b)) i (from_text_set _ i w) in
      let e = from_within_map (λ e. e.identity) (found s a rs b) i r.0 in
      let new : Within (a.id ∷ rs) i → ⊥ = λ v. both_ways _ (not-true _ r.1) (one_of i (a.id ∷ rs) v) in
      record { entry = e.0; found = is_found rs e.0 e.1; identity = e.2; not_own = λ q. new (inl (sym q)); new = λ v. new (inr v) }

  unread_is : (rs : List Bytes) (i : Bytes) → IsUnread s a b rs i → Within (unread a rs (found s a rs b)) i
  unread_is rs i u = within_text_set _ i (within_filter (λ i. not (is_one_of i (a.id ∷ rs))) (map (λ e. e.identity) (found s a rs b)) i
      (subst (Within (map (λ e. e.identity) (found s a rs b))) u.identity (within_map (λ e. e.identity) (found s a rs b) u.entry (found_is rs u.entry u.found)))
      (not_from_false _ (not_one_of i (a.id ∷ rs) (λ v. ⊎_elim (λ q. u.not_own (sym q)) (λ w. u.new w) v))))

  next_least : (rs : List Bytes) (i : Bytes) (is : List Bytes) → unread a rs (found s a rs b) ≡ i ∷ is → IsNextIdentity s a b rs i
  next_least rs i is h =
      let order : Ascending (λ t. t) (i ∷ is) = subst (Ascending (λ t. t)) h (text_set-ascending _) in
      record {
        unread = is_unread rs i (subst (λ l. Within l i) (sym h) (inl refl));
        least = λ j u. ⊎_elim (λ q. inl q) (λ v. inr (All-within (λ y. is_before i y ≡ true) is j order.0 v)) (subst (λ l. Within l j) h (unread_is rs j u));
      }

  reads_next : (before : List Bytes) (n : ℕ) (rs : List Bytes) (i : Bytes) (later : List Bytes) → walk n s a rs b ≡ before ++ i ∷ later → IsNextIdentity s a b (back before rs) i
  reads_next [] zero rs i later e = let z : ⊥ = cons_apart i later e in absurd z
  reads_next (x ∷ xs) zero rs i later e = let z : ⊥ = cons_apart x (xs ++ i ∷ later) e in absurd z
  reads_next [] (suc n) rs i later e = go (unread a rs (found s a rs b)) refl e
    where
      go : (us : List Bytes) → unread a rs (found s a rs b) ≡ us → least_then (first us) (λ j. walk n s a (j ∷ rs) b) ≡ i ∷ later → IsNextIdentity s a b rs i
      go [] u e = let z : ⊥ = cons_apart i later e in absurd z
      go (j ∷ js) u e = let q = cons_head j i (walk n s a (j ∷ rs) b) later e in subst (IsNextIdentity s a b rs) q (next_least rs j js u)
  reads_next (x ∷ xs) (suc n) rs i later e = go (unread a rs (found s a rs b)) (λ j q. reads_next xs n (j ∷ rs) i later q) e
    where
      go : (us : List Bytes) → ((j : Bytes) → walk n s a (j ∷ rs) b ≡ xs ++ i ∷ later → IsNextIdentity s a b (back xs (j ∷ rs)) i) → least_then (first us) (λ j. walk n s a (j ∷ rs) b) ≡ x ∷ (xs ++ i ∷ later) → IsNextIdentity s a b (back xs (x ∷ rs)) i
      go [] ih e = let z : ⊥ = cons_apart x (xs ++ i ∷ later) e in absurd z
      go (j ∷ js) ih e = let q = cons_head j x (walk n s a (j ∷ rs) b) (xs ++ i ∷ later) e in subst (λ y. IsNextIdentity s a b (back xs (y ∷ rs)) i) q (ih j (cons_tail j x (walk n s a (j ∷ rs) b) (xs ++ i ∷ later) e))

  -- the order in which the identities read are listed doesn't matter
  same_unread : (xs ys : List Bytes) (i : Bytes) → ((j : Bytes) → Within xs j → Within ys j) → ((j : Bytes) → Within ys j → Within xs j) → IsUnread s a b xs i → IsUnread s a b ys i
  same_unread xs ys i f g u = record {
    entry = u.entry;
    found = record { of_book = u.found.of_book; by = ⊎_elim (λ h. inl h) (λ k. inr (⊎_elim (λ p. inl p) (λ w. inr (f _ w)) k)) u.found.by };
    identity = u.identity;
    not_own = u.not_own;
    new = λ w. u.new (g i w);
  }

  same_next : (xs ys : List Bytes) (i : Bytes) → ((j : Bytes) → Within xs j → Within ys j) → ((j : Bytes) → Within ys j → Within xs j) → IsNextIdentity s a b xs i → IsNextIdentity s a b ys i
  same_next xs ys i f g n = record { unread = same_unread xs ys i f g n.unread; least = λ j u. n.least j (same_unread ys xs j g f u) }

  least_first : (n : ℕ) (before : List Bytes) (i : Bytes) (later : List Bytes) → walk n s a [] b ≡ before ++ i ∷ later → IsNextIdentity s a b before i
  least_first n before i later e = same_next (back before []) before i
      (λ j w. ⊎_elim (λ v. v) (λ v. absurd v) (from_back before [] j w))
      (λ j w. into_back before [] j (inl w))
      (reads_next before n [] i later e)

  -- ---- the members

  all_known : (n : ℕ) (rs : List Bytes) → AllByRecursion (Known s a b) rs → (i : Bytes) → Within (walk n s a rs b) i → Known s a b i
  all_known zero rs k i w = absurd w
  all_known (suc n) rs k i w = go (unread a rs (found s a rs b)) refl w (λ j js u v. all_known n (j ∷ rs) (known_more s a b rs j js k u) i v)
    where
      go : (us : List Bytes) → unread a rs (found s a rs b) ≡ us → Within (least_then (first us) (λ j. walk n s a (j ∷ rs) b)) i → ((j : Bytes) (js : List Bytes) → unread a rs (found s a rs b) ≡ j ∷ js → Within (walk n s a (j ∷ rs) b) i → Known s a b i) → Known s a b i
      go [] u w ih = absurd w
      go (j ∷ js) u w ih = ⊎_elim (λ q. let k : AllByRecursion (Known s a b) (j ∷ rs) = known_more s a b rs j js k u in subst (Known s a b) q k.0) (λ v. ih j js u v) w

  -- if nothing is left to read, each identity of an authorised entry was read
  at_end : (rs : List Bytes) → unread a rs (found s a rs b) ≡ [] → (i : Bytes) → Known s a b i → Within (a.id ∷ rs) i
  unfolding Known
  at_end rs u i k = subst (Within (a.id ∷ rs)) k.3 (from_one_of (k.0).identity (a.id ∷ rs) (read_all s a b rs u k.0 (all_found s a b rs u (length b.entries) k.0 k.1 k.2)))

  all_read : (n : ℕ) (rs : List Bytes) → length (pending s a b rs) ≤ n → (i : Bytes) → Known s a b i → Within (walk n s a rs b) i ⊎ Within (a.id ∷ rs) i
  all_read zero rs l i k = inr (none (unread a rs (found s a rs b)) refl)
    where
      none : (us : List Bytes) → unread a rs (found s a rs b) ≡ us → Within (a.id ∷ rs) i
      none [] u = at_end rs u i k
      none (j ∷ js) u = let f = fewer s a b rs j js u in absurd (omega arith)
  all_read (suc n) rs l i k = go (unread a rs (found s a rs b)) refl (λ j js u. all_read n (j ∷ rs) (let f = fewer s a b rs j js u in omega arith) i k)
    where
      go : (us : List Bytes) → unread a rs (found s a rs b) ≡ us → ((j : Bytes) (js : List Bytes) → unread a rs (found s a rs b) ≡ j ∷ js → Within (walk n s a (j ∷ rs) b) i ⊎ Within (a.id ∷ (j ∷ rs)) i) → Within (least_then (first us) (λ j. walk n s a (j ∷ rs) b)) i ⊎ Within (a.id ∷ rs) i
      go [] u ih = inr (at_end rs u i k)
      go (j ∷ js) u ih = ⊎_elim (λ v. inl (inr v)) (λ v. ⊎_elim (λ q. inr (inl q)) (λ w. ⊎_elim (λ q. inl (inl q)) (λ x. inr (inr x)) w) v) (ih j js u)

  known_is : (i : Bytes) → Known s a b i → IsAuthorised s a b i
  unfolding Known authorised
  known_is i k = (k.0, (ends_of_chains s a b k.0).0 (within_filter (ends_within s a b.entries (length b.entries)) b.entries k.0 k.1 k.2), k.3)

  is_known : (i : Bytes) → IsAuthorised s a b i → Known s a b i
  unfolding Known authorised
  is_known i k = let r = from_within_filter (ends_within s a b.entries (length b.entries)) b.entries k.0 ((ends_of_chains s a b k.0).1 k.1) in (k.0, r.0, r.1, k.2)

  read_new : (i : Bytes) → Within (walk (length b.entries) s a [] b) i → i ≢ a.id
  read_new i w = λ q. both_ways _ (walk_new s a b (length b.entries) [] i w).0 (one_of i (a.id ∷ []) (inl (sym q)))

  walk_members : (i : Bytes) → Within (walk (length b.entries) s a [] b) i ↔ (IsAuthorised s a b i × (i ≢ a.id))
  walk_members i = (
    λ w. (known_is i (all_known (length b.entries) [] tt i w), read_new i w),
    λ k. ⊎_elim (λ v. v) (λ v. ⊎_elim (λ q. absurd (k.1 (sym q))) (λ n. absurd n) v) (all_read (length b.entries) [] (length_filter_le _ b.entries) i (is_known i k.0)),
  )

pub walk_as_said : WalkAsSaid
walk_as_said s a b = record { members = walk_members s a b; once = walk_once s a b (length b.entries) []; least_first = least_first s a b (length b.entries) }

-- the domains of authorised entries
pub trusted_as_said : TrustedAsSaid
trusted_as_said s a b = record {
  members = λ d. (
    λ w. let e = from_within_flat (λ e. e.domains) (authorised s a b) d (from_text_set _ d w) in (e.0, (ends_of_chains s a b e.0).0 e.1, e.2),
    λ k. within_text_set _ d (within_flat (λ e. e.domains) (authorised s a b) k.0 d ((ends_of_chains s a b k.0).1 k.1) k.2),
  );
  order = text_set-ascending _;
}

-- ---- the definition determines the walk

module _ (s : Bytes) (a : Agent) (b : Book) where
  -- what was read determines what is read next
  one_next : (rs : List Bytes) (i j : Bytes) → IsNextIdentity s a b rs i → IsNextIdentity s a b rs j → i ≡ j
  one_next rs i j m n = ⊎_elim (λ q. q) (λ f. ⊎_elim (λ q. sym q) (λ g. absurd (before-irrefl i (before-trans i j i f g))) (n.least i m.unread)) (m.least j n.unread)

  -- a walk that has ended doesn't go on
  ended : (front : List Bytes) (y : Bytes) (ys : List Bytes) → IsWalk s a b (front ++ []) → IsWalk s a b (front ++ y ∷ ys) → ⊥
  ended front y ys h k =
      let w : Within (front ++ []) y = (h.members y).1 ((k.members y).0 (within_right front (y ∷ ys) y (inl refl))) in
      ((k.least_first front y ys refl).unread).new (subst (λ l. Within l y) (append-nil front) w)

  rest_same : (front xs ys : List Bytes) → IsWalk s a b (front ++ xs) → IsWalk s a b (front ++ ys) → xs ≡ ys
  rest_same front [] [] h k = refl
  rest_same front [] (y ∷ ys) h k = absurd (ended front y ys h k)
  rest_same front (x ∷ xs) [] h k = absurd (ended front x xs k h)
  rest_same front (x ∷ xs) (y ∷ ys) h k =
      let q : x ≡ y = one_next front x y (h.least_first front x xs refl) (k.least_first front y ys refl) in
      let h' : IsWalk s a b ((front ++ x ∷ []) ++ xs) = subst (IsWalk s a b) (sym (append_assoc front (x ∷ []) xs)) h in
      let k' : IsWalk s a b ((front ++ x ∷ []) ++ ys) = subst (IsWalk s a b) (sym (append_assoc front (x ∷ []) ys)) (subst (λ z. IsWalk s a b (front ++ z ∷ ys)) (sym q) k) in
      let r : xs ≡ ys = rest_same (front ++ x ∷ []) xs ys h' k' in
      cc

pub one_walk : OneWalk
one_walk s a b read other h k = rest_same s a b [] read other h k

-- ---- the reads of the two operations

agent_is : (k : Bytes) (a : Agent) (b : Book) → AscendingBook b → Within b.agents a → a.id ≡ k → agent_at k b ≡ Some a
agent_is k a b ordered w e = ap first (row_alone agent_key k b.agents a ordered.agents w e)

pub authorised_reads : AuthorisedReads
authorised_reads own_domain k a b ordered w e = (walk (length b.entries) (server_text own_domain) a [] b, walk_as_said (server_text own_domain) a b, ap (λ o. mark.Agent k ∷ for_agent_marks o (λ a. walk_marks (server_text own_domain) a b)) (agent_is k a b ordered w e))

pub trust_reads : TrustReads
trust_reads own_domain k a b ordered w e = (walk (length b.entries) (server_text own_domain) a [] b, domains_of (authorised (server_text own_domain) a b), walk_as_said (server_text own_domain) a b, trusted_as_said (server_text own_domain) a b, ap (λ o. mark.Agent k ∷ for_agent_marks o (λ a. trust_marks (server_text own_domain) a b)) (agent_is k a b ordered w e))

no_agent : (k : Bytes) (b : Book) → (HasAgent b k → ⊥) → (o : Option Agent) → agent_at k b ≡ o → o ≡ None
no_agent k b n None e = refl
no_agent k b n (Some a) e = let r = at_row agent_key k b.agents a e in absurd (n (a, r.0, r.1))

pub missing_reads : MissingReads
missing_reads own_domain k b n =
    let q : agent_at k b ≡ None = no_agent k b n (agent_at k b) refl in
    (ap (λ o. mark.Agent k ∷ for_agent_marks o (λ a. walk_marks (server_text own_domain) a b)) q, ap (λ o. mark.Agent k ∷ for_agent_marks o (λ a. trust_marks (server_text own_domain) a b)) q)
