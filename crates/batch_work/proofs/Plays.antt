-- The steps of an operation are its reads, and end with its result.
use Rattle.std.proofs.Common.{◌≡◌, ℕ, zero, suc, ◌+◌, ◌≤◌, Bool, true, false, cond, List, [], ◌∷◌, ◌++◌, length, map, drop, Option, Some, None, refl, sym, ap, subst, ◌∙◌, arith}
use Rattle.std.specs.Prelude.{filter, bytes_eq, flat_map, is_some, slice_get}
use Rattle.std.specs.List.{AllByRecursion}
use Rattle.std.proofs.lemmas.List.{append_assoc, append-nil}
use Rattle.spiffe_name.specs.Id.{server_text}
use Rattle.entry_book.specs.declared.agent.Agent.{Agent}
use Rattle.entry_book.specs.declared.bundle.Bundle.{Bundle}
use Rattle.entry_book.specs.declared.entry.NewEntry.{NewEntry}
use Rattle.entry_book.specs.declared.mode.DropMode.{DropMode}
use Rattle.entry_book.specs.declared.mode.DropMode.TheVariants as mode
use Rattle.entry_book.specs.declared.op.Op.{Op}
use Rattle.entry_book.specs.declared.op.Op.TheVariants.{Create, Update, Delete, Show, ShowAgent, ShowBundle, Children, Page, Authorised, Trust, Prune, SetAgent, DropAgent, SetBundle, DropBundle}
use Rattle.entry_book.specs.declared.reply.OpReply.TheVariants as replied
use Rattle.entry_book.specs.Rows.{Bytes, Entry, at_revision, bundle_key}
use Rattle.entry_book.specs.Order.{Within, first}
use Rattle.entry_book.specs.Book.{Book, AscendingBook, entry_at, agent_at, bundle_at, children_of, users_of}
use Rattle.entry_book.specs.Authorised.{authorised}
use Rattle.entry_book.specs.Ops.{OpResult, done, similar, lacking, put_named, put_unless_similar, create_over, is_stale, update_when, update_over, delete_when, delete_over, for_agent, agent_dropped, bundles_of, drop_in, drop_over, op_of}
use Rattle.entry_book.proofs.Keys.{at_row}
use Rattle.entry_book.specs.Authorised.{holds}
use Rattle.entry_book.specs.Pages.{listed, next_of}
use Rattle.entry_book.proofs.Sets.{length_filter_le, from_within_filter}
use Rattle.version_book.proofs.NamedRows.{reads_all}
use Rattle.version_book.specs.declared.mark.MarkKind.{MarkKind}
use Rattle.version_book.specs.declared.mark.MarkKind.TheVariants as mark
use Rattle.batch_work.specs.declared.phase.WalkFor.{WalkFor}
use Rattle.batch_work.specs.declared.phase.WalkFor.TheVariants as walk_for
use Rattle.batch_work.specs.declared.phase.Phase.TheVariants as phase
use Rattle.batch_work.specs.declared.phase.Next.{Next}
use Rattle.batch_work.specs.declared.phase.Next.TheVariants.{Continues, Ends}
use Rattle.batch_work.specs.Reads.{bundle_marks, marks_unless_similar, create_marks, update_marks_when, update_marks, drop_marks, found, unread, least_then, walk, walk_marks, for_agent_marks, domains_of, trust_marks, marks_of}
use Rattle.batch_work.specs.Steps.{next_bundle, bundles_next, bundle_next, unless_similar_next, create_next, update_next_when, update_next, delete_next_when, delete_next, for_agent_next, drop_next, users_next, next_trusted, trusted_next, agent_gone, walk_end, identity_next, walk_next, ContinuesWith, Plays}
use Rattle.batch_work.specs.WalkStates.{WalkState, first_walk, walked}
use Rattle.batch_work.proofs.Walks.{Known, found_inside, known_more, walk_gives, pending, fewer}
use Rattle.batch_work.proofs.WalkStates.{Reached, reached_first, all_found_in, waiting_is, one_read}
use Rattle.batch_work.proofs.TrustedBundles.{named_bundles}

abbrev Turn : Bytes → Op → Book → Next → List MarkKind → OpResult → Type 0
Turn s op b n ms o = ContinuesWith n ms o (λ q. Plays s op q b ms o)

-- ---- lists by index

at_place : {X : Type 0} (xs : List X) (n : ℕ) → drop n xs ≡ [] → slice_get xs n ≡ None
at_place [] n e = refl
at_place (x ∷ xs) zero e = cc
at_place (x ∷ xs) (suc n) e = at_place xs n e

pub cons_apart : {X : Type 0} (y : X) (ys : List X) → [] ≡ y ∷ ys → ⊥
cons_apart y ys e = cc

pub at_item : {X : Type 0} (xs : List X) (n : ℕ) (y : X) (ys : List X) → drop n xs ≡ y ∷ ys → (slice_get xs n ≡ Some y) × (drop (n + 1) xs ≡ ys)
at_item [] zero y ys e = let z : ⊥ = cons_apart y ys e in absurd z
at_item [] (suc n) y ys e = let z : ⊥ = cons_apart y ys e in absurd z
at_item (x ∷ xs) zero y ys e = let q : x ≡ y = cc in let r : xs ≡ ys = cc in (ap Some q, r)
at_item (x ∷ xs) (suc n) y ys e = let q : suc n + 1 ≡ suc (n + 1) = omega arith in let r = at_item xs n y ys e in (r.0, rw q r.1)

module _ (s : Bytes) (op : Op) (b : Book) where
  -- ---- an entry that is put

  bundles_turn : (old : Option Entry) (e : Entry) (ds : List Bytes) (n : ℕ) → drop n e.domains ≡ ds → Turn s op b (bundles_next old e n) (bundle_marks ds b) (put_named (lacking ds b) old e)
  bundles_turn old e [] n h = subst (λ d. Turn s op b (next_bundle d old e n) [] (put_named None old e)) (sym (at_place e.domains n h)) (refl, refl)
  bundles_turn old e (d ∷ ds) n h =
      let k = at_item e.domains n d ds h in
      let rest : (t : Bool) → is_some (bundle_at d b) ≡ t → Turn s op b (bundle_next t old e d (n + 1)) (cond t (bundle_marks ds b) []) (put_named (cond t (lacking ds b) (Some d)) old e) = λ t. elim t as (λ t. is_some (bundle_at d b) ≡ t → Turn s op b (bundle_next t old e d (n + 1)) (cond t (bundle_marks ds b) []) (put_named (cond t (lacking ds b) (Some d)) old e)) [
        | true ↦ λ q. bundles_turn old e ds (n + 1) k.1
        | false ↦ λ q. (refl, refl)
      ] in
      subst (λ x. Turn s op b (next_bundle x old e n) (bundle_marks (d ∷ ds) b) (put_named (lacking (d ∷ ds) b) old e)) (sym k.0) (refl, rest (is_some (bundle_at d b)) refl)

  unless_similar_turn : (p : Option Entry) (old : Option Entry) (e : Entry) → Turn s op b (unless_similar_next p old e) (marks_unless_similar p e b) (put_unless_similar p old e b)
  unless_similar_turn (Some o) old e = (refl, refl)
  unless_similar_turn None old e = bundles_turn old e e.domains 0 refl

  create_turn : (o : Option Entry) (e : NewEntry) → Turn s op b (create_next o e) (create_marks o (at_revision 0 e) b) (create_over o (at_revision 0 e) b)
  create_turn (Some o) e = (refl, refl)
  create_turn None e = (refl, unless_similar_turn (similar (at_revision 0 e) b) None (at_revision 0 e))

  update_turn_when : (t : Bool) (old : Entry) (e : NewEntry) → Turn s op b (update_next_when t old e) (update_marks_when t (at_revision (old.revision + 1) e) b) (update_when t old e b)
  update_turn_when true old e = (refl, refl)
  update_turn_when false old e = (refl, unless_similar_turn (similar (at_revision (old.revision + 1) e) b) (Some old) (at_revision (old.revision + 1) e))

  update_turn : (o : Option Entry) (e : NewEntry) (expected : Option ℕ) → Turn s op b (update_next o e expected) (update_marks o e expected b) (update_over o e expected b)
  update_turn None e expected = (refl, refl)
  update_turn (Some old) e expected = update_turn_when (is_stale expected old) old e

  delete_turn_when : (t : Bool) (e : Entry) → Turn s op b (delete_next_when t e) [] (delete_when t e)
  delete_turn_when true e = (refl, refl)
  delete_turn_when false e = (refl, refl)

  delete_turn : (o : Option Entry) (expected : Option ℕ) → Turn s op b (delete_next o expected) [] (delete_over o expected)
  delete_turn None expected = (refl, refl)
  delete_turn (Some e) expected = delete_turn_when (is_stale expected e) e

  -- ---- a bundle that is dropped

  users_turn : (m : DropMode) (es : List Entry) (d : Bundle) → Turn s op b (users_next m es d) [] (drop_in m es d)
  users_turn mode.Restrict [] d = (refl, refl)
  users_turn mode.Restrict (e ∷ es) d = (refl, refl)
  users_turn mode.Delete es d = (refl, refl)
  users_turn mode.Dissociate es d = (refl, refl)

  drop_turn : (o : Option Bundle) (domain : Bytes) (m : DropMode) → ((d : Bundle) → o ≡ Some d → d.domain ≡ domain) → Turn s op b (drop_next o domain m) (drop_marks o domain) (drop_over o domain m b)
  drop_turn None domain m h = (refl, refl)
  drop_turn (Some d) domain m h = (ap mark.Users (sym (h d refl)), users_turn m (users_of d.domain b) d)

  -- ---- authorised entries

  trusted_turn : (rest : List Bytes) (ds : List Bytes) (n : ℕ) (bs : List Bundle) → drop n ds ≡ rest → Turn s op b (trusted_next ds n bs) (map mark.Bundle rest) (done (replied.Bundles (bs ++ flat_map (λ d. filter (λ x. bytes_eq x.domain d) b.bundles) rest)) [])
  trusted_turn [] ds n bs h = subst (λ d. Turn s op b (next_trusted d ds n bs) [] (done (replied.Bundles (bs ++ [])) [])) (sym (at_place ds n h)) (refl, ap (λ l. done (replied.Bundles l) []) (append-nil bs))
  trusted_turn (d ∷ rest) ds n bs h =
      let k = at_item ds n d rest h in
      let rows : List Bundle = filter (λ x. bytes_eq x.domain d) b.bundles in
      let all : List Bundle = flat_map (λ d. filter (λ x. bytes_eq x.domain d) b.bundles) rest in
      subst (λ x. Turn s op b (next_trusted x ds n bs) (mark.Bundle d ∷ map mark.Bundle rest) (done (replied.Bundles (bs ++ (rows ++ all))) [])) (sym k.0)
      (refl, subst (λ l. Turn s op b (trusted_next ds (n + 1) (bs ++ rows)) (map mark.Bundle rest) (done (replied.Bundles l) [])) (append_assoc bs rows all) (trusted_turn rest ds (n + 1) (bs ++ rows) k.1))

  module _ (ordered : AscendingBook b) (a : Agent) (ask : WalkFor) (tail : List MarkKind) (o : OpResult) (ending : Turn s op b (walk_end ask (authorised s a b)) tail o) where
    child_inside : (p : Bytes) (e : Entry) → Within (children_of p b) e → Within b.entries e
    child_inside p e w = (from_within_filter (λ x. bytes_eq x.parent p) b.entries e w).0

    ended : (rs : List Bytes) (w : WalkState) → Reached a rs (found s a rs b) w → AllByRecursion (Known s a b) rs → unread a rs (found s a rs b) ≡ [] → Turn s op b (walk_end ask w.found) tail o
    ended rs w r k u = subst (λ es. Turn s op b (walk_end ask es) tail o) (sym (walk_gives s a b ordered.entries rs k u w.found r.found_order r.from_found r.into_found)) ending

    -- the children of one more identity were read
    continues : (rs : List Bytes) (w : WalkState) (i : Bytes) (is : List Bytes) → Reached a rs (found s a rs b) w → w.pending ≡ i ∷ is → Reached a (i ∷ rs) (found s a (i ∷ rs) b) (walked (children_of i b) (record w { pending = is }))
    continues rs w i is r h = all_found_in a b.entries ordered.entries (i ∷ rs) (children_of i b) (found s a rs b) (record w { pending = is }) (one_read a rs (found s a rs b) w i is r h) (found_inside s a b rs) (child_inside i)

    walk_turn : (n : ℕ) (rs : List Bytes) (w : WalkState) → Reached a rs (found s a rs b) w → AllByRecursion (Known s a b) rs → length (pending s a b rs) ≤ n → Turn s op b (walk_next ask w) (map mark.Children (walk n s a rs b) ++ tail) o
    walk_turn zero rs w r k l = none w.pending refl
      where
        none : (us : List Bytes) → w.pending ≡ us → Turn s op b (identity_next us ask w) tail o
        none [] e = ended rs w r k (sym (waiting_is a rs (found s a rs b) w r) ∙ e)
        none (i ∷ is) e = let f = fewer s a b rs i is (sym (waiting_is a rs (found s a rs b) w r) ∙ e) in absurd (omega arith)
    walk_turn (suc n) rs w r k l =
        subst (λ us. Turn s op b (walk_next ask w) (map mark.Children (least_then (first us) (λ i. walk n s a (i ∷ rs) b)) ++ tail) o) (waiting_is a rs (found s a rs b) w r)
        (some w.pending refl (λ i is e. let u = sym (waiting_is a rs (found s a rs b) w r) ∙ e in walk_turn n (i ∷ rs) (walked (children_of i b) (record w { pending = is })) (continues rs w i is r e) (known_more s a b rs i is k u) (let f = fewer s a b rs i is u in omega arith)))
      where
        some : (us : List Bytes) → w.pending ≡ us → ((i : Bytes) (is : List Bytes) → w.pending ≡ i ∷ is → Turn s op b (walk_next ask (walked (children_of i b) (record w { pending = is }))) (map mark.Children (walk n s a (i ∷ rs) b) ++ tail) o) → Turn s op b (identity_next us ask w) (map mark.Children (least_then (first us) (λ i. walk n s a (i ∷ rs) b)) ++ tail) o
        some [] e further = ended rs w r k (sym (waiting_is a rs (found s a rs b) w r) ∙ e)
        some (i ∷ is) e further = (refl, further i is e)

    abbrev held : List Entry
    held = filter (holds s a) (children_of s b)

    held_inside : (e : Entry) → Within held e → Within b.entries e
    held_inside e w = child_inside s e (from_within_filter (holds s a) (children_of s b) e w).0

    own_turn : (w : WalkState) → Reached a [] held w → length (pending s a b []) ≤ length b.entries → Plays s op (phase.OfAgent ask w) b (mark.Children a.id ∷ (map mark.Children (walk (length b.entries) s a [] b) ++ tail)) o
    own_turn w r l = (
      ap (λ x. mark.Children x.id) (sym r.agent_is),
      subst (λ x. Turn s op b (walk_next ask (walked (children_of x.id b) w)) (map mark.Children (walk (length b.entries) s a [] b) ++ tail) o) (sym r.agent_is)
          (walk_turn (length b.entries) [] (walked (children_of a.id b) w) (all_found_in a b.entries ordered.entries [] (children_of a.id b) held w r held_inside (child_inside a.id)) tt l),
    )

    server_turn : length (pending s a b []) ≤ length b.entries → Turn s op b (Continues (phase.Server ask a)) (walk_marks s a b ++ tail) o
    server_turn l = (refl, own_turn (walked held (first_walk a)) (all_found_in a b.entries ordered.entries [] held [] (first_walk a) (reached_first a) (λ e w. absurd w) held_inside) l)

  all_inside : (a : Agent) → length (pending s a b []) ≤ length b.entries
  all_inside a = length_filter_le _ b.entries

  walk_plays : AscendingBook b → (a : Agent) (ask : WalkFor) (tail : List MarkKind) (o : OpResult) → Turn s op b (walk_end ask (authorised s a b)) tail o → Turn s op b (Continues (phase.Server ask a)) (walk_marks s a b ++ tail) o
  walk_plays ordered a ask tail o ending = server_turn ordered a ask tail o ending (all_inside a)

  agent_turn : (ask : WalkFor) (f : Agent → OpResult) (m : Agent → List MarkKind) → ((a : Agent) → Turn s op b (Continues (phase.Server ask a)) (m a) (f a)) → (o : Option Agent) → Turn s op b (for_agent_next o (λ a. Continues (phase.Server ask a))) (for_agent_marks o m) (for_agent o f)
  agent_turn ask f m h None = (refl, refl)
  agent_turn ask f m h (Some a) = h a

  authorised_turn : AscendingBook b → (a : Agent) → Turn s op b (Continues (phase.Server walk_for.Entries a)) (walk_marks s a b) (done (replied.Entries (authorised s a b)) [])
  authorised_turn ordered a = subst (λ ms. Turn s op b (Continues (phase.Server walk_for.Entries a)) ms (done (replied.Entries (authorised s a b)) [])) (append-nil (walk_marks s a b)) (walk_plays ordered a walk_for.Entries [] (done (replied.Entries (authorised s a b)) []) (refl, refl))

  trust_turn : AscendingBook b → (a : Agent) → Turn s op b (Continues (phase.Server walk_for.Bundles a)) (trust_marks s a b) (done (replied.Bundles (bundles_of (authorised s a b) b)) [])
  trust_turn ordered a =
      let ds : List Bytes = domains_of (authorised s a b) in
      walk_plays ordered a walk_for.Bundles (map mark.Bundle ds) (done (replied.Bundles (bundles_of (authorised s a b) b)) [])
      (subst (λ l. Turn s op b (trusted_next ds 0 []) (map mark.Bundle ds) (done (replied.Bundles l) [])) (named_bundles (authorised s a b) b ordered.bundles) (trusted_turn ds ds 0 [] refl))

  dropped_turn : (o : Option Agent) → Turn s op b (for_agent_next o (λ a. Ends (replied.Agent a) (agent_gone a ∷ []))) [] (for_agent o agent_dropped)
  dropped_turn None = (refl, refl)
  dropped_turn (Some a) = (refl, refl)

-- each operation, from its first read on
pub plays : (own_domain : Bytes) (op : Op) (b : Book) → AscendingBook b → Plays (server_text own_domain) op phase.First b (marks_of own_domain op b) (op_of own_domain op b)
plays own_domain (Create e) b ordered = (refl, create_turn (server_text own_domain) (Create e) b (entry_at e.id b) e)
plays own_domain (Update e expected) b ordered = (refl, update_turn (server_text own_domain) (Update e expected) b (entry_at e.id b) e expected)
plays own_domain (Delete k expected) b ordered = (refl, delete_turn (server_text own_domain) (Delete k expected) b (entry_at k b) expected)
plays own_domain (Show k) b ordered = (refl, (refl, refl))
plays own_domain (ShowAgent k) b ordered = (refl, (refl, refl))
plays own_domain (ShowBundle d) b ordered = (refl, (refl, refl))
plays own_domain (Children p) b ordered = (refl, (refl, refl))
plays own_domain (Page q) b ordered = (refl, (refl, sym (ap (λ r. done (replied.Page (listed q r) (next_of q r)) []) (reads_all b))))
plays own_domain (Authorised k) b ordered = (refl, agent_turn (server_text own_domain) (Authorised k) b walk_for.Entries _ _ (authorised_turn (server_text own_domain) (Authorised k) b ordered) (agent_at k b))
plays own_domain (Trust k) b ordered = (refl, agent_turn (server_text own_domain) (Trust k) b walk_for.Bundles _ _ (trust_turn (server_text own_domain) (Trust k) b ordered) (agent_at k b))
plays own_domain (Prune moment) b ordered = (refl, (refl, refl))
plays own_domain (SetAgent a) b ordered = (refl, (refl, refl))
plays own_domain (DropAgent k) b ordered = (refl, dropped_turn (server_text own_domain) (DropAgent k) b (agent_at k b))
plays own_domain (SetBundle d text) b ordered = (refl, (refl, refl))
plays own_domain (DropBundle d m) b ordered = (refl, drop_turn (server_text own_domain) (DropBundle d m) b (bundle_at d b) d m (λ x e. (at_row bundle_key d b.bundles x e).1))
