-- An agent's answers depend on the rows that it may see, and on no others.
use Rattle.std.proofs.Common.{◌≡◌, ◌⊎◌, ℕ, ◌+◌, Bool, true, false, List, [], ◌∷◌, ◌++◌, Option, Some, None, Ok, Err, refl, sym, ap, subst, ◌∙◌, inl, inr, ⊎_elim, IfOk, IfSome}
use Rattle.std.specs.Prelude.{filter, option_to_list, bytes_eq}
use Rattle.std.specs.List.{AllByRecursion}
use Rattle.spiffe_name.specs.Id.{server_text}
use Rattle.entry_book.specs.declared.agent.Agent.{Agent}
use Rattle.entry_book.specs.declared.limit.Limit.{Limit}
use Rattle.entry_book.specs.declared.op.Op.TheVariants.{Authorised, Trust}
use Rattle.entry_book.specs.declared.reply.OpReply.{OpReply}
use Rattle.entry_book.specs.declared.reply.OpReply.TheVariants as replied
use Rattle.entry_book.specs.Rows.{Bytes, Entry, entry_key, agent_key, bundle_key}
use Rattle.entry_book.specs.Order.{Within, Ascending, with_row, first}
use Rattle.entry_book.specs.Book.{Book, AscendingBook, empty_book, agent_at}
use Rattle.entry_book.specs.Writes.{RowChange, RowWrite, wrote_entry, wrote_agent, wrote_bundle, wrote_token, FitsRows, FitsBook, FitAll, after, after_write}
use Rattle.entry_book.specs.Authorised.{Holds, Starts, FollowsOn, Linked, IsChain, EndsChain, authorised}
use Rattle.entry_book.specs.Ops.{OpResult, done, for_agent, is_named, bundles_of, op_of}
use Rattle.entry_book.specs.Runs.{RunResult, run}
use Rattle.entry_book.specs.Limits.{limit_passed}
use Rattle.entry_book.specs.Batches.{Batch, IsMadeFor, is_query, past_place}
use Rattle.entry_book.specs.History.{last_book, place_of, batch_writes, book_for, kept_under, adds_within, is_committed, Verdict, verdict_when, verdict_run, reply_with, books_with, books_after, books_from, commits}
use Rattle.entry_book.specs.Visible.{MaySee, IsAgent, SeenEntry, SeenBundle, HaveSame, ShowsSame, ShowsSameBundles, Spares, SparesAuthorised, SparesTrust, WriteOnly}
use Rattle.entry_book.proofs.Chains.{authorised_in_order, begun_is_authorised, ends_of_chains, next_is_authorised}
use Rattle.entry_book.proofs.EffectsOfQuestions.{named_is}
use Rattle.entry_book.proofs.Fits.{write_in_order}
use Rattle.entry_book.proofs.Histories.{asks_with, last-snoc, some_is}
use Rattle.entry_book.proofs.Keys.{at_row, from_with_row, within_with_row}
use Rattle.entry_book.proofs.Listed.{one_is}
use Rattle.entry_book.proofs.OfVerdict.{of_verdict}
use Rattle.entry_book.proofs.PastPages.{past_asks}
use Rattle.entry_book.proofs.Sets.{ascending_filter, from_within_filter, same_sets, text_is, text_same, within_filter}
use Rattle.entry_book.proofs.TokenRows.{batch_fits_book}

-- ---- the authorised entries

-- what holds of a chain's first entry, and of an entry if of the one before it, holds of the entry in which a chain ends
module _ (s : Bytes) (a : Agent) (b : Book) (P : Entry → Type 0) (begin : (e : Entry) → Within b.entries e → Holds s a e ⊎ (e.parent ≡ a.id) → P e) (next : (d e : Entry) → P d → Within b.entries e → e.parent ≡ d.identity → P e) where
  along : (d : Entry) (mid : List Entry) (e : Entry) → P d → AllByRecursion (Within b.entries) (mid ++ e ∷ []) → FollowsOn d (mid ++ e ∷ []) → P e
  along d [] e p all f = next d e p all.0 f.0
  along d (x ∷ xs) e p all f = along x xs e (next d x p all.0 f.0) all.1 f.1

  of_front : (front : List Entry) (e : Entry) → AllByRecursion (Within b.entries) (front ++ e ∷ []) → Starts s a (front ++ e ∷ []) → Linked (front ++ e ∷ []) → P e
  of_front [] e all h l = begin e all.0 h
  of_front (x ∷ xs) e all h l = along x xs e (begin x all.0 h) all.1 l

  by_chain : (e : Entry) → EndsChain s a b e → P e
  by_chain e k = let chain : IsChain s a b (k.0 ++ e ∷ []) = k.1 in of_front k.0 e chain.of_book chain.start chain.linked

begun : (s : Bytes) (a : Agent) (b : Book) (e : Entry) → Within b.entries e → Holds s a e ⊎ (e.parent ≡ a.id) → EndsChain s a b e
begun s a b e w h = (ends_of_chains s a b e).0 (begun_is_authorised s a b e w h)

longer : (s : Bytes) (a : Agent) (b : Book) (d e : Entry) → EndsChain s a b d → Within b.entries e → e.parent ≡ d.identity → EndsChain s a b e
longer s a b d e k w q = (ends_of_chains s a b e).0 (next_is_authorised s a b d e w ((ends_of_chains s a b d).1 k) q)

seen_first : (s : Bytes) (a : Agent) (b : Book) (e : Entry) → Holds s a e ⊎ (e.parent ≡ a.id) → MaySee s a b e
seen_first s a b e h = ⊎_elim (λ l. inl l) (λ q. inr (inl q)) h

module _ (s : Bytes) (a : Agent) (b c : Book) (h : HaveSame (MaySee s a b) b.entries c.entries) where
  -- the entry ends a chain in both books
  there : (e : Entry) → EndsChain s a b e → EndsChain s a b e × EndsChain s a c e
  there = by_chain s a b (λ e. EndsChain s a b e × EndsChain s a c e)
      (λ e w l. (begun s a b e w l, begun s a c e ((h e (seen_first s a b e l)).0 w) l))
      (λ d e p w q. (longer s a b d e p.0 w q, longer s a c d e p.1 ((h e (inr (inr (d, p.0, q)))).0 w) q))

  back : (e : Entry) → EndsChain s a c e → EndsChain s a b e
  back = by_chain s a c (EndsChain s a b)
      (λ e w l. begun s a b e ((h e (seen_first s a b e l)).1 w) l)
      (λ d e p w q. longer s a b d e p ((h e (inr (inr (d, p, q)))).1 w) q)

pub authorised_by_seen : (s : Bytes) (a : Agent) (b c : Book) → Ascending entry_key b.entries → Ascending entry_key c.entries → HaveSame (MaySee s a b) b.entries c.entries → authorised s a c ≡ authorised s a b
authorised_by_seen s a b c x y h = same_sets entry_key (authorised s a c) (authorised s a b) (authorised_in_order s a c y) (authorised_in_order s a b x)
    (λ e w. (ends_of_chains s a b e).1 (back s a b c h e ((ends_of_chains s a c e).0 w)))
    (λ e w. (ends_of_chains s a c e).1 (there s a b c h e ((ends_of_chains s a b e).0 w)).1)

-- ---- the answers

same_filter : {X : Type 0} (key : X → Bytes) (Is : X → Type 0) (p : X → Bool) (xs ys : List X) → ((x : X) → p x ≡ true → Is x) → Ascending key xs → Ascending key ys → HaveSame Is xs ys → filter p ys ≡ filter p xs
same_filter key Is p xs ys f a b h = same_sets key (filter p ys) (filter p xs) (ascending_filter key p ys b) (ascending_filter key p xs a)
    (λ x w. let r = from_within_filter p ys x w in within_filter p xs x ((h x (f x r.1)).1 r.0) r.1)
    (λ x w. let r = from_within_filter p xs x w in within_filter p ys x ((h x (f x r.1)).0 r.0) r.1)

same_agent : (k : Bytes) (b c : Book) → AscendingBook b → AscendingBook c → HaveSame (IsAgent k) b.agents c.agents → agent_at k c ≡ agent_at k b
same_agent k b c x y h = ap first (same_filter agent_key (IsAgent k) (λ a. bytes_eq a.id k) b.agents c.agents (λ a e. text_is a.id k e) x.agents y.agents h)

-- the results of two operations on the same agent
module _ (k : Bytes) (b c : Book) (f g : Agent → OpResult) (same : (a : Agent) → Within b.agents a → a.id ≡ k → g a ≡ f a) where
  same_for : (o : Option Agent) → agent_at k b ≡ o → for_agent o g ≡ for_agent o f
  same_for None e = refl
  same_for (Some a) e = let r = at_row agent_key k b.agents a e in same a r.0 r.1

  same_result : agent_at k c ≡ agent_at k b → for_agent (agent_at k c) g ≡ for_agent (agent_at k b) f
  same_result q = ap (λ o. for_agent o g) q ∙ same_for (agent_at k b) refl

module _ (server k : Bytes) (b c : Book) (x : AscendingBook b) (y : AscendingBook c) (h : ShowsSame server k b c) where
  same_entries : (a : Agent) → Within b.agents a → a.id ≡ k → authorised server a c ≡ authorised server a b
  same_entries a w q = authorised_by_seen server a b c x.entries y.entries (λ e i. h.entries e (a, w, q, i))

  same_bundles : ShowsSameBundles server k b c → (a : Agent) → Within b.agents a → a.id ≡ k → bundles_of (authorised server a c) c ≡ bundles_of (authorised server a b) b
  same_bundles t a w q =
      ap (λ es. bundles_of es c) (same_entries a w q)
      ∙ same_filter bundle_key (SeenBundle server k b) (is_named (authorised server a b)) b.bundles c.bundles (λ d e. (a, w, q, (named_is server a b d).0 e)) x.bundles y.bundles t

pub same_authorised : (own_domain k : Bytes) (b c : Book) → AscendingBook b → AscendingBook c → ShowsSame (server_text own_domain) k b c → op_of own_domain (Authorised k) c ≡ op_of own_domain (Authorised k) b
same_authorised own_domain k b c x y h =
    let s = server_text own_domain in
    same_result k b c (λ a. done (replied.Entries (authorised s a b)) []) (λ a. done (replied.Entries (authorised s a c)) [])
    (λ a w q. ap (λ es. done (replied.Entries es) []) (same_entries s k b c x y h a w q))
    (same_agent k b c x y h.agent)

pub same_trust : (own_domain k : Bytes) (b c : Book) → AscendingBook b → AscendingBook c → ShowsSame (server_text own_domain) k b c → ShowsSameBundles (server_text own_domain) k b c → op_of own_domain (Trust k) c ≡ op_of own_domain (Trust k) b
same_trust own_domain k b c x y h t =
    let s = server_text own_domain in
    same_result k b c (λ a. done (replied.Bundles (bundles_of (authorised s a b) b)) []) (λ a. done (replied.Bundles (bundles_of (authorised s a c) c)) [])
    (λ a w q. ap (λ ds. done (replied.Bundles ds) []) (same_bundles s k b c x y h t a w q))
    (same_agent k b c x y h.agent)

-- ---- writes of other rows

module _ {X : Type 0} (key : X → Bytes) (Is : X → Type 0) where
  not_of : (o : Option X) (x : X) → IfSome o (λ y. Is y → ⊥) → Within (option_to_list o) x → Is x → ⊥
  not_of None x h w i = w
  not_of (Some y) x h w i = h (subst Is (one_is y x w) i)

  same_after : (c : RowChange X) (kept rows : List X) → FitsRows key c rows → Spares Is c → HaveSame Is kept rows → HaveSame Is kept (with_row key c.key c.new rows)
  same_after c kept rows f s h = λ x i. (
    λ w.
        let v = (h x i).0 w in
        within_with_row key c.key c.new rows x v (λ e. not_of c.old x s.0 (subst (λ l. Within l x) f.found (within_filter (λ y. bytes_eq (key y) c.key) rows x v (text_same (key x) c.key e))) i),
    λ w. (h x i).1 (⊎_elim (λ n. absurd (not_of c.new x s.1 n i)) (λ r. r.0) (from_with_row key c.key c.new rows x w)),
  )

-- the rows of a later book, and which of them are those of the first
record Still (server k : Bytes) (b c : Book) : Type 0 where
  order : AscendingBook c
  same : ShowsSame server k b c

module _ (server k : Bytes) (b : Book) where
  still_after : (w : RowWrite) (c : Book) → FitsBook w c → SparesAuthorised server k b w → Still server k b c → Still server k b (after_write w c)
  still_after (wrote_entry x) c f s r = record { order = write_in_order (wrote_entry x) c r.order f; same = record { agent = r.same.agent; entries = same_after entry_key (SeenEntry server k b) x b.entries c.entries f s r.same.entries } }
  still_after (wrote_agent x) c f s r = record { order = write_in_order (wrote_agent x) c r.order f; same = record { agent = same_after agent_key (IsAgent k) x b.agents c.agents f s r.same.agent; entries = r.same.entries } }
  still_after (wrote_bundle x) c f s r = record { order = write_in_order (wrote_bundle x) c r.order f; same = record { agent = r.same.agent; entries = r.same.entries } }
  still_after (wrote_token x) c f s r = record { order = write_in_order (wrote_token x) c r.order f; same = record { agent = r.same.agent; entries = r.same.entries } }

  both_after : (w : RowWrite) (c : Book) → FitsBook w c → SparesTrust server k b w → Still server k b c × ShowsSameBundles server k b c → Still server k b (after_write w c) × ShowsSameBundles server k b (after_write w c)
  both_after (wrote_entry x) c f s r = (still_after (wrote_entry x) c f s r.0, r.1)
  both_after (wrote_agent x) c f s r = (still_after (wrote_agent x) c f s r.0, r.1)
  both_after (wrote_bundle x) c f s r = (still_after (wrote_bundle x) c f tt r.0, same_after bundle_key (SeenBundle server k b) x b.bundles c.bundles f s r.1)
  both_after (wrote_token x) c f s r = (still_after (wrote_token x) c f tt r.0, r.1)

-- ---- batches with such writes alone: what each of these writes keeps holds of the last book after them

module _ (R : Book → Type 0) (Is : RowWrite → Type 0) (order : (c : Book) → R c → AscendingBook c) (step : (w : RowWrite) (c : Book) → FitsBook w c → Is w → R c → R (after_write w c)) where
  after_all : (ws : List RowWrite) (c : Book) → FitAll ws c → AllByRecursion Is ws → R c → R (after ws c)
  after_all [] c f h r = r
  after_all (w ∷ ws) c f h r = after_all ws (after_write w c) f.1 h.1 (step w c f.0 h.0 r)

  -- whether the verdict commits the batch
  abbrev Commits : List Book → Verdict → Type 0
  Commits books v = is_committed (reply_with (place_of books) v).outcome ≡ true

  abbrev HasWrites : Batch → ℕ → RunResult → Type 0
  HasWrites batch n r = IfOk r (λ t. AllByRecursion Is (batch_writes batch n t))

  keeps_within : (books : List Book) (c : Book) (replies : List OpReply) (o : Option Limit) → R (last_book books) → (Commits books (adds_within o replies c) → R c) → R (last_book (books_with books (adds_within o replies c)))
  keeps_within books c replies (Some limit) r h = r
  keeps_within books c replies None r h = subst R (sym (last-snoc empty_book books c)) (h refl)

  keeps_when : (query : Bool) (batch : Batch) (books : List Book) (b : Book) (o : RunResult) → R (last_book books) → R b → IfOk o (λ t. FitAll (batch_writes batch (place_of books + 1) t) b) → (Commits books (verdict_when query batch (place_of books) b o) → HasWrites batch (place_of books + 1) o) → R (last_book (books_with books (verdict_when query batch (place_of books) b o)))
  keeps_when query batch books b (Err s) r q f h = r
  keeps_when true batch books b (Ok t) r q f h = r
  keeps_when false batch books b (Ok t) r q f h =
      let ws = batch_writes batch (place_of books + 1) t in
      keeps_within books (after ws b) t.replies (limit_passed (place_of books) (after ws b)) r (λ e. after_all ws b f (h e) q)

  keeps_read : (own_domain : Bytes) (batch : Batch) (books : List Book) (b : Book) (o : Option ℕ) → past_place batch.ops ≡ o → IsMadeFor own_domain batch → R (last_book books) → book_for o books ≡ Some b → kept_under batch.token b ≡ None → (Commits books (verdict_run batch (place_of books) b) → HasWrites batch (place_of books + 1) (run batch.domain batch.ops (last_book books))) → R (last_book (books_with books (verdict_run batch (place_of books) b)))
  keeps_read own_domain batch books b None p m r e u h =
      let q : last_book books ≡ b = some_is (last_book books) b e in
      let n = place_of books + 1 in
      let rb : R b = subst R q r in
      keeps_when (is_query batch.ops) batch books b (run batch.domain batch.ops b) r rb (batch_fits_book batch n b (order b rb) u) (λ c. subst (λ x. HasWrites batch n (run batch.domain batch.ops x)) q (h c))
  keeps_read own_domain batch books b (Some n) p m r e u h = asks_with (λ bs. R (last_book bs)) books (is_query batch.ops) batch (place_of books) b (run batch.domain batch.ops b) (past_asks own_domain batch n m p) r

  keeps_after : (own_domain : Bytes) (batch : Batch) (books : List Book) → IsMadeFor own_domain batch → R (last_book books) → (commits batch books ≡ true → HasWrites batch (place_of books + 1) (run batch.domain batch.ops (last_book books))) → R (last_book (books_after batch books))
  keeps_after own_domain batch books m r h = of_verdict
      (λ v. (Commits books v → HasWrites batch (place_of books + 1) (run batch.domain batch.ops (last_book books))) → R (last_book (books_with books v)))
      batch
      (place_of books)
      (λ refusal h. r)
      (λ n replies h. r)
      (book_for (past_place batch.ops) books)
      (λ b e u. keeps_read own_domain batch books b (past_place batch.ops) refl m r e u)
      h

  keeps_from : (own_domain : Bytes) (books : List Book) (batches : List Batch) → AllByRecursion (IsMadeFor own_domain) batches → WriteOnly Is books batches → R (last_book books) → R (last_book (books_from books batches))
  keeps_from own_domain books [] m h r = r
  keeps_from own_domain books (x ∷ xs) m h r = keeps_from own_domain (books_after x books) xs m.1 h.1 (keeps_after own_domain x books m.0 r h.0)

still_first : (server k : Bytes) (b : Book) → AscendingBook b → Still server k b b
still_first server k b a = record { order = a; same = record { agent = λ x i. (λ w. w, λ w. w); entries = λ x i. (λ w. w, λ w. w) } }

pub authorised_stays : (own_domain k : Bytes) (books : List Book) (batches : List Batch) → AscendingBook (last_book books) → AllByRecursion (IsMadeFor own_domain) batches → WriteOnly (SparesAuthorised (server_text own_domain) k (last_book books)) books batches → op_of own_domain (Authorised k) (last_book (books_from books batches)) ≡ op_of own_domain (Authorised k) (last_book books)
authorised_stays own_domain k books batches a m h =
    let s = server_text own_domain in
    let b = last_book books in
    let r : Still s k b (last_book (books_from books batches)) = keeps_from (Still s k b) (SparesAuthorised s k b) (λ c r. r.order) (still_after s k b) own_domain books batches m h (still_first s k b a) in
    same_authorised own_domain k b (last_book (books_from books batches)) a r.order r.same

pub trust_stays : (own_domain k : Bytes) (books : List Book) (batches : List Batch) → AscendingBook (last_book books) → AllByRecursion (IsMadeFor own_domain) batches → WriteOnly (SparesTrust (server_text own_domain) k (last_book books)) books batches → op_of own_domain (Trust k) (last_book (books_from books batches)) ≡ op_of own_domain (Trust k) (last_book books)
trust_stays own_domain k books batches a m h =
    let s = server_text own_domain in
    let b = last_book books in
    let c = last_book (books_from books batches) in
    let r : Still s k b c × ShowsSameBundles s k b c = keeps_from (λ c. Still s k b c × ShowsSameBundles s k b c) (SparesTrust s k b) (λ c r. r.0.order) (both_after s k b) own_domain books batches m h (still_first s k b a, λ x i. (λ w. w, λ w. w)) in
    let q : Still s k b c = r.0 in
    same_trust own_domain k b c a q.order q.same r.1
