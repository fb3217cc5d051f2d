-- A read-only batch, evaluated in one pass: its operations one after another, and the walk to an agent's authorised entries.
use Rattle.std.proofs.Common.{◌≡◌, ℕ, zero, suc, ◌+◌, ◌<◌, ◌≤◌, Bool, true, false, cond, List, [], ◌∷◌, ◌++◌, append_assoc, length, get_or, drop, Option, Some, None, Ok, Err, refl, sym, ap, ◌∙◌, arith, subst}
use Rattle.std.specs.Prelude.{IfSome, filter, bytes_eq, is_some, nat_lt, option_map, option_to_list}
use Rattle.std.specs.List.{AllByRecursion}
use Rattle.std.proofs.lemmas.Bool.{and_parts}
use Rattle.std.proofs.lemmas.List.{append-nil, at_drop_more, drop_all}
use Rattle.entry_book.specs.declared.agent.Agent.{Agent}
use Rattle.entry_book.specs.declared.bundle.Bundle.{Bundle}
use Rattle.entry_book.specs.declared.op.Op.{Op}
use Rattle.entry_book.specs.declared.reply.OpReply.{OpReply}
use Rattle.entry_book.specs.declared.reply.OpRefusal.{OpRefusal}
use Rattle.entry_book.specs.declared.reply.OpRefusal.TheVariants.{VersionGone}
use Rattle.entry_book.specs.declared.reply.ReplyOutcome.TheVariants.{Answered, Refused}
use Rattle.entry_book.specs.declared.reply.Refusal.{Refusal}
use Rattle.entry_book.specs.declared.reply.Refusal.TheVariants.{NotYet, TokenReused, OfOp, Full}
use Rattle.entry_book.specs.Authorised.{authorised, holds}
use Rattle.entry_book.specs.Batches.{Batch, IsMadeFor, is_query, is_question, past_place}
use Rattle.entry_book.specs.Book.{Book, AscendingBook, bundle_at, children_of}
use Rattle.entry_book.specs.History.{kept_under, refuses, reply_with, verdict, verdict_on, verdict_over, verdict_run, verdict_when}
use Rattle.entry_book.specs.Order.{Ascending, Within}
use Rattle.entry_book.specs.Ops.{OpEffect, op_of}
use Rattle.entry_book.specs.Rows.{Bytes, Entry, bundle_key}
use Rattle.entry_book.specs.Runs.{RunResult, then_run, run}
use Rattle.entry_book.specs.Writes.{after}
use Rattle.entry_book.proofs.Faults.{not_refused}
use Rattle.entry_book.proofs.Keys.{rows_at}
use Rattle.entry_book.proofs.Sets.{from_within_filter, length_filter_le}
use Rattle.version_book.specs.CommittedRows.{VersionState}
use Rattle.batch_work.specs.Questions.{answered, all_answered, bundles_at, walk_begun}
use Rattle.batch_work.specs.Reads.{found, unread}
use Rattle.batch_work.specs.WorkInvariants.{ReadsNone, going_on}
use Rattle.batch_work.specs.WalkStates.{WalkState, first_walk, walked}
use Rattle.batch_work.specs.Windows.{book_in}
use Rattle.batch_work.specs.Working.{Base, reply_there, version_read}
use Rattle.batch_work.proofs.WorkInvariants.{early_settles, going_more, gone_settles}
use Rattle.batch_work.proofs.Walks.{Known, fewer, found_inside, known_more, pending, walk_gives}
use Rattle.batch_work.proofs.WalkStates.{Reached, all_found_in, one_read, reached_first, waiting_is}

-- ---- the operations, one after another

pub question_at : (ops : List Op) (n : ℕ) (op : Op) → is_query ops ≡ true → n < length ops → op ≡ get_or ops n op → is_question op ≡ true
question_at [] n op q less e = absurd (omega arith)
question_at (x ∷ ops) zero op q less e = ap is_question e ∙ (and_parts (is_question x) _ q).0
question_at (x ∷ ops) (suc n) op q less e = question_at ops n op (and_parts (is_question x) _ q).1 (omega arith) e

module _ (domain : Bytes) (ops : List Op) (b : Book) where
  -- the rest of the run after n operations with these replies
  abbrev pub left : ℕ → List OpReply → RunResult
  left n replies = going_on replies [] n (run domain (drop n ops) b)

  here : (n : ℕ) (op : Op) (replies : List OpReply) → n < length ops → op ≡ get_or ops n op → left n replies ≡ going_on replies [] n (then_run (op_of domain op b) (λ d. run domain (drop (n + 1) ops) (after d.writes b)))
  here n op replies less e =
      at_drop_more (λ l. going_on replies [] n (run domain l b)) ops n op less
      ∙ ap (λ x. going_on replies [] n (run domain (x ∷ drop (n + 1) ops) b)) (sym e)

  pub asked_more : (n : ℕ) (op : Op) (replies : List OpReply) (reply : OpReply) → n < length ops → op ≡ get_or ops n op → op_of domain op b ≡ answered (Ok reply) → left n replies ≡ left (n + 1) (replies ++ reply ∷ [])
  asked_more n op replies reply less e is =
      let d : OpEffect = record { reply = reply; writes = [] } in
      here n op replies less e
      ∙ (ap (λ o. going_on replies [] n (then_run o (λ d. run domain (drop (n + 1) ops) (after d.writes b)))) is
      ∙ going_more replies [] n d (run domain (drop (n + 1) ops) b))

  pub asked_stop : (n : ℕ) (op : Op) (replies : List OpReply) (r : OpRefusal) → n < length ops → op ≡ get_or ops n op → op_of domain op b ≡ answered (Err r) → left n replies ≡ all_answered (Err (n, r))
  asked_stop n op replies r less e is =
      let q : n + 0 ≡ n = omega arith in
      here n op replies less e
      ∙ (ap (λ o. going_on replies [] n (then_run o (λ d. run domain (drop (n + 1) ops) (after d.writes b)))) is
      ∙ ap (λ m. Err (record { op = m; reason = r })) q)

  pub asked_all : (n : ℕ) (replies : List OpReply) → length ops ≤ n → left n replies ≡ all_answered (Ok replies)
  asked_all n replies end =
      ap (λ l. going_on replies [] n (run domain l b)) (drop_all n ops end)
      ∙ ap (λ l. Ok (record { replies = l; writes = [] })) (append-nil replies)

-- ---- the verdict

pub asked_replied : (batch : Batch) (place : ℕ) (b : Book) (query : Bool) (r : RunResult) (replies : List OpReply) → query ≡ true → r ≡ all_answered (Ok replies) → reply_with place (verdict_when query batch place b r) ≡ record { place = place; outcome = Answered replies }
asked_replied batch place b query r replies q e = ap (λ t. reply_with place (verdict_when t batch place b r)) q ∙ ap (λ x. reply_with place (verdict_when true batch place b x)) e

pub asked_refused : (batch : Batch) (place : ℕ) (b : Book) (query : Bool) (r : RunResult) (n : ℕ) (reason : OpRefusal) → query ≡ true → r ≡ all_answered (Err (n, reason)) → reply_with place (verdict_when query batch place b r) ≡ record { place = place; outcome = Refused (OfOp n reason) }
asked_refused batch place b query r n reason q e = ap (λ t. reply_with place (verdict_when t batch place b r)) q ∙ ap (λ x. reply_with place (verdict_when true batch place b x)) e

-- a read-only batch has no token
no_token : (token : Option Bytes) → (is_some token ≡ true → true ≡ false) → token ≡ None
no_token None h = refl
no_token (Some k) h = let q = h refl in cc

-- on the version that it reads, if this is there and the batch may run
pub asked_there : (batch : Batch) (base : Base) (s : VersionState) → IsMadeFor batch.domain batch → is_query batch.ops ≡ true → nat_lt base.newest.number batch.after ≡ false → Some s ≡ version_read (past_place batch.ops) base → reply_there batch base ≡ reply_with base.newest.number (verdict_run batch base.newest.number (book_in s))
asked_there batch base s made query early e =
    let n = base.newest.number in
    let b = book_in s in
    let k = (not_refused batch.domain batch.ops batch.token).0 made.no_fault in
    let none = no_token batch.token (λ t. sym query ∙ k.2 t) in
    ap (λ o. reply_with n (verdict batch n (option_map book_in o))) (sym e)
    ∙ (ap (λ t. reply_with n (cond t (refuses NotYet) (verdict_on batch n (Some b)))) early
    ∙ ap (λ t. reply_with n (verdict_over (kept_under t b) batch n b)) none)

-- if it reads no version, it is refused for this reason
pub refused_there : (batch : Batch) (base : Base) (refusal : Refusal) → ReadsNone batch base refusal → reply_there batch base ≡ record { place = base.newest.number; outcome = Refused refusal }
refused_there batch base NotYet none = sym (early_settles batch base none _ refl).reply_is
refused_there batch base TokenReused none = absurd none
refused_there batch base (OfOp n reason) none =
    let is : OfOp n reason ≡ OfOp 0 VersionGone = ap (λ m. OfOp m reason) none.0 ∙ ap (OfOp 0) none.1 in
    sym (gone_settles batch base none.2 none.3 _ (ap (λ r. record { place = base.newest.number; outcome = Refused r }) is)).reply_is
refused_there batch base (Full limit) none = absurd none

-- the version that it reads has the trust domain of the newest one
pub domain_read : (asked : Option ℕ) (base : Base) (s : VersionState) → IfSome base.earlier (λ earlier. earlier.domain ≡ base.newest.domain) → Some s ≡ version_read asked base → s.domain ≡ base.newest.domain
domain_read None base s same e = let q : s ≡ base.newest = cc in ap (λ s. s.domain) q
domain_read (Some n) base s same e = subst (λ o. IfSome o (λ earlier. earlier.domain ≡ base.newest.domain)) (sym e) same

-- ---- the bundles of domains, one after another

pub bundles_more : (b : Book) → Ascending bundle_key b.bundles → (ds : List Bytes) (n : ℕ) (d : Bytes) (found more : List Bundle) → n < length ds → d ≡ get_or ds n d → more ≡ found ++ option_to_list (bundle_at d b) → more ++ bundles_at b (drop (n + 1) ds) ≡ found ++ bundles_at b (drop n ds)
bundles_more b ordered ds n d found more less e is =
    let rest = bundles_at b (drop (n + 1) ds) in
    ap (λ l. l ++ rest) is
    ∙ (append_assoc found (option_to_list (bundle_at d b)) rest
    ∙ (ap (λ l. found ++ (l ++ rest)) (sym (rows_at bundle_key d b.bundles ordered))
    ∙ (ap (λ x. found ++ bundles_at b (x ∷ drop (n + 1) ds)) e
    ∙ sym (at_drop_more (λ l. found ++ bundles_at b l) ds n d less))))

-- ---- the walk

module _ (s : Bytes) (a : Agent) (b : Book) where
  -- After n reads, these identities were read. The number of entries with another identity and n add up to at most the number
  -- of entries.
  pub record Walking (n : ℕ) (w : WalkState) : Type 0 where
    pub read : List Bytes
    pub reached : Reached a read (found s a read b) w
    pub known : AllByRecursion (Known s a b) read
    pub left : length (pending s a b read) + n ≤ length b.entries

  child_inside : (p : Bytes) (e : Entry) → Within (children_of p b) e → Within b.entries e
  child_inside p e w = (from_within_filter (λ x. bytes_eq x.parent p) b.entries e w).0

  abbrev held : List Entry
  held = filter (holds s a) (children_of s b)

  held_inside : (e : Entry) → Within held e → Within b.entries e
  held_inside e w = child_inside s e (from_within_filter (holds s a) (children_of s b) e w).0

  module _ (ordered : AscendingBook b) where
    pub walk_begins : Walking 0 (walk_begun s a b)
    walk_begins = record {
      read = [];
      reached = all_found_in a b.entries ordered.entries [] (children_of a.id b) held (walked held (first_walk a))
          (all_found_in a b.entries ordered.entries [] held [] (first_walk a) (reached_first a) (λ e w. absurd w) held_inside)
          held_inside (child_inside a.id);
      known = tt;
      left = let l : length (pending s a b []) ≤ length b.entries = length_filter_le _ b.entries in omega arith;
    }

    unread_is : (n : ℕ) (w : WalkState) (is : List Bytes) (k : Walking n w) → w.pending ≡ is → unread a k.read (found s a k.read b) ≡ is
    unread_is n w is k e = sym (waiting_is a k.read (found s a k.read b) w k.reached) ∙ e

    pub walk_extends : (n : ℕ) (w : WalkState) (i : Bytes) (is : List Bytes) → Walking n w → w.pending ≡ i ∷ is → Walking (n + 1) (walked (children_of i b) (record w { pending = is }))
    walk_extends n w i is k e =
        let u = unread_is n w (i ∷ is) k e in
        record {
          read = i ∷ k.read;
          reached = all_found_in a b.entries ordered.entries (i ∷ k.read) (children_of i b) (found s a k.read b) (record w { pending = is })
              (one_read a k.read (found s a k.read b) w i is k.reached e) (found_inside s a b k.read) (child_inside i);
          known = known_more s a b k.read i is k.known u;
          left = let f = fewer s a b k.read i is u in let l = k.left in omega arith;
        }

    -- after as many reads as there are entries, no identity is pending
    pub none_waits : (n : ℕ) (w : WalkState) → Walking n w → length b.entries ≤ n → w.pending ≡ []
    none_waits n w k end = none w.pending refl
      where
        none : (is : List Bytes) → w.pending ≡ is → is ≡ []
        none [] e = refl
        none (i ∷ is) e = let f = fewer s a b k.read i is (unread_is n w (i ∷ is) k e) in let l = k.left in absurd (omega arith)

    pub walk_ends : (n : ℕ) (w : WalkState) → Walking n w → w.pending ≡ [] → w.found ≡ authorised s a b
    walk_ends n w k e = walk_gives s a b ordered.entries k.read k.known (unread_is n w [] k e) w.found k.reached.found_order k.reached.from_found k.reached.into_found
