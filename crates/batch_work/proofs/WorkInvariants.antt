-- A read, and what it finds, preserve the invariant of a work.
use Rattle.std.proofs.Common.{◌≡◌, ℕ, zero, suc, ◌+◌, ◌*◌, ◌<◌, ◌≤◌, ◌^◌, Bool, true, false, cond, not, ◌&&◌, List, [], ◌∷◌, ◌++◌, length, drop, Option, Some, None, Ok, Err, IfOk, refl, sym, ap, subst, ◌∙◌, arith}
use Rattle.std.specs.Prelude.{nat_lt, is_ok, option_map}
use Rattle.std.specs.List.{AllByRecursion}
use Rattle.std.specs.Option.{option_map_or}
use Rattle.std.proofs.lemmas.List.{append_assoc, append-nil}
use Rattle.spiffe_name.specs.Id.{server_text}
use Rattle.entry_book.specs.declared.kept.KeptBatch.{KeptBatch}
use Rattle.entry_book.specs.declared.op.Op.{Op}
use Rattle.entry_book.specs.declared.reply.OpReply.{OpReply}
use Rattle.entry_book.specs.declared.reply.OpRefusal.{OpRefusal}
use Rattle.entry_book.specs.declared.reply.OpRefusal.TheVariants.{VersionGone}
use Rattle.entry_book.specs.declared.reply.ReplyOutcome.TheVariants.{Answered, Refused as WasRefused}
use Rattle.entry_book.specs.declared.reply.Refusal.TheVariants.{NotYet, OfOp}
use Rattle.entry_book.specs.declared.reply.Reply.{Reply}
use Rattle.entry_book.specs.Rows.{Bytes}
use Rattle.entry_book.specs.Book.{Book}
use Rattle.entry_book.specs.SameOps.{ops_eq}
use Rattle.entry_book.specs.Writes.{RowWrite, after}
use Rattle.entry_book.specs.Ops.{OpResult, OpEffect, op_of}
use Rattle.entry_book.specs.Runs.{RunEffect, RunResult, then_run, onto, run}
use Rattle.entry_book.specs.Batches.{Batch, IsMadeFor, IsProperOp, is_query, op_fault, past_place}
use Rattle.entry_book.specs.History.{kept_under, token_writes, batch_writes, verdict_when, verdict_again, reply_with}
use Rattle.entry_book.specs.Lawful.{Lawful}
use Rattle.entry_book.proofs.Changed.{after-append}
use Rattle.entry_book.proofs.Faults.{not_refused}
use Rattle.entry_book.proofs.Keeps.{op_keeps}
use Rattle.entry_book.proofs.PastPages.{changes_newest}
use Rattle.version_book.specs.declared.mark.MarkKind.{MarkKind}
use Rattle.version_book.specs.declared.mark.MarkKind.TheVariants as mark
use Rattle.version_book.specs.Marks.{reads}
use Rattle.version_book.specs.CommittedRows.{VersionState}
use Rattle.batch_work.specs.declared.phase.Phase.{Phase}
use Rattle.batch_work.specs.declared.phase.Phase.TheVariants as phase
use Rattle.batch_work.specs.declared.phase.Next.{Next}
use Rattle.batch_work.specs.declared.phase.Next.TheVariants.{Continues, Ends, Refused}
use Rattle.batch_work.specs.Reads.{Case, early, gone, kept, runs, case_on, marks_of, marks_after, marks_of_ops, token_marks, footprint_in, awaits_in, verdict_in}
use Rattle.batch_work.specs.Steps.{mark_of, advance, ContinuesWith, Plays}
use Rattle.batch_work.specs.Windows.{book_in}
use Rattle.batch_work.specs.Working.{Base, version_read, book_read, case_there, footprint_there}
use Rattle.batch_work.specs.WorkInvariants.{going_on, book_now, InTime, IsReadableVersion, InOps, later_marks, Going, Looked, IsReady, IsSettledWith}
use Rattle.batch_work.proofs.Cases.{verdict_by_case}
use Rattle.batch_work.proofs.Plays.{at_item, cons_apart, plays}

-- ---- runs that go on

pub going_none : (r : RunResult) → going_on [] [] 0 r ≡ r
going_none (Ok t) = refl
going_none (Err s) = let q : 0 + s.op ≡ s.op = omega arith in ap (λ n. Err (record { op = n; reason = s.reason })) q

pub going_more : (replies : List OpReply) (writes : List RowWrite) (n : ℕ) (d : OpEffect) (r : RunResult) → going_on replies writes n (onto d r) ≡ going_on (replies ++ d.reply ∷ []) (writes ++ d.writes) (n + 1) r
going_more replies writes n d (Ok t) = let p : replies ++ (d.reply ∷ t.replies) ≡ (replies ++ d.reply ∷ []) ++ t.replies = sym (append_assoc replies (d.reply ∷ []) t.replies) in let q : writes ++ (d.writes ++ t.writes) ≡ (writes ++ d.writes) ++ t.writes = sym (append_assoc writes d.writes t.writes) in rw (p, q) refl
going_more replies writes n d (Err s) = let q : n + (s.op + 1) ≡ n + 1 + s.op = omega arith in ap (λ m. Err (record { op = m; reason = s.reason })) q

-- ---- operations by index

next_ops : (ops : List Op) (n : ℕ) (op : Op) (rest : List Op) → drop n ops ≡ op ∷ rest → drop (n + 1) ops ≡ rest
next_ops ops n op rest e = (at_item ops n op rest e).1

op_at : (P : Op → Type 0) (ops : List Op) (n : ℕ) (op : Op) (rest : List Op) → AllByRecursion P ops → drop n ops ≡ op ∷ rest → P op
op_at P [] zero op rest h e = absurd (cons_apart op rest e)
op_at P [] (suc n) op rest h e = absurd (cons_apart op rest e)
op_at P (x ∷ xs) zero op rest h e = let q : x ≡ op = cc in subst P q h.0
op_at P (x ∷ xs) (suc n) op rest h e = op_at P xs n op rest h.1 e

pub is_below : (ops : List Op) (n : ℕ) (op : Op) (rest : List Op) → drop n ops ≡ op ∷ rest → n < length ops
is_below [] zero op rest e = absurd (cons_apart op rest e)
is_below [] (suc n) op rest e = absurd (cons_apart op rest e)
is_below (x ∷ xs) zero op rest e = omega arith
is_below (x ∷ xs) (suc n) op rest e = let h = is_below xs n op rest e in omega arith

some_op : (ops : List Op) → 0 < length ops → (op : Op) × (rest : List Op) × (drop 0 ops ≡ op ∷ rest)
some_op [] h = absurd (omega arith)
some_op (op ∷ rest) h = (op, rest, refl)

is_last : (ops : List Op) (n : ℕ) (op : Op) → drop n ops ≡ op ∷ [] → length ops ≡ n + 1
is_last [] zero op e = absurd (cons_apart op [] e)
is_last [] (suc n) op e = absurd (cons_apart op [] e)
is_last (y ∷ ys) zero op e = let q : ys ≡ [] = cc in ap (λ l. suc (length l)) q
is_last (y ∷ ys) (suc n) op e = let k = is_last ys n op e in omega arith

abbrev AreOne : OpResult → OpResult → Type 0
AreOne a b = a ≡ b

not_err : (d : OpEffect) (r : OpRefusal) → AreOne (Ok d) (Err r) → ⊥
not_err d r e = cc

of_ok : (o : OpResult) (d : OpEffect) (P : OpEffect → Type 0) → AreOne (Ok d) o → IfOk o P → P d
of_ok (Ok x) d P e h = let q : x ≡ d = cc in subst P q h
of_ok (Err r) d P e h = absurd (not_err d r e)

-- ---- a batch on what it began on

module _ (batch : Batch) (base : Base) where
  abbrev own_domain : Bytes
  own_domain = batch.domain

  -- in a case without a commit, it settles
  case_settles : (c : Case) → case_there batch base ≡ c → awaits_in batch c ≡ false → (marks : List MarkKind) → marks ≡ footprint_in batch c → (reply : Reply) → reply ≡ reply_with base.newest.number (verdict_in batch base.newest.number c) → IsSettledWith batch base marks reply
  case_settles c e w marks m reply r = record {
    all_read = m ∙ sym (ap (footprint_in batch) e);
    done = ap (awaits_in batch) e ∙ w;
    reply_is = r ∙ sym (ap (reply_with base.newest.number) (verdict_by_case batch base.newest.number (book_read batch base)) ∙ ap (λ x. reply_with base.newest.number (verdict_in batch base.newest.number x)) e);
  }

  -- it comes too early
  pub early_settles : nat_lt base.newest.number batch.after ≡ true → (reply : Reply) → reply ≡ record { place = base.newest.number; outcome = WasRefused NotYet } → IsSettledWith batch base [] reply
  early_settles e reply r = case_settles early (ap (λ t. cond t early (option_map_or (case_on batch) (book_read batch base) gone)) e) refl [] refl reply r

  module _ (in_time : InTime batch base) where
    case_read : case_there batch base ≡ option_map_or (case_on batch) (book_read batch base) gone
    case_read = ap (λ t. cond t early (option_map_or (case_on batch) (book_read batch base) gone)) in_time

    -- the book that it asks for isn't there
    pub meets_none : version_read (past_place batch.ops) base ≡ None → case_there batch base ≡ gone
    meets_none g = case_read ∙ ap (λ o. option_map_or (case_on batch) (option_map book_in o) gone) g

    pub gone_settles : version_read (past_place batch.ops) base ≡ None → (reply : Reply) → reply ≡ record { place = base.newest.number; outcome = WasRefused (OfOp 0 VersionGone) } → IsSettledWith batch base (mark.All ∷ []) reply
    gone_settles g reply r = case_settles gone (meets_none g) refl (mark.All ∷ []) refl reply r

    module _ (s : VersionState) (read_is : version_read (past_place batch.ops) base ≡ Some s) where
      -- this is stored under its token
      meets : (o : Option KeptBatch) → kept_under batch.token (book_in s) ≡ o → case_there batch base ≡ option_map_or kept o (runs (book_in s))
      meets o k = case_read ∙ (ap (λ v. option_map_or (case_on batch) (option_map book_in v) gone) read_is ∙ ap (λ x. option_map_or kept x (runs (book_in s))) k)

      -- the batch stored under the token is read first
      pub token_first : (t : Bytes) → batch.token ≡ Some t → (later : List MarkKind) × (footprint_there batch base ≡ mark.Token t ∷ later)
      token_first t e = behind (kept_under batch.token (book_in s)) refl
        where
          behind : (o : Option KeptBatch) → kept_under batch.token (book_in s) ≡ o → (later : List MarkKind) × (footprint_there batch base ≡ mark.Token t ∷ later)
          behind (Some k) h = ([], ap (footprint_in batch) (meets (Some k) h) ∙ ap token_marks e)
          behind None h = (marks_of_ops own_domain batch.ops (book_in s), ap (footprint_in batch) (meets None h) ∙ ap (λ x. token_marks x ++ marks_of_ops own_domain batch.ops (book_in s)) e)

      -- a batch was committed with its token
      pub kept_settles : (t : Bytes) → batch.token ≡ Some t → (k : KeptBatch) → kept_under batch.token (book_in s) ≡ Some k → (reply : Reply) → reply ≡ reply_with base.newest.number (verdict_again (ops_eq k.ops batch.ops) k) → IsSettledWith batch base (mark.Token t ∷ []) reply
      kept_settles t e k h reply r = case_settles (kept k) (meets (Some k) h) refl (mark.Token t ∷ []) (sym (ap token_marks e)) reply r

      -- nothing is stored under its token, and its operations have this run
      module _ (free : kept_under batch.token (book_in s) ≡ None) where
        abbrev run_waits : Bool → RunResult → Bool
        run_waits query r = not query && is_ok r

        pub reads_run : footprint_there batch base ≡ token_marks batch.token ++ marks_of_ops own_domain batch.ops (book_in s)
        reads_run = ap (footprint_in batch) (meets None free)

        run_settles : (r : RunResult) → run own_domain batch.ops (book_in s) ≡ r → run_waits (is_query batch.ops) r ≡ false → (marks : List MarkKind) → marks ≡ footprint_there batch base → (reply : Reply) → reply ≡ reply_with base.newest.number (verdict_when (is_query batch.ops) batch base.newest.number (book_in s) r) → IsSettledWith batch base marks reply
        run_settles r e w marks m reply q =
            case_settles (runs (book_in s)) (meets None free) (ap (run_waits (is_query batch.ops)) e ∙ w) marks (m ∙ reads_run) reply
            (q ∙ sym (ap (λ x. reply_with base.newest.number (verdict_when (is_query batch.ops) batch base.newest.number (book_in s) x)) e))

        -- one is refused
        pub refused_settles : (marks : List MarkKind) (n : ℕ) (x : OpRefusal) → marks ≡ footprint_there batch base → run own_domain batch.ops (book_in s) ≡ Err (record { op = n; reason = x }) → (reply : Reply) → reply ≡ record { place = base.newest.number; outcome = WasRefused (OfOp n x) } → IsSettledWith batch base marks reply
        refused_settles marks n x m e reply r = run_settles (Err (record { op = n; reason = x })) e (none_waits (is_query batch.ops)) marks m reply r
          where
            none_waits : (query : Bool) → run_waits query (Err (record { op = n; reason = x })) ≡ false
            none_waits true = refl
            none_waits false = refl

        -- all are accepted, and the batch is read-only
        pub answered_settles : (marks : List MarkKind) (t : RunEffect) → marks ≡ footprint_there batch base → run own_domain batch.ops (book_in s) ≡ Ok t → is_query batch.ops ≡ true → (reply : Reply) → reply ≡ record { place = base.newest.number; outcome = Answered t.replies } → IsSettledWith batch base marks reply
        answered_settles marks t m e q reply r =
            run_settles (Ok t) e (ap (λ x. run_waits x (Ok t)) q) marks m reply
            (r ∙ sym (ap (λ x. reply_with base.newest.number (verdict_when x batch base.newest.number (book_in s) (Ok t))) q))

        -- all are accepted, and the batch has changes
        pub changes_wait : IsMadeFor own_domain batch → (marks : List MarkKind) (t : RunEffect) → marks ≡ footprint_there batch base → run own_domain batch.ops (book_in s) ≡ Ok t → is_query batch.ops ≡ false → (replies : List OpReply) (writes : List RowWrite) → replies ≡ t.replies → writes ≡ batch_writes batch 0 t → IsReady batch base marks writes replies
        changes_wait made marks t m e q replies writes p w =
            let newest : Some base.newest ≡ Some s = sym (ap (λ o. version_read o base) (changes_newest own_domain batch made q)) ∙ read_is in
            let same : base.newest ≡ s = some_same base.newest s newest in
            record {
              all_read = m;
              waits = ap (awaits_in batch) (meets None free) ∙ (ap (run_waits (is_query batch.ops)) e ∙ ap (λ x. run_waits x (Ok t)) q);
              accepted = record { effect = t; ran = subst (λ x. run own_domain batch.ops (book_in x) ≡ Ok t) (sym same) e; replies_are = p; writes_are = w };
            }
          where
            some_same : (x y : VersionState) → Some x ≡ Some y → x ≡ y
            some_same x y e = cc

  -- ---- the begin of an operation

  module _ (made : IsMadeFor own_domain batch) where
    pub at_op : (s : VersionState) → version_read (past_place batch.ops) base ≡ Some s → InTime batch base → kept_under batch.token (book_in s) ≡ None → s.number ≤ 2 ^ 48 → (marks : List MarkKind) (changes : List RowWrite) (replies : List OpReply) (n : ℕ) (op : Op) (rest : List Op) → drop n batch.ops ≡ op ∷ rest → Lawful own_domain (64 * s.number + n) (book_now s changes) → marks ++ marks_of_ops own_domain (op ∷ rest) (book_now s changes) ≡ footprint_there batch base → going_on replies changes n (run own_domain (op ∷ rest) (book_now s changes)) ≡ run own_domain batch.ops (book_in s) → Going batch base marks changes replies n phase.First
    at_op s read_is in_time unkept low marks changes replies n op rest here lawful f r = record {
      at_hand = record {
        s = s;
        read_is = read_is;
        in_time = in_time;
        unkept = unkept;
        op = op;
        rest = rest;
        here = here;
        answer = op_of own_domain op (book_now s changes);
        answer_is = refl;
        run_is = r;
        low = low;
        lawful = lawful;
      };
      left = marks_of own_domain op (book_now s changes);
      plays = plays own_domain op (book_now s changes) lawful.ascending;
      reads_are = f;
    }

    -- the first one
    pub first_op : (s : VersionState) → version_read (past_place batch.ops) base ≡ Some s → InTime batch base → kept_under batch.token (book_in s) ≡ None → IsReadableVersion own_domain s → (marks : List MarkKind) (changes : List RowWrite) (replies : List OpReply) → marks ≡ token_marks batch.token → changes ≡ [] → replies ≡ [] → Going batch base marks changes replies 0 phase.First
    first_op s read_is in_time unkept readable marks changes replies m c p =
        let o = some_op batch.ops ((not_refused own_domain batch.ops batch.token).0 made.no_fault).0.some in
        let whole : batch.ops ≡ o.0 ∷ o.1 = o.2 in
        let q : 64 * s.number ≡ 64 * s.number + 0 = omega arith in
        let lawful : Lawful own_domain (64 * s.number + 0) (book_in s) = subst (λ m. Lawful own_domain m (book_in s)) q readable.lawful in
        let g : Going batch base (token_marks batch.token) [] [] 0 phase.First = at_op s read_is in_time unkept readable.low (token_marks batch.token) [] [] 0 o.0 o.1 o.2 lawful
        (ap (λ ops. token_marks batch.token ++ marks_of_ops own_domain ops (book_in s)) (sym whole) ∙ sym (reads_run in_time s read_is unkept))
        (going_none _ ∙ ap (λ ops. run own_domain ops (book_in s)) (sym whole)) in
        subst (λ x. Going batch base x changes replies 0 phase.First) (sym m) (subst (λ x. Going batch base (token_marks batch.token) x replies 0 phase.First) (sym c) (subst (λ x. Going batch base (token_marks batch.token) [] x 0 phase.First) (sym p) g))

    keeps : (s : VersionState) (changes : List RowWrite) (n : ℕ) (op : Op) (rest : List Op) (d : OpEffect) → drop n batch.ops ≡ op ∷ rest → Lawful own_domain (64 * s.number + n) (book_now s changes) → Ok d ≡ op_of own_domain op (book_now s changes) → Lawful own_domain (64 * s.number + (n + 1)) (book_now s (changes ++ d.writes))
    keeps s changes n op rest d here lawful e =
        let proper = op_at IsProperOp batch.ops n op rest made.proper here in
        let faultless = op_at (λ op. op_fault own_domain op ≡ None) batch.ops n op rest ((not_refused own_domain batch.ops batch.token).0 made.no_fault).0.none here in
        let k = of_ok (op_of own_domain op (book_now s changes)) d (λ d. Lawful own_domain (64 * s.number + n + 1) (after d.writes (book_now s changes))) e (op_keeps own_domain (64 * s.number + n) op (book_now s changes) proper faultless lawful) in
        let q : 64 * s.number + n + 1 ≡ 64 * s.number + (n + 1) = omega arith in
        subst (λ m. Lawful own_domain m (book_now s (changes ++ d.writes))) q (subst (Lawful own_domain (64 * s.number + n + 1)) (sym (after-append changes d.writes (book_in s))) k)

  -- ---- a read

  module _ (marks : List MarkKind) (changes : List RowWrite) (replies : List OpReply) (n : ℕ) where
    looked_with : (p : Phase) (i : InOps batch base changes replies n) (left : List MarkKind) → Plays (server_text own_domain) i.op p (book_now i.s changes) left i.answer → marks ++ (left ++ later_marks i) ≡ footprint_there batch base → (m : MarkKind) → m ≡ mark_of (server_text own_domain) i.op p → (next : Next) → next ≡ advance (server_text own_domain) i.op p (reads (mark_of (server_text own_domain) i.op p) (book_now i.s changes)) → Looked batch base marks changes replies n m next
    looked_with p i [] h f m k next e = absurd h
    looked_with p i (x ∷ ms) h f m k next e = record {
      at_hand = i;
      left = ms;
      continues = subst (λ y. ContinuesWith y ms i.answer (λ q. Plays (server_text own_domain) i.op q (book_now i.s changes) ms i.answer)) (sym e) h.1;
      reads_are = ap (λ m. marks ++ (m ∷ (ms ++ later_marks i))) (k ∙ sym h.0) ∙ f;
    }

    pub looks : (p : Phase) (g : Going batch base marks changes replies n p) (m : MarkKind) → m ≡ mark_of (server_text own_domain) g.at_hand.op p → (next : Next) → next ≡ advance (server_text own_domain) g.at_hand.op p (reads (mark_of (server_text own_domain) g.at_hand.op p) (book_now g.at_hand.s changes)) → Looked batch base marks changes replies n m next
    looks p g m k next e = looked_with p g.at_hand g.left g.plays g.reads_are m k next e

    -- ---- what it finds

    pub goes : (m : MarkKind) (q : Phase) → Looked batch base marks changes replies n m (Continues q) → Going batch base (marks ++ m ∷ []) changes replies n q
    goes m q l = record { at_hand = l.at_hand; left = l.left; plays = l.continues; reads_are = append_assoc marks (m ∷ []) (l.left ++ later_marks l.at_hand) ∙ l.reads_are }

    pub refused : (m : MarkKind) (x : OpRefusal) → Looked batch base marks changes replies n m (Refused x) → (reply : Reply) → reply ≡ record { place = base.newest.number; outcome = WasRefused (OfOp n x) } → IsSettledWith batch base (marks ++ m ∷ []) reply
    refused m x l reply r =
        let i = l.at_hand in
        refused_settles i.in_time i.s i.read_is i.unkept (marks ++ m ∷ []) n x
        (ap (λ l. marks ++ (m ∷ l)) (sym (ap (λ k. k ++ later_marks i) l.continues.0 ∙ ap (λ o. marks_after o (λ d. marks_of_ops own_domain i.rest (after d.writes (book_now i.s changes)))) l.continues.1)) ∙ l.reads_are)
        (sym i.run_is ∙ (ap (λ o. going_on replies changes n (then_run o (λ d. run own_domain i.rest (after d.writes (book_now i.s changes))))) l.continues.1 ∙ (let q : n + 0 ≡ n = omega arith in ap (λ k. Err (record { op = k; reason = x })) q)))
        reply r

    -- an operation has ended
    module _ (m : MarkKind) (x : OpReply) (ws : List RowWrite) (l : Looked batch base marks changes replies n m (Ends x ws)) where
      abbrev i : InOps batch base changes replies n
      i = l.at_hand

      abbrev d : OpEffect
      d = record { reply = x; writes = ws }

      abbrev next_book : Book
      next_book = after ws (book_now i.s changes)

      ended_reads : (marks ++ m ∷ []) ++ marks_of_ops own_domain i.rest next_book ≡ footprint_there batch base
      ended_reads = append_assoc marks (m ∷ []) _ ∙ (ap (λ l. marks ++ (m ∷ l)) (sym (ap (λ k. k ++ later_marks i) l.continues.0 ∙ ap (λ o. marks_after o (λ d. marks_of_ops own_domain i.rest (after d.writes (book_now i.s changes)))) l.continues.1)) ∙ l.reads_are)

      ended_run : going_on (replies ++ x ∷ []) (changes ++ ws) (n + 1) (run own_domain i.rest next_book) ≡ run own_domain batch.ops (book_in i.s)
      ended_run = sym (going_more replies changes n d (run own_domain i.rest next_book)) ∙ (ap (λ o. going_on replies changes n (then_run o (λ d. run own_domain i.rest (after d.writes (book_now i.s changes))))) (sym l.continues.1) ∙ i.run_is)

      -- another one follows
      pub ends_before : IsMadeFor own_domain batch → n + 1 < length batch.ops → Going batch base (marks ++ m ∷ []) (changes ++ ws) (replies ++ x ∷ []) (n + 1) phase.First
      ends_before made h = before i.rest refl
        where
          before : (rest : List Op) → i.rest ≡ rest → Going batch base (marks ++ m ∷ []) (changes ++ ws) (replies ++ x ∷ []) (n + 1) phase.First
          before [] e = let k = is_last batch.ops n i.op (i.here ∙ ap (λ r. i.op ∷ r) e) in absurd (omega arith)
          before (next ∷ rest) e =
              let b : next_book ≡ book_now i.s (changes ++ ws) = sym (after-append changes ws (book_in i.s)) in
              at_op made i.s i.read_is i.in_time i.unkept i.low (marks ++ m ∷ []) (changes ++ ws) (replies ++ x ∷ []) (n + 1) next rest (next_ops batch.ops n i.op i.rest i.here ∙ e)
              (keeps made i.s changes n i.op i.rest d i.here i.lawful (sym l.continues.1 ∙ i.answer_is))
              (ap (λ b. (marks ++ m ∷ []) ++ marks_of_ops own_domain (next ∷ rest) b) (sym b) ∙ (ap (λ r. (marks ++ m ∷ []) ++ marks_of_ops own_domain r next_book) (sym e) ∙ ended_reads))
              (ap (λ b. going_on (replies ++ x ∷ []) (changes ++ ws) (n + 1) (run own_domain (next ∷ rest) b)) (sym b) ∙ (ap (λ r. going_on (replies ++ x ∷ []) (changes ++ ws) (n + 1) (run own_domain r next_book)) (sym e) ∙ ended_run))

      abbrev effect : RunEffect
      effect = record { replies = replies ++ x ∷ []; writes = changes ++ ws }

      none_left : length batch.ops ≤ n + 1 → i.rest ≡ []
      none_left h = last batch.ops n i.op i.rest i.here h
        where
          last : (ops : List Op) (n : ℕ) (op : Op) (rest : List Op) → drop n ops ≡ op ∷ rest → length ops ≤ n + 1 → rest ≡ []
          last [] zero op rest e h = absurd (cons_apart op rest e)
          last [] (suc n) op rest e h = absurd (cons_apart op rest e)
          last (y ∷ []) zero op rest e h = let q : [] ≡ rest = cc in sym q
          last (y ∷ (z ∷ zs)) zero op rest e h = absurd (omega arith)
          last (y ∷ ys) (suc n) op rest e h = last ys n op rest e (omega arith)

      last_reads : length batch.ops ≤ n + 1 → marks ++ m ∷ [] ≡ footprint_there batch base
      last_reads h = sym (append-nil (marks ++ m ∷ [])) ∙ (ap (λ r. (marks ++ m ∷ []) ++ marks_of_ops own_domain r next_book) (sym (none_left h)) ∙ ended_reads)

      last_run : length batch.ops ≤ n + 1 → run own_domain batch.ops (book_in i.s) ≡ Ok effect
      last_run h = sym ended_run ∙ (ap (λ r. going_on (replies ++ x ∷ []) (changes ++ ws) (n + 1) (run own_domain r next_book)) (none_left h) ∙ (let p : (replies ++ x ∷ []) ++ [] ≡ replies ++ x ∷ [] = append-nil _ in let q : (changes ++ ws) ++ [] ≡ changes ++ ws = append-nil _ in rw (p, q) refl))

      -- it was the last one of a read-only batch
      pub ends_query : length batch.ops ≤ n + 1 → is_query batch.ops ≡ true → (reply : Reply) → reply ≡ record { place = base.newest.number; outcome = Answered (replies ++ x ∷ []) } → IsSettledWith batch base (marks ++ m ∷ []) reply
      ends_query h q reply r = answered_settles i.in_time i.s i.read_is i.unkept (marks ++ m ∷ []) effect (last_reads h) (last_run h) q reply r

      -- it was the last one of a batch of changes
      pub ends_changes : IsMadeFor own_domain batch → length batch.ops ≤ n + 1 → is_query batch.ops ≡ false → (all : List OpReply) (writes : List RowWrite) → all ≡ replies ++ x ∷ [] → writes ≡ changes ++ (ws ++ token_writes batch.token batch.ops 0 all) → IsReady batch base (marks ++ m ∷ []) writes all
      ends_changes made h q all writes a w = changes_wait i.in_time i.s i.read_is i.unkept made (marks ++ m ∷ []) effect (last_reads h) (last_run h) q all writes a (w ∙ (sym (append_assoc changes ws _) ∙ ap (λ rs. (changes ++ ws) ++ token_writes batch.token batch.ops 0 rs) a))
