-- The outcome of a try whose commit was decided under the lock.
use Rattle.std.proofs.Common.{◌≡◌, ℕ, ◌-◌, List, [], ◌∷◌, ◌++◌, length, Option, Some, None, Result, Ok, Err, refl, sym, ap, subst, ◌∙◌, arith}
use mathlib.Core.List.{IsPrefix}
use Rattle.entry_book.specs.declared.limit.Limit.{Limit}
use Rattle.entry_book.specs.declared.reply.CallAnswer.{CallAnswer}
use Rattle.entry_book.specs.declared.reply.CallAnswer.TheVariants as gave
use Rattle.entry_book.specs.declared.reply.OpReply.{OpReply}
use Rattle.entry_book.specs.declared.reply.ReplyOutcome.TheVariants as became
use Rattle.entry_book.specs.declared.reply.Refusal.TheVariants.{Full}
use Rattle.entry_book.specs.declared.reply.Reply.{Reply}
use Rattle.entry_book.specs.Batches.{Batch}
use Rattle.entry_book.specs.Book.{Book}
use Rattle.entry_book.specs.Rows.{Bytes}
use Rattle.entry_book.specs.History.{books_from, place_of, reply_to}
use Rattle.batch_work.specs.Working.{HasReplies, Work}
use Rattle.batch_work.proofs.Ready.{same_replies}
use Rattle.commit_head.specs.declared.commit.Commit.{Commit}
use Rattle.commit_head.specs.declared.commit.Commit.TheVariants as is
use Rattle.commit_head.specs.declared.item.Item.{Item}
use Rattle.commit_head.specs.Journals.{IsLawfulJournal, batches_of, place_after}
use Rattle.commit_head.specs.Outcomes.{answer_to}
use Rattle.shared_registry.specs.declared.outcome.Outcome.{Outcome}
use Rattle.shared_registry.specs.declared.outcome.Outcome.TheVariants.{Refused}
use Rattle.shared_registry.specs.declared.seat.NoEntry.{NoEntry as NotAdmitted}
use Rattle.shared_registry.specs.Outcomes.{IsAdded, IsOvertaken, IsSubmitted}
use Rattle.shared_registry.specs.OutcomesPrivate.{HasAdded, HasLooked, IsCommitOutcome, WasDecided, IsOvertakenOnce, IsTry, outcome_with}
use Rattle.shared_registry.specs.Seated.{AfterCall, DuringCall, MaySeeFound, Seated}
use Rattle.shared_registry.specs.SeatCalls.{calls_of}
use Rattle.shared_registry.proofs.Prefixes.{prefix_length, prefix_self, prefix_trans}

-- ---- the decision on the commit

pub added : (first : List Book) (log next : List Item) (s t : Seated) (w : Work) (replies : List OpReply) (n : ℕ) → HasAdded first log next s t w n → DuringCall s t → HasReplies w replies → IsAdded first s t w.batch (record { place = n; outcome = became.Committed replies })
added first log next s t w replies n a during_call h =
    let place = a.place ∙ ap (place_after first) (sym a.seen) in
    let same = same_replies w replies a.item.replies h a.replies in
    record {
      log = log;
      item = a.item;
      seen = a.seen ∙ a.whole;
      reply_is = λ i. record { place = place i; outcome = became.Committed (same i) };
      seat = a.seat ∙ sym during_call.number;
      call = a.call ∙ sym during_call.calls;
      batch_is = a.batch_is;
      own = a.own ∙ ap (λ c. s.own ++ c ∷ []) (sym during_call.calls);
      found = a.found ∙ sym a.seen;
    }

-- a seat may see what it has found by its commit
pub may_see_added : (first : List Book) (domain : Bytes) (s t : Seated) (batch : Batch) (reply : Reply) → AfterCall first domain s t → IsPrefix s.learnt t.seen → IsAdded first s t batch reply → MaySeeFound first domain t
may_see_added first domain s t batch reply after_call seen_learnt a =
    let learnt : IsPrefix t.learnt t.seen = subst (λ (l : List Item). IsPrefix l t.seen) (sym after_call.learnt) seen_learnt in record {
      lawful = subst (IsLawfulJournal first domain) (sym a.found) after_call.lawful;
      seen = subst (IsPrefix t.seen) (sym a.found) (prefix_self t.seen);
      learnt = subst (IsPrefix t.learnt) (sym a.found) learnt;
      own = ap (calls_of t.number) a.found ∙ after_call.own;
    }

pub overtaken : (first : List Book) (log next : List Item) (s t : Seated) (batch : Batch) (n : ℕ) → HasLooked log next s t → n ≡ place_after first log → IsOvertaken first (batches_of log) batch (length s.seen) (n - place_of first) → DuringCall s t → IsPrefix s.learnt s.seen → IsOvertakenOnce first s t batch n
overtaken first log next s t batch n l e o during_call seen_learnt = record {
  base = length s.seen;
  since_seen = omega arith;
  since_learnt = prefix_length s.learnt s.seen seen_learnt;
  overtaken = subst (λ j. IsOvertaken first (batches_of j) batch (length s.seen) (n - place_of first)) (sym l.seen) o;
  place = e ∙ ap (place_after first) (sym l.seen);
  seen_learnt = prefix_trans s.learnt s.seen t.seen seen_learnt during_call.seen;
  own = l.own;
}

-- a limit refuses the commit
pub full_refused : (first : List Book) (log next : List Item) (s t : Seated) (batch : Batch) (limit : Limit) (n : ℕ) → HasLooked log next s t → n ≡ place_after first log → reply_to batch (books_from first (batches_of log)) ≡ record { place = n; outcome = became.Refused (Full limit) } → IsSubmitted first s t batch 0 (Refused (record { place = n; outcome = became.Refused (Full limit) }))
full_refused first log next s t batch limit n l e r = (
  record {
    reply_is = sym r ∙ ap (λ j. reply_to batch (books_from first (batches_of j))) (sym l.seen);
    why = Full limit;
    refused = ap (λ m. record { place = m; outcome = became.Refused (Full limit) }) (e ∙ ap (place_after first) (sym l.seen));
  },
  l.own,
)

-- ---- what was decided, for the journal that the lock guarded

pub decided : (first : List Book) (log next : List Item) (s t : Seated) (w : Work) (r : Result Commit NotAdmitted) → IsCommitOutcome first log next s t w r → WasDecided first s t w r
decided first log next s t w r o = record { log = log; next = next; outcome = o }

pub decided_added : (first : List Book) (s t : Seated) (w : Work) (replies : List OpReply) (n : ℕ) → WasDecided first s t w (Ok (is.Committed n)) → DuringCall s t → HasReplies w replies → IsAdded first s t w.batch (record { place = n; outcome = became.Committed replies })
decided_added first s t w replies n d during_call h = added first d.log d.next s t w replies n d.outcome during_call h

pub decided_overtaken : (first : List Book) (s t : Seated) (w : Work) (n : ℕ) → WasDecided first s t w (Ok (is.Conflict n)) → DuringCall s t → IsPrefix s.learnt s.seen → IsOvertakenOnce first s t w.batch n
decided_overtaken first s t w n d during_call seen_learnt = overtaken first d.log d.next s t w.batch n d.outcome.0 d.outcome.1 d.outcome.2 during_call seen_learnt

pub decided_full : (first : List Book) (s t : Seated) (w : Work) (limit : Limit) (n : ℕ) → WasDecided first s t w (Ok (is.Full limit n)) → IsSubmitted first s t w.batch 0 (Refused (record { place = n; outcome = became.Refused (Full limit) }))
decided_full first s t w limit n d = full_refused first d.log d.next s t w.batch limit n d.outcome.0 d.outcome.1 d.outcome.2

pub decided_no_memory : (first : List Book) (s t : Seated) (w : Work) → WasDecided first s t w (Ok is.NoMemory) → t.own ≡ s.own
decided_no_memory first s t w d = d.outcome.own

pub decided_no_entry : (first : List Book) (s t : Seated) (w : Work) (e : NotAdmitted) → WasDecided first s t w (Err e) → t.own ≡ s.own
decided_no_entry first s t w e d = d.outcome.2

-- ---- the answer to the call gives what the try returns

some_one : {X : Type 0} (x y : X) → Some x ≡ Some y → y ≡ x
some_one x y e = cc

-- the outcome of the answer, or the batch, handed back
abbrev pub try_of : CallAnswer → Batch → Result Outcome (ℕ × Batch)
try_of (gave.Replied reply) batch = Ok (outcome_with reply)
try_of (gave.Conflict n) batch = Err (n, batch)

pub commit_tried : (first : List Book) (s t : Seated) (w : Work) (replies : List OpReply) (commit : Commit) (a : CallAnswer) → WasDecided first s t w (Ok commit) → DuringCall s t → HasReplies w replies → IsPrefix s.learnt s.seen → answer_to replies commit ≡ Some a → IsTry first s t w.batch (try_of a w.batch)
commit_tried first s t w replies (is.Committed n) a d during_call h learnt e =
    rw (some_one _ _ e) ((λ n e. cc), prefix_trans s.learnt s.seen t.seen learnt during_call.seen, decided_added first s t w replies n d during_call h)
commit_tried first s t w replies (is.Conflict n) a d during_call h learnt e =
    rw (some_one _ _ e) (refl, decided_overtaken first s t w n d during_call learnt)
commit_tried first s t w replies (is.Full limit n) a d during_call h learnt e =
    rw (some_one _ _ e) ((λ n e. cc), prefix_trans s.learnt s.seen t.seen learnt during_call.seen, decided_full first s t w limit n d)
commit_tried first s t w replies is.NoMemory a d during_call h learnt e = absurd (none_some e)
  where
    none_some : {X : Type 0} {x : X} → None ≡ Some x → ⊥
    none_some e = cc
