-- What a head's decision on the commit of a call means for the machine.
use Rattle.std.proofs.Common.{◌≡◌, ℕ, ◌+◌, ◌-◌, List, [], ◌∷◌, ◌++◌, length, take, Some, IfSome, refl, sym, ap, subst, ◌∙◌, inl, inr, arith}
use Rattle.entry_book.specs.declared.limit.Limit.{Limit}
use Rattle.entry_book.specs.declared.reply.OpReply.{OpReply}
use Rattle.entry_book.specs.declared.reply.ReplyOutcome.TheVariants.{Committed as WasCommitted, Refused}
use Rattle.entry_book.specs.declared.reply.Refusal.TheVariants.{Full as TooMuch}
use Rattle.entry_book.specs.declared.reply.Reply.{Reply}
use Rattle.entry_book.proofs.Histories.{empty_is_first}
use Rattle.entry_book.specs.History.{books_of, first_books, is_committed, reply_to}
use Rattle.batch_work.specs.declared.status.Status.TheVariants.{Ready}
use Rattle.batch_work.specs.Working.{HasReplies, Work, status_of}
use Rattle.batch_work.proofs.Ready.{same_replies}
use Rattle.commit_head.specs.declared.commit.Commit.{Commit}
use Rattle.commit_head.specs.declared.commit.Commit.TheVariants.{Committed, Conflict, Full, NoMemory}
use Rattle.commit_head.specs.Heads.{BeganOn, Head, IsCommit, IsCommitted, IsRefused, IsUnchangedHead}
use Rattle.commit_head.specs.Journals.{Leads, batches_of, empty_version}
use Rattle.commit_head.specs.Outcomes.{IsHitSince, IsReadyOn, IsUnchangedSince, answer_to}
use Rattle.commit_head.proofs.OnBooks.{batches_join, commit_on_books, count_of_batches}
use Rattle.entry_book.specs.declared.reply.CallAnswer.{CallAnswer}
use Rattle.entry_book.specs.declared.reply.CallAnswer.TheVariants.{Replied}
use Rattle.entry_book.specs.declared.reply.CallAnswer.TheVariants as gave
use Rattle.call_answers.specs.declared.answer.Decision.{Decision}
use Rattle.call_answers.specs.declared.answer.Decision.TheVariants as to
use Rattle.call_machine.specs.Calls.{answered, committed, conflict}
use Rattle.call_machine.specs.Kept.{BaseIsInJournal, IsDecided, HasWholeJournal, RestsOn, decision_at, head_domain, journal_of}
use Rattle.call_machine.proofs.Heads.{began_on, stayed, went_on}
use Rattle.call_machine.proofs.Slots.{IsAwaiting, began_at, ready_is}

-- the base of a ready work is inside the journal
began : (h : Head) (w : Work) (r : IsAwaiting w) → RestsOn (head_domain h) h.kept w → BaseIsInJournal (head_domain h) h.kept w.batch r.base
began h w r rests = began_at (head_domain h) h.kept w r.base rests r.base_is

pub may_prepare : (h : Head) (w : Work) → HasWholeJournal h → RestsOn (head_domain h) h.kept w → status_of w ≡ Ready → BeganOn w.base h
may_prepare h w whole rests s =
    let r = ready_is w s in
    subst (λ o. BeganOn o h) (sym r.base_is) (began_on h w.batch r.base whole (began h w r rests))

-- it is ready on the head's journal
ready_on : (h : Head) (w : Work) (r : IsAwaiting w) → RestsOn (head_domain h) h.kept w → status_of w ≡ Ready → IsReadyOn first_books (head_domain h) h.kept w r.base
ready_on h w r rests s =
    let n : r.base.newest.number - 0 ≡ r.base.newest.number = omega arith in
    record { made = rests.made; ready = s; base_is = r.base_is; leads = subst (λ k. Leads (empty_version (head_domain h)) (take k h.kept) r.base.newest) (sym n) (began h w r rests).leads }

decided_committed : (old new : Head) (w : Work) (seat call : ℕ) (replies : List OpReply) (place : ℕ) → HasWholeJournal old → RestsOn (head_domain old) old.kept w → status_of w ≡ Ready → HasReplies w replies → IsCommitted old seat call w place new → IsDecided old w (Replied (record { place = place; outcome = WasCommitted replies })) to.Committed place new
decided_committed old new w seat call replies place whole rests s has commit =
    let r = ready_is w s in
    let on = commit_on_books first_books old.kept old seat call w r.base (Committed place) new (empty_is_first (head_domain old)) whole (ready_on old w r rests s) commit in
    let same : replies ≡ on.item.replies = same_replies w replies on.item.replies has on.of_work.replies in
    let reply : reply_to w.batch (books_of (journal_of old)) ≡ record { place = place; outcome = WasCommitted replies } = on.reply ∙ ap (λ rs. record { place = place; outcome = WasCommitted rs }) (sym same) in
    record {
      base = r.base.newest.number;
      in_turn = r.stage;
      decided = inl (record {
        validated = subst (IsUnchangedSince first_books (journal_of old) r.base.newest.number) (began old w r rests).is_on.reads on.validated;
        commits = ap (λ (r : Reply). is_committed r.outcome) reply;
        stage_is = ap committed (sym reply);
        decision_is = refl;
        place_is = let n = on.number in let c = count_of_batches old.kept in omega arith;
        journal_is = ap batches_of commit.appended.kept ∙ (batches_join old.kept (commit.item ∷ []) ∙ ap (λ b. journal_of old ++ b ∷ []) commit.of_work.batch_is);
      });
      extends = went_on old new commit.item whole commit.joins commit.appended;
    }

decided_full : (old new : Head) (w : Work) (limit : Limit) (place : ℕ) → HasWholeJournal old → RestsOn (head_domain old) old.kept w → status_of w ≡ Ready → IsUnchangedHead old new → IsRefused old w (Full limit place) → IsDecided old w (Replied (record { place = place; outcome = Refused (TooMuch limit) })) (to.Full limit) place new
decided_full old new w limit place whole rests s is_unchanged refused =
    let r = ready_is w s in
    let on = commit_on_books first_books old.kept old 0 0 w r.base (Full limit place) new (empty_is_first (head_domain old)) whole (ready_on old w r rests s) (is_unchanged, refused) in
    let length_is : place ≡ length (journal_of old) = (let n = on.0 in let c = count_of_batches old.kept in omega arith) in
    record {
      base = r.base.newest.number;
      in_turn = r.stage;
      decided = inr (inl (record {
        limit = limit;
        full = on.1 ∙ ap (λ m. record { place = m; outcome = Refused (TooMuch limit) }) length_is;
        stage_is = ap answered (sym on.1);
        decision_is = refl;
        place_is = length_is;
        journal_is = ap batches_of is_unchanged.kept;
      }));
      extends = stayed old new whole is_unchanged;
    }

decided_conflict : (old new : Head) (w : Work) (place : ℕ) → HasWholeJournal old → RestsOn (head_domain old) old.kept w → status_of w ≡ Ready → IsUnchangedHead old new → IsRefused old w (Conflict place) → IsDecided old w (gave.Conflict place) to.Conflict place new
decided_conflict old new w place whole rests s is_unchanged refused =
    let r = ready_is w s in
    let on = commit_on_books first_books old.kept old 0 0 w r.base (Conflict place) new (empty_is_first (head_domain old)) whole (ready_on old w r rests s) (is_unchanged, refused) in
    let length_is : place ≡ length (journal_of old) = (let n = on.0 in let c = count_of_batches old.kept in omega arith) in
    record {
      base = r.base.newest.number;
      in_turn = r.stage;
      decided = inr (inr (record {
        due = subst (IsHitSince first_books (journal_of old) r.base.newest.number) (began old w r rests).is_on.reads on.1;
        stage_is = ap conflict length_is;
        decision_is = refl;
        place_is = length_is;
        journal_is = ap batches_of is_unchanged.kept;
      }));
      extends = stayed old new whole is_unchanged;
    }

-- ---- the outcome of a commit

-- the answer and the decision of a commit are those of its outcome
is_decided : (old new : Head) (w : Work) (seat call : ℕ) (c : Commit) (replies : List OpReply) → HasWholeJournal old → RestsOn (head_domain old) old.kept w → status_of w ≡ Ready → HasReplies w replies → IsCommit old seat call w c new → IfSome (answer_to replies c) (λ answer. IfSome (decision_at c) (λ d. IsDecided old w answer d.0 d.1 new))
is_decided old new w seat call (Committed n) replies whole rests s has h = decided_committed old new w seat call replies n whole rests s has h
is_decided old new w seat call (Conflict n) replies whole rests s has h = decided_conflict old new w n whole rests s h.0 h.1
is_decided old new w seat call (Full limit n) replies whole rests s has h = decided_full old new w limit n whole rests s h.0 h.1
is_decided old new w seat call NoMemory replies whole rests s has h = tt

pub decided : (old new : Head) (w : Work) (seat call : ℕ) (c : Commit) (replies : List OpReply) (answer : CallAnswer) (decision : Decision) (place : ℕ) → HasWholeJournal old → RestsOn (head_domain old) old.kept w → status_of w ≡ Ready → HasReplies w replies → IsCommit old seat call w c new → answer_to replies c ≡ Some answer → decision_at c ≡ Some (decision, place) → IsDecided old w answer decision place new
decided old new w seat call c replies answer decision place whole rests s has h a d =
    let both = is_decided old new w seat call c replies whole rests s has h in
    let answered_so : IfSome (decision_at c) (λ d. IsDecided old w answer d.0 d.1 new) = subst (λ o. IfSome o (λ answer. IfSome (decision_at c) (λ d. IsDecided old w answer d.0 d.1 new))) a both in
    subst (λ o. IfSome o (λ d. IsDecided old w answer d.0 d.1 new)) d answered_so
