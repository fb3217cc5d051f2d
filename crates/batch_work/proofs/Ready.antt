-- What a work has read at its end.
use Rattle.std.proofs.Common.{◌≡◌, ℕ, ◌+◌, ◌≤◌, Bool, true, false, cond, List, length, Option, Some, None, Ok, IfOk, refl, sym, ap, subst, ◌∙◌}
use Rattle.std.specs.Prelude.{nat_lt, option_map}
use Rattle.std.specs.Option.{option_map_or}
use Rattle.std.proofs.lemmas.Bool.{ltb-false}
use Rattle.std.proofs.lemmas.List.{take_all}
use Rattle.entry_book.specs.Batches.{Batch, past_place}
use Rattle.entry_book.specs.History.{adds_within, batch_writes, kept_under}
use Rattle.entry_book.specs.Limits.{limit_passed}
use Rattle.entry_book.specs.Runs.{RunEffect, RunResult, run}
use Rattle.entry_book.specs.declared.reply.OpReply.{OpReply}
use Rattle.entry_book.specs.Writes.{RowWrite, after}
use Rattle.entry_book.proofs.PastPages.{changes_newest}
use Rattle.version_book.specs.Written.{placed}
use Rattle.version_book.proofs.Places.{places_put}
use Rattle.batch_work.specs.declared.status.Status.TheVariants.{Ready, Running}
use Rattle.batch_work.specs.Reads.{early, gone, case_on, footprint_in, awaits_in}
use Rattle.batch_work.specs.Windows.{book_in}
use Rattle.batch_work.specs.Working.{Base, IsAccepted, IsAcceptedOn, version_read, book_read, case_there, end_status, footprint_there, awaits_there, marks_from, status_from, status_on}
use Rattle.batch_work.specs.Laws.{EndHasRead, OneListOfReplies, ReadyHasRead, ReadyTurns}
use Rattle.batch_work.proofs.Batches.{late, verdict_there}
use Rattle.batch_work.proofs.Cases.{of_runs, unkept, waits}

at_end : (t w : Bool) → (cond t Running (end_status w) ≡ Running → ⊥) → t ≡ false
at_end true w n = absurd (n refl)
at_end false w n = refl

pub end_has_read : EndHasRead
end_has_read batch base n h = take_all n (footprint_there batch base) (ltb-false n (length (footprint_there batch base)) (at_end (nat_lt n (length (footprint_there batch base))) (awaits_there batch base) h))

of_ready : (t w : Bool) → cond t Running (end_status w) ≡ Ready → (t ≡ false) × (w ≡ true)
of_ready true w e = cc
of_ready false true e = (refl, refl)
of_ready false false e = cc

begun : (o : Option Base) (batch : Batch) (n : ℕ) → status_from o batch n ≡ Ready → (base : Base) × (o ≡ Some base) × (status_on batch base n ≡ Ready)
begun None batch n e = cc
begun (Some base) batch n e = (base, refl, e)

not_running : (batch : Batch) (base : Base) (n : ℕ) → status_on batch base n ≡ Ready → status_on batch base n ≡ Running → ⊥
not_running batch base n e f = cc

pub ready_has_read : ReadyHasRead
ready_has_read own_domain w made e =
    let b = begun w.base w.batch w.steps e in
    let base : Base = b.0 in
    let r = of_ready (nat_lt w.steps (length (footprint_there w.batch base))) (awaits_there w.batch base) b.2 in
    let wait = waits w.batch (case_there w.batch base) r.1 in
    let runs_on = of_runs (nat_lt base.newest.number w.batch.after) w.batch (book_read w.batch base) wait.0 wait.1 in
    let newest : past_place w.batch.ops ≡ None = changes_newest own_domain w.batch made wait.2 in
    let meets : case_there w.batch base ≡ case_on w.batch (book_in base.newest) = ap (λ t. cond t early (option_map_or (case_on w.batch) (book_read w.batch base) gone)) runs_on.0 ∙ ap (λ o. option_map_or (case_on w.batch) (option_map book_in (version_read o base)) gone) newest in
    record {
      base = base;
      base_is = b.1;
      all_read = ap (λ o. marks_from o w.batch w.steps) b.1 ∙ end_has_read w.batch base w.steps (not_running w.batch base w.steps b.2);
      newest_read = ap (footprint_in w.batch) meets;
      in_time = late base.newest.number w.batch.after runs_on.0;
      awaits = ap (awaits_in w.batch) (sym meets) ∙ r.1;
    }

-- ---- a work has one list of replies

one_effect : (r : RunResult) (t u : RunEffect) → r ≡ Ok t → r ≡ Ok u → t ≡ u
one_effect r t u e f = cc

one_list : (base : Option Base) (batch : Batch) (xs ys : List OpReply) (writes others : List RowWrite) → IsAcceptedOn base batch xs writes → IsAcceptedOn base batch ys others → xs ≡ ys
one_list None batch xs ys writes others a b = absurd a
one_list (Some base) batch xs ys writes others a b = a.replies_are ∙ (ap (λ (t : RunEffect). t.replies) (one_effect _ a.effect b.effect a.ran b.ran) ∙ sym b.replies_are)

pub same_replies : OneListOfReplies
same_replies w xs ys a b = one_list w.base w.batch xs ys a.0 b.0 a.1 b.1

-- ---- the specification's next book

one_base : (b c : Base) → Some b ≡ Some c → b ≡ c
one_base b c e = cc

of_ok : (P : RunEffect → Type 0) (r : RunResult) (t : RunEffect) → r ≡ Ok t → IfOk r P → P t
of_ok P r t e h = subst (λ r. IfOk r P) e h

pub ready_turns : ReadyTurns
ready_turns own_domain w base writes made ready base_is h =
    let s = base.newest in
    let b = book_in s in
    let next = s.number + 1 in
    let read = ready_has_read own_domain w made ready in
    let same : read.base ≡ base = one_base read.base base (sym read.base_is ∙ base_is) in
    let accepted : IsAccepted w.batch b h.0 writes = subst (λ o. IsAcceptedOn o w.batch h.0 writes) base_is h.1 in
    let t = accepted.effect in
    let wait = waits w.batch (case_on w.batch b) (subst (λ x. awaits_in w.batch (case_on w.batch (book_in x.newest)) ≡ true) same read.awaits) in
    let free = (unkept (kept_under w.batch.token b) b wait.0 wait.1).0 in
    let in_time : w.batch.after ≤ s.number = subst (λ x. w.batch.after ≤ x.newest.number) same read.in_time in
    let writes_are : placed next writes ≡ batch_writes w.batch next t = ap (placed next) accepted.writes_are ∙ of_ok (λ x. placed next (batch_writes w.batch 0 x) ≡ batch_writes w.batch next x) (run w.batch.domain w.batch.ops b) t accepted.ran (places_put w.batch b 0 next) in
    record {
      replies = h.0;
      of_work = (writes, h.1);
      next = after (batch_writes w.batch next t) b;
      next_is = ap (λ ws. after ws b) (sym writes_are);
      verdict_is = verdict_there w.batch s t in_time free wait.2 accepted.ran ∙ ap (λ rs. adds_within (limit_passed s.number (after (batch_writes w.batch next t) b)) rs (after (batch_writes w.batch next t) b)) (sym accepted.replies_are);
    }
