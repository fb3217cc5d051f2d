-- A batch on two books that read the same where it reads, and at its commit.
use Rattle.std.proofs.Common.{◌≡◌, ℕ, ◌+◌, ◌≤◌, Bool, true, false, not, ◌&&◌, ◌++◌, Option, Some, None, Ok, Err, refl, sym, ap, subst, ◌∙◌}
use Rattle.std.specs.Prelude.{nat_lt, is_ok}
use Rattle.std.specs.List.{AllByRecursion}
use Rattle.std.specs.Option.{option_map_or}
use Rattle.std.proofs.lemmas.Bool.{ltb-false}
use Rattle.entry_book.specs.declared.kept.KeptBatch.{KeptBatch}
use Rattle.entry_book.specs.declared.limit.Limit.{Limit}
use Rattle.entry_book.specs.declared.reply.ReplyOutcome.TheVariants.{Refused}
use Rattle.entry_book.specs.declared.reply.Refusal.TheVariants.{Full}
use Rattle.entry_book.specs.Rows.{Bytes}
use Rattle.entry_book.specs.Order.{first}
use Rattle.entry_book.specs.Book.{Book, AscendingBook}
use Rattle.entry_book.specs.Writes.{after}
use Rattle.entry_book.specs.Runs.{RunEffect, RunResult, run}
use Rattle.entry_book.specs.SameOps.{ops_eq}
use Rattle.entry_book.specs.Batches.{Batch, is_query, past_place}
use Rattle.entry_book.specs.Limits.{limit_passed}
use Rattle.entry_book.specs.History.{Verdict, batch_writes, kept_under, verdict, verdict_when, verdict_again, adds_within, adds, reply_with, is_committed, last_book, place_of, book_for}
use Rattle.entry_book.proofs.PastPages.{changes_newest}
use Rattle.version_book.specs.Marks.{Agree}
use Rattle.version_book.specs.CommittedRows.{VersionState, book_of}
use Rattle.version_book.proofs.Applying.{run_may_apply}
use Rattle.version_book.proofs.NamedRows.{book_after}
use Rattle.version_book.proofs.Histories.{batch_commits}
use Rattle.batch_work.specs.Reads.{Case, early, gone, kept, runs, case_on, case_at, case_of, token_marks, marks_of_ops, footprint_in, awaits_in, verdict_in}
use Rattle.batch_work.specs.Working.{book_read, case_there}
use Rattle.batch_work.specs.Laws.{AnswersDontCommit, BatchReadsDecide, CommitCheck, OthersDontCommit, AwaitsAsSaid}
use Rattle.batch_work.proofs.Cases.{of_runs, runs_there, unkept, verdict_by_case, waits}
use Rattle.batch_work.proofs.Deciding.{split_all, same_run}

-- ---- two books

kept_same : (token : Option Bytes) (b c : Book) → AllByRecursion (Agree b c) (token_marks token) → kept_under token b ≡ kept_under token c
kept_same None b c h = refl
kept_same (Some k) b c h = ap (λ r. first r.tokens) h.0

-- the case that it meets on a book that stores this under its token
abbrev case_with : Option KeptBatch → Book → Case
case_with o b = option_map_or kept o (runs b)

token_read : (batch : Batch) (b c : Book) (o : Option KeptBatch) → AllByRecursion (Agree b c) (footprint_in batch (case_with o b)) → AllByRecursion (Agree b c) (token_marks batch.token)
token_read batch b c (Some k) h = h
token_read batch b c None h = (split_all (Agree b c) (token_marks batch.token) (marks_of_ops batch.domain batch.ops b) h).0

abbrev AreOneCase : Option KeptBatch → Option KeptBatch → Batch → Book → Book → Type 0
AreOneCase o p batch b c = (footprint_in batch (case_with o b) ≡ footprint_in batch (case_with p c)) × (o ≡ None → run batch.domain batch.ops b ≡ run batch.domain batch.ops c) × (awaits_in batch (case_with o b) ≡ awaits_in batch (case_with p c))

some_none : (k : KeptBatch) → Some k ≡ None → ⊥
some_none k e = cc

one_case : (batch : Batch) (b c : Book) → AscendingBook b → AscendingBook c → (o p : Option KeptBatch) → o ≡ p → AllByRecursion (Agree b c) (footprint_in batch (case_with o b)) → AreOneCase o p batch b c
one_case batch b c u v (Some k) p e h = (ap (λ o. footprint_in batch (case_with o c)) e, λ n. absurd (some_none k n), ap (λ o. awaits_in batch (case_with o c)) e)
one_case batch b c u v None p e h =
    let r = same_run batch.domain batch.ops b c u v (split_all (Agree b c) (token_marks batch.token) (marks_of_ops batch.domain batch.ops b) h).1 in
    (ap (λ l. token_marks batch.token ++ l) r.1 ∙ ap (λ o. footprint_in batch (case_with o c)) e, λ n. r.0, ap (λ (x : RunResult). not (is_query batch.ops) && is_ok x) r.0 ∙ ap (λ o. awaits_in batch (case_with o c)) e)

pub batch_decided : BatchReadsDecide
batch_decided batch b c u v h =
    let k = kept_same batch.token b c (token_read batch b c (kept_under batch.token b) h) in
    let o = one_case batch b c u v (kept_under batch.token b) (kept_under batch.token c) k h in
    record { kept = k; marks = o.0; runs = o.1; wait = o.2 }

-- ---- at its place, if its token isn't in use

pub verdict_there : (batch : Batch) (s : VersionState) (t : RunEffect) → batch.after ≤ s.number → kept_under batch.token (book_of s.rows) ≡ None → is_query batch.ops ≡ false → run batch.domain batch.ops (book_of s.rows) ≡ Ok t → verdict batch s.number (Some (book_of s.rows)) ≡ adds_within (limit_passed s.number (after (batch_writes batch (s.number + 1) t) (book_of s.rows))) t.replies (after (batch_writes batch (s.number + 1) t) (book_of s.rows))
verdict_there batch s t a k q r =
    verdict_by_case batch s.number (Some (book_of s.rows))
    ∙ (ap (verdict_in batch s.number) (runs_there batch s.number (book_of s.rows) a k)
    ∙ (ap (λ x. verdict_when x batch s.number (book_of s.rows) (run batch.domain batch.ops (book_of s.rows))) q
    ∙ ap (verdict_when false batch s.number (book_of s.rows)) r))

pub commit_check : CommitCheck
commit_check batch base newest t m a l w u h q r =
    let b = book_of base.rows in
    let c = book_of newest.rows in
    let one = batch_decided batch b c u l.ascending h in
    let wait = waits batch (case_on batch b) q in
    let free = (unkept (kept_under batch.token b) b wait.0 wait.1).0 in
    let unkept_there : kept_under batch.token c ≡ None = sym one.kept ∙ free in
    let ran : run batch.domain batch.ops c ≡ Ok t = sym (one.runs free) ∙ r in
    let there = verdict_there batch newest t a unkept_there wait.2 ran in
    record {
      ran = ran;
      may = run_may_apply batch newest t m l w unkept_there ran;
      commits = λ n. let k = batch_commits batch newest t m wait.2 a unkept_there ran n in
          (k.0, k.1, there ∙ (ap (λ x. adds_within x t.replies (after (batch_writes batch (newest.number + 1) t) c)) n ∙ ap (adds t.replies) (sym (ap (λ s. book_of s.rows) k.1 ∙ book_after (newest.number + 1) (batch_writes batch (newest.number + 1) t) newest.rows))));
      is_full = λ limit n. there ∙ ap (λ x. adds_within x t.replies (after (batch_writes batch (newest.number + 1) t) c)) n;
    }

-- ---- a batch that doesn't await its commit isn't committed

-- neither committed nor refused for a limit
abbrev Settles : ℕ → Verdict → Type 0
Settles place v = (is_committed (reply_with place v).outcome ≡ false) × ((limit : Limit) → (reply_with place v).outcome ≡ Refused (Full limit) → ⊥)

again_settles : (same : Bool) (k : KeptBatch) (place : ℕ) → Settles place (verdict_again same k)
again_settles true k place = (refl, λ limit e. cc)
again_settles false k place = (refl, λ limit e. cc)

run_settles : (query : Bool) (batch : Batch) (place : ℕ) (b : Book) (r : RunResult) → (not query && is_ok r) ≡ false → Settles place (verdict_when query batch place b r)
run_settles query batch place b (Err s) h = (refl, λ limit e. cc)
run_settles true batch place b (Ok t) h = (refl, λ limit e. cc)
run_settles false batch place b (Ok t) h = cc

case_settles : (batch : Batch) (place : ℕ) (c : Case) → awaits_in batch c ≡ false → Settles place (verdict_in batch place c)
case_settles batch place early h = (refl, λ limit e. cc)
case_settles batch place gone h = (refl, λ limit e. cc)
case_settles batch place (kept k) h = again_settles (ops_eq k.ops batch.ops) k place
case_settles batch place (runs b) h = run_settles (is_query batch.ops) batch place b (run batch.domain batch.ops b) h

pub others_dont_commit : OthersDontCommit
others_dont_commit batch books h =
    let place = place_of books in
    subst (λ v. Settles place v) (sym (verdict_by_case batch place (book_for (past_place batch.ops) books))) (case_settles batch place (case_of batch books) h)

-- the same for a batch that doesn't await its commit on what its work began on
pub answers_no_commit : AnswersDontCommit
answers_no_commit batch base h = (subst (λ v. Settles base.newest.number v) (sym (verdict_by_case batch base.newest.number (book_read batch base))) (case_settles batch base.newest.number (case_there batch base) h)).0

-- ---- which batches await their commit

last_read : (b c : Book) → Some b ≡ Some c → b ≡ c
last_read b c e = cc

pub late : (m n : ℕ) → nat_lt m n ≡ false → n ≤ m
late m n h = ltb-false m n h

pub awaits_said : AwaitsAsSaid
awaits_said own_domain batch books made = (
  λ h.
      let w = waits batch (case_of batch books) h in
      let r = of_runs (nat_lt (place_of books) batch.after) batch (book_for (past_place batch.ops) books) w.0 w.1 in
      let newest : past_place batch.ops ≡ None = changes_newest own_domain batch made w.2 in
      let same : w.0 ≡ last_book books = last_read w.0 (last_book books) (sym r.1 ∙ ap (λ o. book_for o books) newest) in
      record {
        in_time = late (place_of books) batch.after r.0;
        newest = newest;
        unkept = ap (kept_under batch.token) (sym same) ∙ r.2;
        changes = w.2;
        effect = w.3;
        ran = ap (run batch.domain batch.ops) (sym same) ∙ w.4;
      },
  λ c.
      ap (λ o. awaits_in batch (case_at batch (place_of books) (book_for o books))) c.newest
      ∙ (ap (awaits_in batch) (runs_there batch (place_of books) (last_book books) c.in_time c.unkept)
      ∙ (ap (λ q. not q && is_ok (run batch.domain batch.ops (last_book books))) c.changes
      ∙ ap (λ (r : RunResult). is_ok r) c.ran)),
)
