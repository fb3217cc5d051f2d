-- The case that a batch meets, and what follows from it.
use Rattle.std.proofs.Common.{◌≡◌, ℕ, ◌≤◌, Bool, true, false, cond, not, ◌&&◌, Option, Some, None, Ok, Err, refl, sym, ap, ◌∙◌}
use Rattle.std.specs.Prelude.{nat_lt, is_ok}
use Rattle.std.specs.Option.{option_map_or}
use Rattle.std.proofs.lemmas.Bool.{le-ltb}
use Rattle.entry_book.specs.declared.kept.KeptBatch.{KeptBatch}
use Rattle.entry_book.specs.declared.reply.Refusal.TheVariants.{NotYet}
use Rattle.entry_book.specs.Batches.{Batch, is_query}
use Rattle.entry_book.specs.Book.{Book}
use Rattle.entry_book.specs.History.{kept_under, refuses, verdict_on, verdict_over}
use Rattle.entry_book.specs.Runs.{RunEffect, RunResult, run}
use Rattle.batch_work.specs.Laws.{AwaitsInCase, VerdictByCase}
use Rattle.batch_work.specs.Reads.{early, gone, kept, runs, case_on, case_at, verdict_in}

-- ---- the specification's verdict

verdict_kept : (o : Option KeptBatch) (batch : Batch) (place : ℕ) (b : Book) → verdict_over o batch place b ≡ verdict_in batch place (option_map_or kept o (runs b))
verdict_kept (Some k) batch place b = refl
verdict_kept None batch place b = refl

verdict_read : (o : Option Book) (batch : Batch) (place : ℕ) → verdict_on batch place o ≡ verdict_in batch place (option_map_or (case_on batch) o gone)
verdict_read None batch place = refl
verdict_read (Some b) batch place = verdict_kept (kept_under batch.token b) batch place b

verdict_time : (t : Bool) (batch : Batch) (place : ℕ) (o : Option Book) → cond t (refuses NotYet) (verdict_on batch place o) ≡ verdict_in batch place (cond t early (option_map_or (case_on batch) o gone))
verdict_time true batch place o = refl
verdict_time false batch place o = verdict_read o batch place

pub verdict_by_case : VerdictByCase
verdict_by_case batch place o = verdict_time (nat_lt place batch.after) batch place o

-- ---- it runs on a book

pub runs_there : (batch : Batch) (place : ℕ) (b : Book) → batch.after ≤ place → kept_under batch.token b ≡ None → case_at batch place (Some b) ≡ runs b
runs_there batch place b in_time free = ap (λ t. cond t early (case_on batch b)) (le-ltb place batch.after in_time) ∙ ap (λ o. option_map_or kept o (runs b)) free

pub unkept : (o : Option KeptBatch) (b c : Book) → option_map_or kept o (runs b) ≡ runs c → (o ≡ None) × (b ≡ c)
unkept (Some k) b c e = cc
unkept None b c e = let q : b ≡ c = cc in (refl, q)

-- only if it doesn't come too early, it reads this book, and its token isn't in use there
pub of_runs : (t : Bool) (batch : Batch) (o : Option Book) (b : Book) → cond t early (option_map_or (case_on batch) o gone) ≡ runs b → (t ≡ false) × (o ≡ Some b) × (kept_under batch.token b ≡ None)
of_runs true batch o b e = cc
of_runs false batch None b e = cc
of_runs false batch (Some c) b e = let k = unkept (kept_under batch.token c) c b e in (refl, ap Some k.1, ap (kept_under batch.token) (sym k.1) ∙ k.0)

-- ---- it awaits its commit

ok_waits : (query : Bool) (r : RunResult) → (not query && is_ok r) ≡ true → (query ≡ false) × (t : RunEffect) × (r ≡ Ok t)
ok_waits true r e = cc
ok_waits false (Err s) e = cc
ok_waits false (Ok t) e = (refl, t, refl)

pub waits : AwaitsInCase
waits batch early e = cc
waits batch gone e = cc
waits batch (kept k) e = cc
waits batch (runs b) e = let r = ok_waits (is_query batch.ops) (run batch.domain batch.ops b) e in (b, refl, r.0, r.1, r.2)
