-- A property of each kind of verdict is a property of a batch's verdict.
use Rattle.std.proofs.Common.{◌≡◌, ℕ, Bool, true, false, cond, Option, Some, None, List, refl}
use Rattle.std.specs.Prelude.{nat_lt}
use Rattle.entry_book.specs.declared.kept.KeptBatch.{KeptBatch}
use Rattle.entry_book.specs.declared.reply.OpReply.{OpReply}
use Rattle.entry_book.specs.declared.reply.Refusal.{Refusal}
use Rattle.entry_book.specs.declared.reply.Refusal.TheVariants.{NotYet, TokenReused}
use Rattle.entry_book.specs.Book.{Book}
use Rattle.entry_book.specs.SameOps.{ops_eq}
use Rattle.entry_book.specs.Batches.{Batch}
use Rattle.entry_book.specs.History.{Verdict, refuses, repeats, kept_under, verdict, verdict_again, verdict_on, verdict_over, verdict_run}

module _ (P : Verdict → Type 0) (batch : Batch) (place : ℕ) (of_refusal : (r : Refusal) → P (refuses r)) (of_repeat : (n : ℕ) (replies : List OpReply) → P (repeats n replies)) where
  of_kept : (same : Bool) (k : KeptBatch) → P (verdict_again same k)
  of_kept true k = of_repeat k.place k.replies
  of_kept false k = of_refusal TokenReused

  of_over : (o : Option KeptBatch) (b : Book) → kept_under batch.token b ≡ o → (kept_under batch.token b ≡ None → P (verdict_run batch place b)) → P (verdict_over o batch place b)
  of_over (Some k) b e h = of_kept (ops_eq k.ops batch.ops) k
  of_over None b e h = h e

  of_on : (o : Option Book) → ((b : Book) → o ≡ Some b → kept_under batch.token b ≡ None → P (verdict_run batch place b)) → P (verdict_on batch place o)
  of_on None h = of_refusal _
  of_on (Some b) h = of_over (kept_under batch.token b) b refl (h b refl)

  of_time : (early : Bool) (v : Verdict) → P v → P (cond early (refuses NotYet) v)
  of_time true v h = of_refusal NotYet
  of_time false v h = h

  -- a verdict is a refusal, a repeat, or that of the run on the book that is read, which has no row for the token
  pub of_verdict : (o : Option Book) → ((b : Book) → o ≡ Some b → kept_under batch.token b ≡ None → P (verdict_run batch place b)) → P (verdict batch place o)
  of_verdict o h = of_time (nat_lt place batch.after) (verdict_on batch place o) (of_on o h)
