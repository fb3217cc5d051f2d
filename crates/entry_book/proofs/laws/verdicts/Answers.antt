use Rattle.std.proofs.Common.{◌≡◌, ◌⊎◌, ℕ, ◌+◌, List, Some, None, refl, inl, inr}
use Rattle.entry_book.specs.declared.reply.OpReply.{OpReply}
use Rattle.entry_book.specs.declared.reply.Refusal.{Refusal}
use Rattle.entry_book.specs.Book.{Book}
use Rattle.entry_book.specs.Writes.{after}
use Rattle.entry_book.specs.Runs.{run}
use Rattle.entry_book.specs.Limits.{limit_passed}
use Rattle.entry_book.specs.Batches.{is_query}
use Rattle.entry_book.specs.History.{batch_writes, kept_under, refuses, repeats, verdict_run}
use Rattle.entry_book.proofs.Histories.{verdict_changes}
use Rattle.entry_book.proofs.OfVerdict.{of_verdict}
use Rattle.entry_book.proofs.PastPages.{changes_newest}
use Rattle.entry_book.proofs.laws.verdicts.Goals as goal

pub returns-clause-cases : goal.returns-clause-cases
returns-clause-cases c = λ batch place read.
    of_verdict (λ v. ((r : Refusal) × (v ≡ refuses r)) ⊎ ((n : ℕ) × (replies : List OpReply) × (v ≡ repeats n replies)) ⊎ ((b : Book) × (read ≡ Some b) × (kept_under batch.token b ≡ None) × (v ≡ verdict_run batch place b))) batch place
    (λ r. inl (r, refl)) (λ n replies. inr (inl (n, replies, refl))) read (λ b e k. inr (inr (b, e, k, refl)))

pub returns-clause-changes : goal.returns-clause-changes
returns-clause-changes c = λ batch n b t q e. verdict_changes (is_query batch.ops) batch n b (run batch.domain batch.ops b) t (limit_passed n (after (batch_writes batch (n + 1) t) b)) q e refl

pub returns-clause-newest : goal.returns-clause-newest
returns-clause-newest c = changes_newest
