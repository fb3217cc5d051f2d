-- The writes of a work that is ready satisfy the preconditions of `Version::apply`.
use Rattle.std.proofs.Common.{◌≡◌, ◌+◌, ◌*◌, List, None, Ok, IfOk, sym, ap, subst, ◌∙◌}
use Rattle.entry_book.specs.declared.reply.OpReply.{OpReply}
use Rattle.entry_book.specs.Writes.{RowWrite}
use Rattle.entry_book.specs.Batches.{Batch, IsMadeFor}
use Rattle.entry_book.specs.Runs.{RunEffect, RefusedOp, RunResult, run}
use Rattle.entry_book.specs.Lawful.{Lawful}
use Rattle.entry_book.specs.Limits.{IsWithinLimits}
use Rattle.entry_book.specs.History.{batch_writes, kept_under}
use Rattle.version_book.specs.Applying.{MayApply}
use Rattle.version_book.specs.CommittedRows.{VersionState, book_of}
use Rattle.version_book.specs.Laws.{PlacesPut, RunMayApply}
use Rattle.version_book.specs.Written.{placed}
use Rattle.batch_work.specs.Working.{IsAccepted}

of_ok : (P : RunEffect → Type 0) (r : RunResult) (t : RunEffect) → r ≡ Ok t → IfOk r P → P t
of_ok P r t e h = let k : IfOk {E = RefusedOp} (Ok t) P = subst (λ r. IfOk r P) e h in k

pub may_apply : (batch : Batch) (s : VersionState) (ws : List RowWrite) (replies : List OpReply) → IsAccepted batch (book_of s.rows) replies ws → IsMadeFor batch.domain batch → batch.domain ≡ s.domain → Lawful s.domain (64 * s.number) (book_of s.rows) → IsWithinLimits (book_of s.rows) → kept_under batch.token (book_of s.rows) ≡ None → PlacesPut → RunMayApply → MayApply (placed (s.number + 1) ws) (s.number + 1) s
may_apply batch s ws replies a m e l w k places applying =
    let n = s.number + 1 in
    let made : IsMadeFor s.domain batch = subst (λ own. IsMadeFor own batch) e m in
    let t : RunEffect = a.effect in
    let may : MayApply (batch_writes batch n t) n s = applying batch s t made l w k a.ran in
    let put : placed n (batch_writes batch 0 t) ≡ batch_writes batch n t = of_ok (λ t. placed n (batch_writes batch 0 t) ≡ batch_writes batch n t) (run batch.domain batch.ops (book_of s.rows)) t a.ran (places batch (book_of s.rows) 0 n) in
    subst (λ ws. MayApply ws n s) (sym (ap (placed n) a.writes_are ∙ put)) may
