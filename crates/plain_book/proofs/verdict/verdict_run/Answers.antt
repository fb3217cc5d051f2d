use Rattle.std.proofs.Common.{◌∙◌}
use Rattle.std.proofs.lemmas.Result.{IfOk-weaker}
use Rattle.entry_book.specs.Batches.{is_query}
use Rattle.entry_book.specs.Runs.{run}
use Rattle.plain_book.proofs.Running.{accepted_when}
use Rattle.plain_book.proofs.verdict.verdict_run.Goals as goal

pub returns-in-Accepted : goal.returns-in-Accepted
returns-in-Accepted c =
    let batch = c.args.batch.now in
    let e = rw c.in-Accepted.is at c.in_ok-index.ensures in
    let same = accepted_when (is_query batch.ops) batch c.args.place c.in-Accepted.replies c.args.book.now c.in-Accepted.after (run batch.domain batch.ops c.args.book.now) e in
    IfOk-weaker c.verdict_accepted.result _ _ (λ verdict h. h ∙ same) c.verdict_accepted.ensures
