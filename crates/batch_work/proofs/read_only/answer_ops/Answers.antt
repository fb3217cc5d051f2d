use Rattle.std.proofs.Common.{◌≡◌, ◌+◌, Ok, sym, ap, ◌∙◌}
use Rattle.entry_book.specs.Ops.{op_of}
use Rattle.batch_work.specs.Questions.{answered}
use Rattle.batch_work.specs.Windows.{book_in}
use Rattle.batch_work.proofs.Questions.{asked_more, left}
use Rattle.batch_work.proofs.read_only.answer_ops.Goals as goal

pub loop-index-preserved : goal.loop-index-preserved
loop-index-preserved c =
    let d = c.args.version.now.domain in
    let b = book_in c.args.version.now in
    let n = c.loop-index.index in
    let op = c.index-ops-index.result in
    let asked : op_of d op b ≡ answered (Ok c.in-Ok.reply) = c.in_ok-reply.ensures ∙ ap answered c.in-Ok.is in
    ap (left d c.args.ops.now b (n + 1)) c.in_ok-push-in-Ok.ensures.ok
    ∙ (sym (asked_more d c.args.ops.now b n op c.loop-index.replies c.in-Ok.reply c.loop-index-test.true c.index-ops-index.is asked)
    ∙ c.loop-index.invariant)
