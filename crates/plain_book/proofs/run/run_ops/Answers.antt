use Rattle.std.proofs.Common.{◌≡◌, ◌+◌, ◌++◌, ◌∷◌, [], ◌^◌, ◌<◌, Ok, sym, ap, subst, ◌∙◌, drop, length, get_or}
use Rattle.entry_book.specs.Lawful.{Lawful}
use Rattle.entry_book.specs.Ops.{op_of}
use Rattle.entry_book.specs.Runs.{run}
use Rattle.plain_book.specs.Performed.{performed, resumed}
use Rattle.plain_book.proofs.Running.{continues, keeps_at}
use Rattle.plain_book.proofs.run.run_ops.Goals as goal

pub loop-index-preserved : goal.loop-index-preserved
loop-index-preserved c =
    let batch = c.args.batch.now in
    let n = c.loop-index.index in
    let answered = rw c.in_ok-replied.ensures.1 at c.perform-answer.ensures in
    let h = rw c.in-Ok.is at answered in
    let accepted : Ok (c.in-Ok.reply, c.in-Ok.after) ≡ performed (op_of batch.domain c.op-item.result c.loop-index.current) c.loop-index.current = h ∙ ap (λ d. performed (op_of d c.op-item.result c.loop-index.current) c.loop-index.current) c.domain.ensures.domain in
    let below = subst (λ l. n < length l) c.ops-op-items.ensures.ops c.loop-index-test.true in
    let is = c.op-item.is ∙ ap (λ l. get_or l n c.op-item.result) c.ops-op-items.ensures.ops in
    let next : c.in_ok-next-in-Ok.next ≡ c.in-Ok.after = c.in_ok-next-in-Ok.ensures.0 in
    let pushed = rw c.in_ok-next-in-Ok.ensures.1 at c.with_item.ensures in
    let more : c.in_ok-next-in-Ok.more ≡ c.loop-index.replies ++ c.in-Ok.reply ∷ [] = pushed ∙ ap (λ l. l ++ c.in-Ok.reply ∷ []) c.in_ok-replied.ensures.0 in (
      ap (λ replies. resumed (n + 1) replies c.in_ok-next-in-Ok.next (run batch.domain (drop (n + 1) batch.ops) c.in_ok-next-in-Ok.next)) more
          ∙ (ap (λ b. resumed (n + 1) (c.loop-index.replies ++ c.in-Ok.reply ∷ []) b (run batch.domain (drop (n + 1) batch.ops) b)) next
          ∙ (sym (continues batch.domain batch.ops n c.op-item.result c.loop-index.replies c.in-Ok.reply c.loop-index.current c.in-Ok.after below is accepted) ∙ c.loop-index.invariant.0)),
      subst (Lawful batch.domain (2 ^ 62 + (n + 1))) (sym next) (keeps_at batch (2 ^ 62) n c.op-item.result c.in-Ok.reply c.loop-index.current c.in-Ok.after c.ops-op-items.ensures.made c.loop-index.invariant.1 below is accepted),
    )
