use Rattle.std.proofs.Common.{ap, map, ◌∙◌}
use Rattle.entry_book.specs.declared.reply.OpReply.TheVariants.{Pruned}
use Rattle.entry_book.specs.Rows.{entry_key}
use Rattle.entry_book.specs.Book.{expired_before}
use Rattle.entry_book.specs.Writes.{after}
use Rattle.entry_book.specs.Ops.{removed}
use Rattle.plain_book.proofs.Answered.{accepted}
use Rattle.plain_book.proofs.ops.prune.prune.Goals as goal

pub returns : goal.returns
returns c =
    let book = c.args.book.now in
    let gone = expired_before c.args.moment book in
    accepted (Pruned c.of.result) (Pruned (map entry_key gone)) (map removed gone) book c.in_ok-after.after
    (ap Pruned (c.of.ensures ∙ (c.in_ok-ids.ensures ∙ ap (map entry_key) (c.as_slice-2.ensures.value ∙ c.in_ok-expired.ensures))))
    (c.in_ok-after.ensures ∙ ap (λ l. after (map removed l) book) (c.as_slice.ensures.value ∙ c.in_ok-expired.ensures))
