use Rattle.std.proofs.Common.{ap, sym, subst, ◌∙◌}
use Rattle.entry_book.specs.Batches.{past_place}
use Rattle.batch_work.specs.WorkInvariants.{InTime}
use Rattle.batch_work.specs.Working.{version_read}
use Rattle.batch_work.proofs.Taking.{ops_begin}
use Rattle.batch_work.proofs.begin.first_stage.Goals as goal

pub returns-in-Ok : goal.returns-in-Ok
returns-in-Ok c =
    let batch = c.args.batch.now in
    let on = c.begun-versions.ensures in
    let in_time = subst (InTime batch) on c.in-Ok.ensures.in_time in
    let read = c.in-Ok.ensures.read ∙ ap (version_read (past_place batch.ops)) on in
    ops_begin batch c.args.begun.now c.requires.began in_time c.in-Ok.field-0.now (sym read) (sym c.token.ensures ∙ c.in-None.is)
