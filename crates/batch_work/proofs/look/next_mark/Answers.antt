use Rattle.std.proofs.Common.{◌≡◌, Some, length, subst}
use Rattle.std.specs.Prelude.{slice_get}
use Rattle.std.proofs.lemmas.Result.{IfOk-weaker}
use Rattle.batch_work.specs.WorkInvariants.{StageInvariant, base_of}
use Rattle.batch_work.specs.Working.{footprint_there}
use Rattle.batch_work.proofs.NextMarks.{next_in_op, next_read, when_copied}
use Rattle.batch_work.proofs.look.next_mark.Goals as goal

pub returns-in-At : goal.returns-in-At
returns-in-At c =
    let progress = c.args.progress.now in
    let going = subst (λ g. StageInvariant g c.args.batch.now (base_of c.args.begun.now) progress.marks.items progress.changes progress.replies.items) c.in-At.is c.requires.holds_at_stage in
    IfOk-weaker c.mark_of.result _ _ (λ mark e.
    next_in_op c.args.batch.now (base_of c.args.begun.now) progress.marks.items progress.changes progress.replies.items c.in-At.index c.in-At.phase going c.ops.result.now c.index-ops-index.result c.ops.ensures.ops c.index-ops-index.is c.args.begun.now.server c.requires.began.server_is mark e) c.mark_of.ensures

pub returns-in-Read : goal.returns-in-Read
returns-in-Read c =
    let progress = c.args.progress.now in
    let read = subst (λ g. StageInvariant g c.args.batch.now (base_of c.args.begun.now) progress.marks.items progress.changes progress.replies.items) c.in-Read.is c.requires.holds_at_stage in
    let there = footprint_there c.args.batch.now (base_of c.args.begun.now) in
    when_copied (λ mark. slice_get there (length progress.marks.items) ≡ Some mark) c.in-Read.mark
    (next_read c.args.batch.now (base_of c.args.begun.now) progress.marks.items progress.changes progress.replies.items c.in-Read.mark c.in-Read.field-1 read) _ c.clone.result c.clone.ensures.cases
