use Rattle.std.proofs.Common.{◌≡◌, Some, ap, ◌∙◌}
use Rattle.entry_book.specs.Batches.{past_place}
use Rattle.batch_work.specs.WorkInvariants.{base_of}
use Rattle.batch_work.specs.Working.{version_read}
use Rattle.batch_work.proofs.Looking.{grows, looked}
use Rattle.batch_work.proofs.look.look_op.Goals as goal

pub advance-requires : goal.advance-requires
advance-requires c =
    let v : Some c.in-Some.version.now ≡ version_read (past_place c.args.batch.now.ops) (base_of c.args.begun.now) = c.in-Some.ensures ∙ ap (version_read (past_place c.args.batch.now.ops)) c.begun.ensures in
    record { counts = grows c.args.batch.now (base_of c.args.begun.now) c.args.progress.now.marks.items c.args.progress.now.changes c.args.progress.now.replies.items c.args.index c.args.phase c.requires.going c.in-Some.version.now v c.requires.began.made c.in-Ok.mark c.in-Ok-read_after.reading c.in-Ok-read_after.ensures }

pub returns-in-Ok-advance-clause-looked : goal.returns-in-Ok-advance-clause-looked
returns-in-Ok-advance-clause-looked c =
    let v : Some c.in-Some.version.now ≡ version_read (past_place c.args.batch.now.ops) (base_of c.args.begun.now) = c.in-Some.ensures ∙ ap (version_read (past_place c.args.batch.now.ops)) c.begun.ensures in
    looked c.args.batch.now (base_of c.args.begun.now) c.args.progress.now.marks.items c.args.progress.now.changes c.args.progress.now.replies.items c.args.index c.args.phase c.requires.going c.in-Some.version.now v c.ops.result.now c.index-ops-index.result c.ops.ensures.ops c.index-ops-index.is c.args.begun.now.server c.requires.began.server_is c.in-Ok.mark c.in-Ok.ensures c.in-Ok-read_after.reading c.in-Ok-read_after.ensures c.in-Ok-advance.next c.in-Ok-advance.ensures.next
