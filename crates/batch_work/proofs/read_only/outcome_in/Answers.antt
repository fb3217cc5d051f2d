use Rattle.std.proofs.Common.{sym, ◌∙◌}
use Rattle.std.proofs.lemmas.Result.{IfOk-weaker}
use Rattle.entry_book.specs.Batches.{past_place}
use Rattle.batch_work.proofs.Questions.{asked_there, domain_read, refused_there}
use Rattle.batch_work.proofs.read_only.outcome_in.Goals as goal

pub returns-in-Ok : goal.returns-in-Ok
returns-in-Ok c =
    let batch = c.args.batch.now in
    let base = c.args.versions.now in
    let read = c.in-Ok.ensures.read in
    let domain = domain_read (past_place batch.ops) base c.in-Ok.version.now c.requires.earlier read in
    IfOk-weaker c.outcome_on.result _ _ (λ outcome h.
    asked_there batch base c.in-Ok.version.now c.ops-ops.ensures.made c.requires.query c.in-Ok.ensures.in_time read
    ∙ h batch base.newest.number (sym c.ops-ops.ensures.ops) (c.requires.domain ∙ sym domain)) c.outcome_on.ensures

pub returns-in-Err : goal.returns-in-Err
returns-in-Err c = refused_there c.args.batch.now c.args.versions.now c.in-Err.refusal c.in-Err.ensures.refused
