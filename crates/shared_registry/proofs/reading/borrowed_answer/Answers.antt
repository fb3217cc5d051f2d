use Rattle.std.proofs.Common.{ap, ◌∙◌}
use Rattle.std.proofs.lemmas.Result.{IfOk-weaker}
use Rattle.batch_work.specs.Working.{base_in, reply_there}
use Rattle.shared_registry.proofs.Answered.{answer_is, place_is}
use Rattle.shared_registry.proofs.reading.borrowed_answer.Goals as goal

pub returns-clause-answer : goal.returns-clause-answer
returns-clause-answer g c =
    let batch = c.args.batch.now in
    IfOk-weaker c.answer.result _ _ (λ reply e.
    answer_is g.J.RegistryId.first batch c.args.snapshot.now reply c.requires.snapshot.shows.journal (e ∙ ap (λ w. reply_there batch (base_in batch w)) c.window.ensures.window)) c.answer.ensures

pub returns-clause-place : goal.returns-clause-place
returns-clause-place g c =
    let batch = c.args.batch.now in
    let snapshot = c.args.snapshot.now in
    IfOk-weaker c.answer.result _ _ (λ reply e.
    place_is g.J.RegistryId.first _ batch snapshot reply c.ops.ensures.made c.requires.query c.requires.snapshot.shows.is_first.some c.requires.snapshot.shows.journal
    (answer_is g.J.RegistryId.first batch snapshot reply c.requires.snapshot.shows.journal (e ∙ ap (λ w. reply_there batch (base_in batch w)) c.window.ensures.window))) c.answer.ensures
