use Rattle.batch_work.proofs.Batches.{answers_no_commit, commit_check, others_dont_commit, awaits_said}
use Rattle.batch_work.proofs.laws.commit_check.Goals as goal

pub returns : goal.returns
returns c = record { check = commit_check; awaits = awaits_said; others = others_dont_commit; answers = answers_no_commit }
