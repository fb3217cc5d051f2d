use Rattle.batch_work.proofs.Batches.{batch_decided}
use Rattle.batch_work.proofs.Deciding.{same_run}
use Rattle.batch_work.proofs.laws.reads_decide.Goals as goal

pub returns : goal.returns
returns c = record { ops = same_run; batch = batch_decided }
