use Rattle.batch_work.proofs.Cases.{verdict_by_case, waits}
use Rattle.batch_work.proofs.laws.cases.Goals as goal

pub returns : goal.returns
returns c = record { verdict = verdict_by_case; waits = waits }
