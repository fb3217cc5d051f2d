use Rattle.reg_lines.proofs.Spelled.{batch-spelled, op-spelled}
use Rattle.reg_lines.proofs.laws.spelled_law.Goals as goal

pub returns-clause-batches : goal.returns-clause-batches
returns-clause-batches c = batch-spelled

pub returns-clause-ops : goal.returns-clause-ops
returns-clause-ops c = op-spelled
