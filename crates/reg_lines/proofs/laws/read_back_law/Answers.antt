use Rattle.reg_lines.proofs.ReadBackOps.{op-back}
use Rattle.reg_lines.proofs.ReadBackRecords.{batch-back, record-back}
use Rattle.reg_lines.proofs.Spelled.{record-spelled}
use Rattle.reg_lines.proofs.laws.read_back_law.Goals as goal

pub returns-clause-ops : goal.returns-clause-ops
returns-clause-ops c = op-back

pub returns-clause-batches : goal.returns-clause-batches
returns-clause-batches c = batch-back

pub returns-clause-records : goal.returns-clause-records
returns-clause-records c = record-back

pub returns-clause-record_texts : goal.returns-clause-record_texts
returns-clause-record_texts c = record-spelled
