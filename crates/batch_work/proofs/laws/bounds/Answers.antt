use Rattle.batch_work.proofs.Bounds.{op_reads_bounded, batch_reads_bounded, reads_are_few, reads_are_few_anywhere}
use Rattle.batch_work.proofs.InOrder.{reads_in_order, token_read_first, kept_read_only}
use Rattle.batch_work.proofs.laws.bounds.Goals as goal

pub returns-clause-order : goal.returns-clause-order
returns-clause-order c = reads_in_order

pub returns-clause-token : goal.returns-clause-token
returns-clause-token c = token_read_first

pub returns-clause-kept : goal.returns-clause-kept
returns-clause-kept c = kept_read_only

pub returns-clause-operation : goal.returns-clause-operation
returns-clause-operation c = op_reads_bounded

pub returns-clause-batch : goal.returns-clause-batch
returns-clause-batch c = batch_reads_bounded

pub returns-clause-few : goal.returns-clause-few
returns-clause-few c = reads_are_few

pub returns-clause-anywhere : goal.returns-clause-anywhere
returns-clause-anywhere c = reads_are_few_anywhere
