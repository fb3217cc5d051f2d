use Rattle.batch_work.proofs.Walked.{walk_as_said, one_walk, trusted_as_said, authorised_reads, trust_reads, missing_reads}
use Rattle.batch_work.proofs.laws.walks.Goals as goal

pub returns-clause-walk : goal.returns-clause-walk
returns-clause-walk c = walk_as_said

pub returns-clause-one : goal.returns-clause-one
returns-clause-one c = one_walk

pub returns-clause-trusted : goal.returns-clause-trusted
returns-clause-trusted c = trusted_as_said

pub returns-clause-authorised : goal.returns-clause-authorised
returns-clause-authorised c = authorised_reads

pub returns-clause-trust : goal.returns-clause-trust
returns-clause-trust c = trust_reads

pub returns-clause-missing : goal.returns-clause-missing
returns-clause-missing c = missing_reads
