use Rattle.version_book.proofs.laws.reads_after_writes.Goals as goal
use Rattle.version_book.proofs.Agreement.{agree_after, reads_after, unhit}

pub returns-clause-seen : goal.returns-clause-seen
returns-clause-seen c = reads_after

pub returns-clause-agree : goal.returns-clause-agree
returns-clause-agree c = agree_after

pub returns-clause-unhit : goal.returns-clause-unhit
returns-clause-unhit c = unhit
