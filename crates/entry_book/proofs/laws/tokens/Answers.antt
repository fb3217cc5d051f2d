use Rattle.entry_book.proofs.ExactlyOnce.{exactly_once, kept_stays, stored_once}
use Rattle.entry_book.proofs.KeptBatches.{all_committed, kept_committed, tokens_written}
use Rattle.entry_book.proofs.SameOps.{same_ops}
use Rattle.entry_book.proofs.Verdicts.{repeat_answered, reuse_refused}
use Rattle.entry_book.proofs.laws.tokens.Goals as goal

pub returns-clause-same : goal.returns-clause-same
returns-clause-same c = same_ops

pub returns-clause-written : goal.returns-clause-written
returns-clause-written c = tokens_written

pub returns-clause-committed : goal.returns-clause-committed
returns-clause-committed c = kept_committed

pub returns-clause-repeated : goal.returns-clause-repeated
returns-clause-repeated c = repeat_answered

pub returns-clause-reused : goal.returns-clause-reused
returns-clause-reused c = reuse_refused

pub returns-clause-once : goal.returns-clause-once
returns-clause-once c = exactly_once

pub returns-clause-stays : goal.returns-clause-stays
returns-clause-stays c = kept_stays

pub returns-clause-stored_once : goal.returns-clause-stored_once
returns-clause-stored_once c = stored_once

pub returns-clause-all_committed : goal.returns-clause-all_committed
returns-clause-all_committed c = all_committed
