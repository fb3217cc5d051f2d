use Rattle.entry_book.proofs.Changed.{after-append}
use Rattle.entry_book.proofs.Fits.{in_order, op_fits}
use Rattle.entry_book.proofs.laws.writes.Goals as goal

pub returns-clause-joined : goal.returns-clause-joined
returns-clause-joined c = after-append

pub returns-clause-order : goal.returns-clause-order
returns-clause-order c = in_order

pub returns-clause-op : goal.returns-clause-op
returns-clause-op c = op_fits
