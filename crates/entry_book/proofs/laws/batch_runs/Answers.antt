use Rattle.std.proofs.Common.{refl}
use Rattle.entry_book.proofs.Keeps.{run_keeps}
use Rattle.entry_book.proofs.Replies.{query_writes, run_replies}
use Rattle.entry_book.proofs.Runs.{from_stop, run_fits, run_extends, to_stop}
use Rattle.entry_book.proofs.laws.batch_runs.Goals as goal

pub returns-clause-stops : goal.returns-clause-stops
returns-clause-stops c = λ domain ops b n r. (to_stop domain ops b n r, from_stop domain ops b n r)

pub returns-clause-extends : goal.returns-clause-extends
returns-clause-extends c = run_extends

pub returns-clause-none : goal.returns-clause-none
returns-clause-none c = λ domain b. refl

pub returns-clause-replies : goal.returns-clause-replies
returns-clause-replies c = run_replies

pub returns-clause-queries : goal.returns-clause-queries
returns-clause-queries c = query_writes

pub returns-clause-fits : goal.returns-clause-fits
returns-clause-fits c = run_fits

pub returns-clause-keeps : goal.returns-clause-keeps
returns-clause-keeps c = run_keeps
