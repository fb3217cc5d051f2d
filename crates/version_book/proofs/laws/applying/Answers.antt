use Rattle.version_book.proofs.laws.applying.Goals as goal
use Rattle.version_book.proofs.Applying.{run_may_apply}

pub returns : goal.returns
returns c = run_may_apply
