use Rattle.shared_registry.proofs.Tries.{conflicts_took}
use Rattle.shared_registry.proofs.laws.conflicts_take_commits.Goals as goal

pub returns : goal.returns
returns c = conflicts_took
