use Rattle.shared_registry.proofs.Submitting.{may_see_added}
use Rattle.shared_registry.proofs.laws.commits_law.Goals as goal

pub returns : goal.returns
returns c = may_see_added
