use Rattle.shared_registry.proofs.Settled.{repeats_are_seen}
use Rattle.shared_registry.proofs.laws.repeats_law.Goals as goal

pub returns : goal.returns
returns c = repeats_are_seen
