use Rattle.shared_registry.proofs.Overtaken.{overtaken_are_hit}
use Rattle.shared_registry.proofs.laws.overtaken_law.Goals as goal

pub returns : goal.returns
returns c = overtaken_are_hit
