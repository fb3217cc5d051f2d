use Rattle.shared_registry.proofs.Prefixes.{prefix_self}
use Rattle.shared_registry.proofs.Steps.{sees}
use Rattle.shared_registry.proofs.reading.look.Goals as goal

pub enter_as-requires : goal.enter_as-requires
enter_as-requires g c x = sees _ _ _ _ _ x x (λ e. e) (prefix_self _)
