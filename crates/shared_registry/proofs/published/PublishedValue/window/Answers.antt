use Rattle.shared_registry.proofs.Showing.{number_low}
use Rattle.shared_registry.proofs.published.PublishedValue.window.Goals as goal

pub returns-clause-low : goal.returns-clause-low
returns-clause-low c = rw (← c.self.view_is) (number_low _ _ c.self.invariant.1)
