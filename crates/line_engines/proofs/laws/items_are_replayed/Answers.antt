use Rattle.line_engines.proofs.Replaying.{items_are_replayed}
use Rattle.line_engines.proofs.laws.items_are_replayed.Goals as goal

pub returns : goal.returns
returns c = items_are_replayed c.journals_are_replayed.ensures.plain c.args.items.now c.know_items.ensures
