use Rattle.shared_registry.proofs.OneList.{one_list_of_longer}
use Rattle.shared_registry.proofs.history.HistoryPrefix.agree.Goals as goal

pub returns : goal.returns
returns g c = one_list_of_longer c.args.self.now c.args.other.now c.longer-longer.result c.longer-longer.ensures.one c.longer-longer.ensures.this c.longer-longer.ensures.that
