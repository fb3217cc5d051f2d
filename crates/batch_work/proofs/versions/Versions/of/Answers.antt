use Rattle.batch_work.proofs.Windows.{earlier_domain}
use Rattle.batch_work.proofs.versions.Versions.of.Goals as goal

pub returns-clause-domain : goal.returns-clause-domain
returns-clause-domain g c = earlier_domain (g.W.Versioned.window c.args.window.now).newest c.earlier_in.result c.earlier_in.ensures.earlier
