use Rattle.line_reading.proofs.Domain.{spelled-domain}
use Rattle.line_reading.proofs.request.read_request.Goals as goal

pub returns-in-Ok-clause-domain : goal.returns-in-Ok-clause-domain
returns-in-Ok-clause-domain c = spelled-domain c.args.domain.now c.args.ids.now _ c.args.line.now c.in-Ok.request c.in-Ok.ensures.spelled
