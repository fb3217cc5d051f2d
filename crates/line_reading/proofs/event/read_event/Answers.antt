use Rattle.line_reading.proofs.EventDomain.{spelled_event-domain}
use Rattle.line_reading.proofs.event.read_event.Goals as goal

pub returns-in-Ok-clause-domain : goal.returns-in-Ok-clause-domain
returns-in-Ok-clause-domain c = spelled_event-domain c.args.domain.now c.args.ids.now _ c.args.line.now c.in-Ok.event c.in-Ok.ensures.spelled
