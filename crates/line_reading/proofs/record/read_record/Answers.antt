use Rattle.line_reading.specs.RecordViews.{recorded}
use Rattle.line_reading.proofs.RecordDomain.{spelled_record-domain}
use Rattle.line_reading.proofs.record.read_record.Goals as goal

pub returns-in-Ok-clause-domain : goal.returns-in-Ok-clause-domain
returns-in-Ok-clause-domain c = spelled_record-domain c.args.domain.now c.args.line.now (recorded c.in-Ok.parsed) c.in-Ok.ensures.spelled
