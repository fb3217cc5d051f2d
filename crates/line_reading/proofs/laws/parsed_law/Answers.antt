use Rattle.line_reading.proofs.EventDomain.{spelled_event-domain}
use Rattle.line_reading.proofs.Utf8.{value_in-text}
use Rattle.line_reading.proofs.laws.parsed_law.Goals as goal

pub returns-clause-values : goal.returns-clause-values
returns-clause-values c = value_in-text

pub returns-clause-events : goal.returns-clause-events
returns-clause-events c = spelled_event-domain
