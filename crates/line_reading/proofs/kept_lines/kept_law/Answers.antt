use Rattle.line_reading.proofs.Kept.{kept_spells, kept_spells_event, kept_spells_record}
use Rattle.line_reading.proofs.kept_lines.kept_law.Goals as goal

pub returns-clause-requests : goal.returns-clause-requests
returns-clause-requests c = kept_spells

pub returns-clause-events : goal.returns-clause-events
returns-clause-events c = kept_spells_event

pub returns-clause-records : goal.returns-clause-records
returns-clause-records c = kept_spells_record
