-- The audit record that a value of the type `Record` represents.
use Rattle.serde_json.specs.View.{view}
use Rattle.line_reading.specs.declared.record.Record.{Record}
use Rattle.line_reading.specs.Records.{AuditRecord}

abbrev pub recorded : Record → AuditRecord
recorded r = record { batch = r.batch; call = r.call; invoked = r.invoked; replied = r.replied; reply = view r.reply }
