-- The verdict on the records of a schedule is yes.
use Rattle.std.specs.Prelude.{◌≡◌, ℕ, List, length}
use Rattle.std.specs.List.{AllByRecursion}
use Rattle.line_devices.specs.Lines.{lines_of}
use Rattle.reg_lines.specs.Spelled.{FitsInLine}
use Rattle.call_audit.specs.Confirmed.{RecordedCall, text_of_call}
use Rattle.call_audit.specs.Verdicts.{verdict_of_lines}
use Rattle.call_audit.specs.declared.verdict.AuditVerdict.TheVariants.{Yes}
use Rattle.line_engines.specs.Recorded.{Recorded, WritesRecords}
use Rattle.line_engines.specs.Schedules.{Scheduled}

-- a record, in the form of the auditor's theorem
abbrev pub call_of : Recorded → RecordedCall
call_of r = record { batch = r.batch; call = r.call; invoked = r.invoked; replied = r.replied; reply = r.reply }

-- The verdict on the last text of a schedule, in its trust domain, is yes, with as many calls as there are records, if each of
-- these fits into a line.
abbrev pub RecordsAreAudited : Type 0
RecordsAreAudited = (domain : List ℕ) (last : Scheduled) (order : List ℕ) (recorded : List Recorded) (end : List ℕ) → WritesRecords domain last order recorded end → AllByRecursion (λ r. FitsInLine (text_of_call (call_of r))) recorded
    → verdict_of_lines domain (lines_of end) ≡ Yes (length recorded)
