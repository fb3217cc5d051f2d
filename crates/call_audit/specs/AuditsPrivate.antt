-- What an auditor's parts return for one line. For this crate's own contracts.
use Rattle.std.specs.Prelude.{◌≡◌, List, [], ◌∷◌, ◌++◌, Option, None, Some}
use Rattle.spiffe_name.specs.declared.refusals.Failure.{Failure}
use Rattle.spiffe_name.specs.declared.refusals.Failure.TheVariants.{NoMemory, Refused}
use Rattle.line_reading.specs.Records.{AuditRecord}
use Rattle.line_reading.specs.declared.fault.Fault.{Fault}
use Rattle.call_audit.specs.declared.cause.Cause.{Cause}
use Rattle.call_audit.specs.declared.cause.Cause.TheVariants.{Spelling}
use Rattle.call_audit.specs.Audits.{cause_of}

-- the cause of a line with this fault
abbrev pub IsSpellingCause : Failure Fault → Cause → Type 0
IsSpellingCause NoMemory cause = ⊥
IsSpellingCause (Refused fault) cause = cause ≡ Spelling fault.code

-- If the auditor accepts the record, its new state is that after this record too.
abbrev pub JudgesRecord : List AuditRecord → AuditRecord → (List AuditRecord → Type 0) → Option Cause → Type 0
JudgesRecord before r Keeps None = (cause_of before r ≡ None) × Keeps (before ++ r ∷ [])
JudgesRecord before r Keeps (Some cause) = cause_of before r ≡ Some cause
