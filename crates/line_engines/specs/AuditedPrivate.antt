-- The state that the engine `audit` stores, and the audit of one line in terms of it. For this crate's own contracts.
use Rattle.std.specs.Prelude.{◌≡◌, ℕ, ◌+◌, ⊤, List, [], ◌∷◌, ◌++◌, length, Option, None, Some, Ok, Err, refl}
use Rattle.line_reading.specs.Records.{AuditRecord}
use Rattle.call_audit.specs.Audits.{judged}
use Rattle.call_audit.specs.Represents.{AuditState, RepresentsRecords}
use Rattle.line_engines.specs.declared.audit_engine.Over.{Over}
use Rattle.line_engines.specs.declared.audit_engine.Over.TheVariants.{Denied, NoMemory}
use Rattle.line_engines.specs.declared.run_end.RunEnd.{RunEnd}
use Rattle.line_engines.specs.declared.run_end.RunEnd.TheVariants as outcome
use Rattle.line_engines.specs.Audited.{Audited, AnswersRecord, lacks_memory_now, past}

-- Each line has a result in every state: at least that for out of memory.
an_audit_by : (domain : List ℕ) (now : Audited) (line : List ℕ) (over : Option Over) → now.over ≡ over → (next : Audited) × (reply : List ℕ) × AnswersRecord domain now line next reply
an_audit_by domain now line None e = (record { records = now.records; over = Some NoMemory }, [], lacks_memory_now e refl refl)
an_audit_by domain now line (Some over) e = (now, [], past over e refl refl)

pub an_audit : (domain : List ℕ) (now : Audited) (line : List ℕ) → (next : Audited) × (reply : List ℕ) × AnswersRecord domain now line next reply
an_audit domain now line = an_audit_by domain now line now.over refl

abbrev pub run_end_of : Option Over → RunEnd
run_end_of None = outcome.Done
run_end_of (Some (Denied line cause)) = outcome.Denied
run_end_of (Some NoMemory) = outcome.Done

-- the state that the engine `audit` stores
pub record AuditKept : Type 0 where
  pub auditor : AuditState
  pub over : Option Over

-- The auditor represents the records, unless the run is over. So far, each of this number of lines was a record.
pub record AuditRepresents (kept : AuditKept) (lines : ℕ) (now : Audited) : Type 0 where
  pub over : now.over ≡ kept.over
  pub preserves : kept.over ≡ None → RepresentsRecords kept.auditor now.records
  pub counted : kept.over ≡ None → length now.records ≡ lines

-- the result of auditing one line after these records; if memory runs out, nothing is said
abbrev pub AuditsLine : List ℕ → List AuditRecord → List ℕ → AuditState → Option Over → Type 0
AuditsLine domain records line auditor None = (r : AuditRecord) × (judged domain records line ≡ Ok r) × RepresentsRecords auditor (records ++ r ∷ [])
AuditsLine domain records line auditor (Some (Denied number cause)) = (number ≡ length records + 1) × (judged domain records line ≡ Err cause)
AuditsLine domain records line auditor (Some NoMemory) = ⊤
