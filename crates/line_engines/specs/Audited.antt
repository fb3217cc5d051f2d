-- What the engine `audit` stores from line to line, and what it reports at the end.
use Rattle.std.specs.Prelude.{◌≡◌, ℕ, ◌+◌, Bool, ⊤, List, [], ◌∷◌, ◌++◌, length, Option, None, Some, is_some, Result, Ok, Err, IfErr, IfOk, IfSome}
use Rattle.std.specs.Io.KnownBytes.{Appends}
use Rattle.line_devices.specs.Lines.{most_lines}
use Rattle.line_reading.specs.Records.{AuditRecord}
use Rattle.line_devices.specs.Runs.{TakesLines, first_lines}
use Rattle.line_devices.specs.Stream.{InputState, OutputState}
use Rattle.call_audit.specs.declared.cause.Cause.{Cause}
use Rattle.call_audit.specs.declared.verdict.AuditVerdict.{AuditVerdict}
use Rattle.call_audit.specs.declared.verdict.AuditVerdict.TheVariants.{Yes, No}
use Rattle.call_audit.specs.Audits.{judged}
use Rattle.call_audit.specs.Texts.{verdict_json}
use Rattle.call_audit.specs.Verdicts.{verdict_of_lines}
use Rattle.line_engines.specs.Answers.{as_line}
use Rattle.line_engines.specs.Driver.{LeavesLines, RunsOver, StepsUntilEnd}
use Rattle.line_engines.specs.declared.audit_engine.Over.{Over}
use Rattle.line_engines.specs.declared.audit_engine.Over.TheVariants.{Denied, NoMemory}
use Rattle.line_engines.specs.declared.fault.RunFault.{RunFault}
use Rattle.line_engines.specs.declared.fault.RunFault.TheVariants as fault
use Rattle.line_engines.specs.declared.run_end.RunEnd.{RunEnd}
use Rattle.line_engines.specs.declared.run_end.RunEnd.TheVariants as outcome

-- The state of a run: the records that were accepted, and why it accepts no more, if so.
pub record Audited : Type 0 where
  pub records : List AuditRecord
  pub over : Option Over

abbrev pub audit_start : Audited
audit_start = record { records = []; over = None }

abbrev pub is_audit_over : Audited → Bool
is_audit_over now = is_some now.over

-- A record is accepted, or it has a fault, or memory runs out for it; no line gets a reply of its own. After the audit is over,
-- nothing changes.
pub data AnswersRecord (domain : List ℕ) (now : Audited) (line : List ℕ) (next : Audited) (reply : List ℕ) : Type 0 where
  taken : now.over ≡ None → (r : AuditRecord) → judged domain now.records line ≡ Ok r → next ≡ record { records = now.records ++ r ∷ []; over = None } → reply ≡ [] → AnswersRecord domain now line next reply
  denied : now.over ≡ None → (cause : Cause) → judged domain now.records line ≡ Err cause → next ≡ record { records = now.records; over = Some (Denied (length now.records + 1) cause) } → reply ≡ [] → AnswersRecord domain now line next reply
  lacks_memory_now : now.over ≡ None → next ≡ record { records = now.records; over = Some NoMemory } → reply ≡ [] → AnswersRecord domain now line next reply
  past : (over : Over) → now.over ≡ Some over → next ≡ now → reply ≡ [] → AnswersRecord domain now line next reply

-- ---- the end

abbrev pub audit_verdict_over : Option Over → ℕ → Option AuditVerdict
audit_verdict_over None calls = Some (Yes calls)
audit_verdict_over (Some (Denied line cause)) calls = Some (No line cause)
audit_verdict_over (Some NoMemory) calls = None

-- the verdict after a run; none if memory ran out
abbrev pub audit_verdict_in : Audited → Option AuditVerdict
audit_verdict_in last = audit_verdict_over last.over (length last.records)

-- the last text is the line of the verdict; there is none if memory ran out
abbrev pub ClosesWithVerdict : Audited → List ℕ → Type 0
ClosesWithVerdict last end = (verdict : AuditVerdict) × (audit_verdict_in last ≡ Some verdict) × (end ≡ as_line (verdict_json verdict))

-- the outcome of a run with this verdict
abbrev pub run_end_by : AuditVerdict → RunEnd
run_end_by (Yes calls) = outcome.Done
run_end_by (No line cause) = outcome.Denied

-- known bytes grow by the verdict's line, and the outcome is the verdict's
abbrev pub WritesVerdict : AuditVerdict → RunEnd → Option (List ℕ) → Option (List ℕ) → Type 0
WritesVerdict verdict reported old new = Appends old new (as_line (verdict_json verdict)) × (reported ≡ run_end_by verdict)

-- after a no, the lines that follow the reported one are left in the input
abbrev pub LeavesBehind : AuditVerdict → List ℕ → Option (List ℕ) → Type 0
LeavesBehind (Yes calls) bytes left = ⊤
LeavesBehind (No line cause) bytes left = LeavesLines line bytes left

-- some number of lines were read, and none of them has a fault
abbrev pub HasNoFault : List ℕ → List ℕ → Option (List ℕ) → Type 0
HasNoFault domain bytes left = (count : ℕ) × TakesLines count bytes left × (verdict_of_lines domain (first_lines count bytes) ≡ Yes count)

-- The result of a run of the engine over an input and an output: it is a run of lines, and if it succeeded, the verdict on the
-- lines was written. No line after the first fault was read, even if a read failed.
pub record RunsAudit (domain : List ℕ) (input rest : InputState) (output out : OutputState) (result : Result RunEnd RunFault) : Type 0 where
  pub run : RunsOver (StepsUntilEnd is_audit_over (AnswersRecord domain)) ClosesWithVerdict ⊤ audit_start input rest output out result
  pub reported : IfOk result (λ outcome. IfSome input.left (λ bytes. WritesVerdict (verdict_of_lines domain (first_lines most_lines bytes)) outcome output.written out.written))
  pub left : IfOk result (λ outcome. IfSome input.left (λ bytes. LeavesBehind (verdict_of_lines domain (first_lines most_lines bytes)) bytes rest.left))
  pub failed : IfErr result (λ e. e ≡ fault.Input → IfSome input.left (λ bytes. HasNoFault domain bytes rest.left))
