-- The lines that report how an audit ended: compact JSON text, with keys in ascending order of their bytes.
use Rattle.std.specs.Prelude.{◌≡◌, ℕ, false, List, ◌++◌, codes, decimal}
use Rattle.line_reading.specs.Codes.{code_text}
use Rattle.reg_lines.specs.Json.{text_json}
use Rattle.line_devices.specs.Lines.{has_lf}
use Rattle.call_audit.specs.declared.cause.Cause.{Cause}
use Rattle.call_audit.specs.declared.cause.Cause.TheVariants as cause
use Rattle.call_audit.specs.declared.verdict.AuditVerdict.{AuditVerdict}
use Rattle.call_audit.specs.declared.verdict.AuditVerdict.TheVariants.{Yes, No}

abbrev pub cause_text : Cause → List ℕ
cause_text (cause.Spelling code) = code_text code
cause_text cause.Call = codes "call"
cause_text cause.Stamps = codes "stamps"
cause_text cause.Order = codes "order"
cause_text cause.Reply = codes "reply"

unfoldable pub yes_json : ℕ → List ℕ
yes_json calls = codes "{\"audit\":\"yes\",\"calls\":" ++ decimal calls ++ codes "}"

unfoldable pub no_json : ℕ → Cause → List ℕ
no_json line cause = codes "{\"audit\":\"no\",\"line\":" ++ decimal line ++ codes ",\"why\":" ++ text_json (cause_text cause) ++ codes "}"

abbrev pub verdict_json : AuditVerdict → List ℕ
verdict_json (Yes calls) = yes_json calls
verdict_json (No line cause) = no_json line cause

-- ---- the theorem: the line contains no line feed

abbrev pub VerdictsHaveNoLf : Type 0
VerdictsHaveNoLf = (verdict : AuditVerdict) → has_lf (verdict_json verdict) ≡ false
