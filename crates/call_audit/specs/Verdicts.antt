-- The verdict of an audit of lines.
use Rattle.std.specs.Prelude.{◌≡◌, ℕ, ◌+◌, ⊤, List, [], ◌∷◌, ◌++◌, length, Result, Ok, Err}
use Rattle.line_reading.specs.Records.{AuditRecord, spelled_record}
use Rattle.call_audit.specs.declared.cause.Cause.{Cause}
use Rattle.call_audit.specs.declared.verdict.AuditVerdict.{AuditVerdict}
use Rattle.call_audit.specs.declared.verdict.AuditVerdict.TheVariants.{Yes, No}
use Rattle.call_audit.specs.Audits.{judged}
use Rattle.call_audit.specs.Follows.{AreHistory}

-- No for the line after n records if it has a cause; otherwise the audit goes on with its record
abbrev pub verdict_by : Result AuditRecord Cause → ℕ → (AuditRecord → AuditVerdict) → AuditVerdict
verdict_by (Err cause) n go_on = No (n + 1) cause
verdict_by (Ok r) n go_on = go_on r

-- in a trust domain, after these records: yes if no line has a fault, and otherwise no for the first that has one, counted from 1
abbrev pub verdict_from : List ℕ → List AuditRecord → List (List ℕ) → AuditVerdict
verdict_from domain before [] = Yes (length before)
verdict_from domain before (line ∷ lines) = verdict_by (judged domain before line) (length before) (λ r. verdict_from domain (before ++ r ∷ []) lines)

-- of all lines
abbrev pub verdict_of_lines : List ℕ → List (List ℕ) → AuditVerdict
verdict_of_lines domain lines = verdict_from domain [] lines

-- ---- the theorems

-- each line parses to its record
abbrev pub Spell : List ℕ → List (List ℕ) → List AuditRecord → Type 0
Spell domain [] [] = ⊤
Spell domain [] (r ∷ rs) = ⊥
Spell domain (line ∷ lines) [] = ⊥
Spell domain (line ∷ lines) (r ∷ rs) = (spelled_record domain line ≡ Ok r) × Spell domain lines rs

-- What a yes says: each line parses to a record, there are `calls` of them, and they are a history.
pub record IsYes (domain : List ℕ) (lines : List (List ℕ)) (calls : ℕ) : Type 0 where
  pub records : List AuditRecord
  pub spelled : Spell domain lines records
  pub count : calls ≡ length records
  pub history : AreHistory records

abbrev pub YesIsHistory : Type 0
YesIsHistory = (domain : List ℕ) (lines : List (List ℕ)) (calls : ℕ) → verdict_of_lines domain lines ≡ Yes calls → IsYes domain lines calls

-- What a no says: the lines before this one parse to records that are a history, and after these the line has this cause, the
-- first that applies.
pub record IsNo (domain : List ℕ) (lines : List (List ℕ)) (n : ℕ) (cause : Cause) : Type 0 where
  pub front : List (List ℕ)
  pub line : List ℕ
  pub rest : List (List ℕ)
  pub split : lines ≡ front ++ line ∷ rest
  pub number : n ≡ length front + 1
  pub records : List AuditRecord
  pub spelled : Spell domain front records
  pub history : AreHistory records
  pub fault : judged domain records line ≡ Err cause

abbrev pub NoIsFirst : Type 0
NoIsFirst = (domain : List ℕ) (lines : List (List ℕ)) (n : ℕ) (cause : Cause) → verdict_of_lines domain lines ≡ No n cause → IsNo domain lines n cause

-- The verdict of lines that parse to the records of a history is yes.
abbrev pub HistoryIsYes : Type 0
HistoryIsYes = (domain : List ℕ) (lines : List (List ℕ)) (records : List AuditRecord) → Spell domain lines records → AreHistory records → verdict_of_lines domain lines ≡ Yes (length records)
