-- What a yes says.
use Rattle.std.proofs.Common.{◌≡◌, ℕ, List, [], ◌∷◌, ◌++◌, length, Option, None, Some, Result, Ok, Err, refl, sym, ap, ◌∙◌, append_assoc}
use Rattle.line_reading.specs.Records.{AuditRecord, spelled_record}
use Rattle.line_reading.specs.declared.fault.Fault.{Fault}
use Rattle.call_audit.specs.declared.cause.Cause.{Cause}
use Rattle.call_audit.specs.declared.verdict.AuditVerdict.TheVariants.{Yes}
use Rattle.call_audit.specs.Audits.{AreFaultlessRecords, cause_of, judged, judged_spelled, judged_when}
use Rattle.call_audit.specs.Verdicts.{Spell, YesIsHistory, verdict_by, verdict_from}
use Rattle.call_audit.proofs.Histories.{faultless_are_history}

-- a line without a fault parses to its record
pub record Clean (domain : List ℕ) (before : List AuditRecord) (line : List ℕ) (r : AuditRecord) : Type 0 where
  pub spells : spelled_record domain line ≡ Ok r
  pub faultless : cause_of before r ≡ None

when_none : (before : List AuditRecord) (x r : AuditRecord) (cause : Option Cause) → judged_when before x cause ≡ Ok r → (cause ≡ None) × (x ≡ r)
when_none before x r None e = (refl, (let q : x ≡ r = cc in q))
when_none before x r (Some cause) e = absurd (cc)

clean_by : (domain : List ℕ) (before : List AuditRecord) (line : List ℕ) (r : AuditRecord) (s : Result AuditRecord Fault) → spelled_record domain line ≡ s → judged_spelled before s ≡ Ok r → Clean domain before line r
clean_by domain before line r (Err fault) is e = absurd (cc)
clean_by domain before line r (Ok x) is e =
    let w = when_none before x r (cause_of before x) e in
    record { spells = is ∙ ap Ok w.1; faultless = ap (λ y. cause_of before y) (sym w.1) ∙ w.0 }

pub clean : (domain : List ℕ) (before : List AuditRecord) (line : List ℕ) (r : AuditRecord) → judged domain before line ≡ Ok r → Clean domain before line r
unfolding judged
clean domain before line r e = clean_by domain before line r (spelled_record domain line) refl e

-- the records of the lines, after those before
record Taken (domain : List ℕ) (before : List AuditRecord) (lines : List (List ℕ)) (calls : ℕ) : Type 0 where
  records : List AuditRecord
  spelled : Spell domain lines records
  faultless : AreFaultlessRecords before records
  count : calls ≡ length (before ++ records)

count_of : (n calls : ℕ) → Yes n ≡ Yes calls → calls ≡ n
count_of n calls e = cc

pub append_none : (before : List AuditRecord) → before ++ [] ≡ before
append_none [] = refl
append_none (x ∷ xs) = ap (λ l. x ∷ l) (append_none xs)

taken_by : (domain : List ℕ) (before : List AuditRecord) (line : List ℕ) (lines : List (List ℕ)) (calls : ℕ) (j : Result AuditRecord Cause) → judged domain before line ≡ j → ((r : AuditRecord) → verdict_from domain (before ++ r ∷ []) lines ≡ Yes calls → Taken domain (before ++ r ∷ []) lines calls) → verdict_by j (length before) (λ r. verdict_from domain (before ++ r ∷ []) lines) ≡ Yes calls → Taken domain before (line ∷ lines) calls
taken_by domain before line lines calls (Err cause) is go e = absurd (cc)
taken_by domain before line lines calls (Ok r) is go e =
    let c = clean domain before line r is in
    let t = go r e in
    record {
      records = r ∷ t.records;
      spelled = (c.spells, t.spelled);
      faultless = (c.faultless, t.faultless);
      count = t.count ∙ ap length (append_assoc before (r ∷ []) t.records);
    }

taken : (domain : List ℕ) (before : List AuditRecord) (lines : List (List ℕ)) (calls : ℕ) → verdict_from domain before lines ≡ Yes calls → Taken domain before lines calls
taken domain before [] calls e = record { records = []; spelled = tt; faultless = tt; count = count_of (length before) calls e ∙ ap length (sym (append_none before)) }
taken domain before (line ∷ lines) calls e = taken_by domain before line lines calls (judged domain before line) refl (λ r h. taken domain (before ++ r ∷ []) lines calls h) e

pub yes_is_history : YesIsHistory
yes_is_history domain lines calls e =
    let t = taken domain [] lines calls e in
    record { records = t.records; spelled = t.spelled; count = t.count; history = faultless_are_history t.records t.faultless }
