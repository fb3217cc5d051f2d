-- What a no says.
use Rattle.std.proofs.Common.{◌≡◌, ℕ, ◌+◌, suc, List, [], ◌∷◌, ◌++◌, length, Result, Ok, Err, refl, sym, ap, ◌∙◌, append_assoc}
use Rattle.line_reading.specs.Records.{AuditRecord}
use Rattle.call_audit.specs.declared.cause.Cause.{Cause}
use Rattle.call_audit.specs.declared.verdict.AuditVerdict.TheVariants.{No}
use Rattle.call_audit.specs.Audits.{AreFaultlessRecords, judged}
use Rattle.call_audit.specs.Verdicts.{NoIsFirst, Spell, verdict_by, verdict_from}
use Rattle.call_audit.proofs.Histories.{faultless_are_history}
use Rattle.call_audit.proofs.Yes.{append_none, clean}

-- the first line with a fault, after the records before and those of the lines before it
record Stopped (domain : List ℕ) (before : List AuditRecord) (lines : List (List ℕ)) (n : ℕ) (cause : Cause) : Type 0 where
  front : List (List ℕ)
  line : List ℕ
  rest : List (List ℕ)
  split : lines ≡ front ++ line ∷ rest
  records : List AuditRecord
  spelled : Spell domain front records
  faultless : AreFaultlessRecords before records
  number : n ≡ length (before ++ records) + 1
  fault : judged domain (before ++ records) line ≡ Err cause

number_of : (m n : ℕ) (c d : Cause) → No m c ≡ No n d → n ≡ m
number_of m n c d e = cc

cause_is : (m n : ℕ) (c d : Cause) → No m c ≡ No n d → c ≡ d
cause_is m n c d e = cc

stopped_by : (domain : List ℕ) (before : List AuditRecord) (line : List ℕ) (lines : List (List ℕ)) (n : ℕ) (cause : Cause) (j : Result AuditRecord Cause) → judged domain before line ≡ j → ((r : AuditRecord) → verdict_from domain (before ++ r ∷ []) lines ≡ No n cause → Stopped domain (before ++ r ∷ []) lines n cause) → verdict_by j (length before) (λ r. verdict_from domain (before ++ r ∷ []) lines) ≡ No n cause → Stopped domain before (line ∷ lines) n cause
stopped_by domain before line lines n cause (Err c) is go e = record {
  front = [];
  line = line;
  rest = lines;
  split = refl;
  records = [];
  spelled = tt;
  faultless = tt;
  number = number_of _ _ _ _ e ∙ ap (λ l. length l + 1) (sym (append_none before));
  fault = ap (λ b. judged domain b line) (append_none before) ∙ (is ∙ ap Err (cause_is _ _ _ _ e));
}
stopped_by domain before line lines n cause (Ok r) is go e =
    let c = clean domain before line r is in
    let t = go r e in
    let same : (before ++ r ∷ []) ++ t.records ≡ before ++ r ∷ t.records = append_assoc before (r ∷ []) t.records in
    record {
      front = line ∷ t.front;
      line = t.line;
      rest = t.rest;
      split = ap (λ l. line ∷ l) t.split;
      records = r ∷ t.records;
      spelled = (c.spells, t.spelled);
      faultless = (c.faultless, t.faultless);
      number = t.number ∙ ap (λ l. length l + 1) same;
      fault = ap (λ b. judged domain b t.line) (sym same) ∙ t.fault;
    }

stopped : (domain : List ℕ) (before : List AuditRecord) (lines : List (List ℕ)) (n : ℕ) (cause : Cause) → verdict_from domain before lines ≡ No n cause → Stopped domain before lines n cause
stopped domain before [] n cause e = absurd (cc)
stopped domain before (line ∷ lines) n cause e = stopped_by domain before line lines n cause (judged domain before line) refl (λ r h. stopped domain (before ++ r ∷ []) lines n cause h) e

-- each line parses to one record
spell_count : (domain : List ℕ) (lines : List (List ℕ)) (records : List AuditRecord) → Spell domain lines records → length records ≡ length lines
spell_count domain [] [] s = refl
spell_count domain [] (r ∷ rs) s = absurd s
spell_count domain (line ∷ lines) [] s = absurd s
spell_count domain (line ∷ lines) (r ∷ rs) s = ap suc (spell_count domain lines rs s.1)

pub no_is_first : NoIsFirst
no_is_first domain lines n cause e =
    let t = stopped domain [] lines n cause e in
    record {
      front = t.front;
      line = t.line;
      rest = t.rest;
      split = t.split;
      number = t.number ∙ ap (λ n. n + 1) (spell_count domain t.front t.records t.spelled);
      records = t.records;
      spelled = t.spelled;
      history = faultless_are_history t.records t.faultless;
      fault = t.fault;
    }
