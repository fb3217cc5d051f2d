-- Which cause is the first that applies to a record.
use Rattle.std.proofs.Common.{◌≡◌, ℕ, Bool, true, false, List, Option, None, Some, Result, Ok, Err, IfOk, refl, sym, ap, ◌∙◌}
use Rattle.std.specs.Prelude.{not, if◌then◌else◌}
use Rattle.std.specs.declared.alloc.AllocError.{AllocError}
use Rattle.line_reading.specs.Records.{AuditRecord, spelled_record}
use Rattle.spiffe_name.specs.declared.refusals.Failure.{Failure}
use Rattle.spiffe_name.specs.declared.refusals.Failure.TheVariants.{NoMemory, Refused}
use Rattle.line_reading.specs.Fields.{Fails}
use Rattle.line_reading.specs.declared.fault.Fault.{Fault}
use Rattle.call_audit.specs.declared.cause.Cause.{Cause}
use Rattle.call_audit.specs.declared.cause.Cause.TheVariants.{Call, Order, Reply, Stamps}
use Rattle.call_audit.specs.Audits.{Judges, cause_of, has_call, is_reply_right, is_late, is_stamped, judged, judged_spelled, judged_when}
use Rattle.call_audit.specs.AuditsPrivate.{IsSpellingCause, JudgesRecord}

abbrev pub first_of : Bool → Bool → Bool → Bool → Option Cause
first_of a b c d = if a then Some Call else (if not b then Some Stamps else (if c then Some Order else (if not d then Some Reply else None)))

pub is_first : (before : List AuditRecord) (r : AuditRecord) → cause_of before r ≡ first_of (has_call r.call before) (is_stamped r) (is_late r before) (is_reply_right r before)
unfolding cause_of
is_first before r = refl

pub cause_call : (before : List AuditRecord) (r : AuditRecord) → has_call r.call before ≡ true → cause_of before r ≡ Some Call
cause_call before r a = is_first before r ∙ ap (λ x. first_of x (is_stamped r) (is_late r before) (is_reply_right r before)) a

pub cause_stamps : (before : List AuditRecord) (r : AuditRecord) → has_call r.call before ≡ false → is_stamped r ≡ false → cause_of before r ≡ Some Stamps
cause_stamps before r a b =
    is_first before r
    ∙ (ap (λ x. first_of x (is_stamped r) (is_late r before) (is_reply_right r before)) a
    ∙ ap (λ x. first_of false x (is_late r before) (is_reply_right r before)) b)

pub cause_order : (before : List AuditRecord) (r : AuditRecord) → has_call r.call before ≡ false → is_stamped r ≡ true → is_late r before ≡ true → cause_of before r ≡ Some Order
cause_order before r a b c =
    is_first before r
    ∙ (ap (λ x. first_of x (is_stamped r) (is_late r before) (is_reply_right r before)) a
    ∙ (ap (λ x. first_of false x (is_late r before) (is_reply_right r before)) b
    ∙ ap (λ x. first_of false true x (is_reply_right r before)) c))

pub cause_reply : (before : List AuditRecord) (r : AuditRecord) → has_call r.call before ≡ false → is_stamped r ≡ true → is_late r before ≡ false → is_reply_right r before ≡ false → cause_of before r ≡ Some Reply
cause_reply before r a b c d =
    is_first before r
    ∙ (ap (λ x. first_of x (is_stamped r) (is_late r before) (is_reply_right r before)) a
    ∙ (ap (λ x. first_of false x (is_late r before) (is_reply_right r before)) b
    ∙ (ap (λ x. first_of false true x (is_reply_right r before)) c
    ∙ ap (λ x. first_of false true false x) d)))

pub cause_none : (before : List AuditRecord) (r : AuditRecord) → has_call r.call before ≡ false → is_stamped r ≡ true → is_late r before ≡ false → is_reply_right r before ≡ true → cause_of before r ≡ None
cause_none before r a b c d =
    is_first before r
    ∙ (ap (λ x. first_of x (is_stamped r) (is_late r before) (is_reply_right r before)) a
    ∙ (ap (λ x. first_of false x (is_late r before) (is_reply_right r before)) b
    ∙ (ap (λ x. first_of false true x (is_reply_right r before)) c
    ∙ ap (λ x. first_of false true false x) d)))

-- ---- a line

-- the result for a line that parses to a record is that for the record
pub judges_of : (domain : List ℕ) (before : List AuditRecord) (line : List ℕ) (r : AuditRecord) (K : List AuditRecord → Type 0) (result : Result (Option Cause) AllocError) → spelled_record domain line ≡ Ok r → IfOk result (JudgesRecord before r K) → IfOk result (Judges domain before line K)
unfolding judged
judges_of domain before line r K (Err e) is h = tt
judges_of domain before line r K (Ok None) is h = (r, ap (judged_spelled before) is ∙ ap (judged_when before r) h.0, h.1)
judges_of domain before line r K (Ok (Some cause)) is h = ap (judged_spelled before) is ∙ ap (judged_when before r) h

-- the cause of a line that isn't a record is its fault's code
pub judges_failure : (domain : List ℕ) (before : List AuditRecord) (line : List ℕ) (failure : Failure Fault) (cause : Cause) → Fails failure (spelled_record domain line) → IsSpellingCause failure cause → judged domain before line ≡ Err cause
unfolding judged
judges_failure domain before line NoMemory cause is c = absurd c
judges_failure domain before line (Refused fault) cause is c = ap (judged_spelled before) is ∙ ap Err (sym c)
