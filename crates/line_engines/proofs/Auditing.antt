-- The result of the engine `audit`, line by line.
use Rattle.std.proofs.Common.{◌≡◌, ◌+◌, ℕ, Bool, true, false, List, [], ◌∷◌, ◌++◌, length, Option, None, Some, refl, sym, ap, subst, ◌∙◌, length-append, arith}
use Rattle.std.specs.Prelude.{⊤, IfSome, MatchBool, Result, Ok, Err, is_none, is_some, not}
use Rattle.std.specs.Io.KnownBytes.{Appends}
use Rattle.line_devices.specs.Lines.{stored_part, most_lines, IsLine}
use Rattle.line_reading.specs.Records.{AuditRecord}
use Rattle.line_devices.specs.Runs.{IsRun, first_lines}
use Rattle.line_devices.specs.Stream.{InputState, OutputState}
use Rattle.line_reading.proofs.Kept.{kept_spells_record}
use Rattle.line_devices.proofs.Puts.{Puts-nil}
use Rattle.call_audit.specs.declared.cause.Cause.{Cause}
use Rattle.call_audit.specs.declared.verdict.AuditVerdict.{AuditVerdict}
use Rattle.call_audit.specs.declared.verdict.AuditVerdict.TheVariants.{Yes, No}
use Rattle.call_audit.specs.Audits.{judged, judged_spelled}
use Rattle.call_audit.specs.Texts.{verdict_json}
use Rattle.call_audit.specs.Verdicts.{verdict_by, verdict_of_lines, verdict_from}
use Rattle.line_engines.specs.Answers.{as_line}
use Rattle.line_engines.specs.Audited.{AnswersRecord, Audited, ClosesWithVerdict, HasNoFault, LeavesBehind, RunsAudit, WritesVerdict, denied, is_audit_over, run_end_by, past, audit_start, taken, audit_verdict_in, audit_verdict_over, lacks_memory_now}
use Rattle.line_engines.specs.AuditedPrivate.{AuditKept, AuditsLine, AuditRepresents, run_end_of}
use Rattle.line_engines.specs.Driver.{AfterSomeLines, AnswersKept, AppendsClosed, ClosesAs, AnswersBeforeEnd, LeavesLines, RunsOver, StepsUntilEnd, TakesSoFar, TakesUntilEnd}
use Rattle.line_engines.specs.declared.audit_engine.Over.{Over}
use Rattle.line_engines.specs.declared.audit_engine.Over.TheVariants.{Denied, NoMemory}
use Rattle.line_engines.specs.declared.fault.RunFault.{RunFault}
use Rattle.line_engines.specs.declared.fault.RunFault.TheVariants as fault
use Rattle.line_engines.specs.declared.run_end.RunEnd.{RunEnd}
use Rattle.line_engines.proofs.Driving.{memory_input}

-- ---- one line

none_some : {A : Type 0} {x : A} → None ≡ Some x → ⊥
none_some e = absurd (cc)

true_false : true ≡ false → ⊥
true_false e = absurd (cc)

of_some : (a b : AuditVerdict) → Some a ≡ Some b → a ≡ b
of_some a b e = cc

kept_judged : (domain : List ℕ) (before : List AuditRecord) (line : List ℕ) → IsLine line → judged domain before (stored_part line) ≡ judged domain before line
unfolding judged
kept_judged domain before line is = ap (judged_spelled before) (kept_spells_record domain line is)

of_kept : (domain : List ℕ) (now : Audited) (line : List ℕ) (next : Audited) (reply : List ℕ) → IsLine line → AnswersRecord domain now (stored_part line) next reply → AnswersRecord domain now line next reply
of_kept domain now line next reply is (taken e r j n p) = taken e r (sym (kept_judged domain now.records line is) ∙ j) n p
of_kept domain now line next reply is (denied e cause j n p) = denied e cause (sym (kept_judged domain now.records line is) ∙ j) n p
of_kept domain now line next reply is (lacks_memory_now e n p) = lacks_memory_now e n p
of_kept domain now line next reply is (past over e n p) = past over e n p

answers_kept : (domain : List ℕ) (now : Audited) (bytes : List ℕ) (next : Audited) (reply : List ℕ) → AnswersRecord domain now bytes next reply → (line : List ℕ) → IsLine line → bytes ≡ stored_part line → AnswersRecord domain now line next reply
answers_kept domain now bytes next reply a line is k = of_kept domain now line next reply is (subst (λ x. AnswersRecord domain now x next reply) k a)

audited_by : (domain : List ℕ) (after : AuditKept) (number : ℕ) (now : Audited) (bytes : List ℕ) (out : OutputState) (over : Option Over) → now.over ≡ None → number ≡ length now.records + 1 → after.over ≡ over → AuditsLine domain now.records bytes after.auditor over → AnswersKept (AnswersRecord domain) is_audit_over (AuditRepresents after number) now bytes out out (is_none over)
audited_by domain after number now bytes out None e n is a =
    let next : Audited = record { records = now.records ++ a.0 ∷ []; over = None } in
    (next, [], answers_kept domain now bytes next [] (taken e a.0 a.1 refl refl), Puts-nil out, record { over = sym is; preserves = λ h. a.2; counted = λ h. length-append now.records (a.0 ∷ []) ∙ sym n }, refl)
audited_by domain after number now bytes out (Some (Denied line cause)) e n is a =
    let next : Audited = record { records = now.records; over = Some (Denied (length now.records + 1) cause) } in
    let same : Some (Denied (length now.records + 1) cause) ≡ after.over = ap (λ n. Some (Denied n cause)) (sym a.0) ∙ sym is in
    (next, [], answers_kept domain now bytes next [] (denied e cause a.1 refl refl), Puts-nil out, record { over = same; preserves = λ h. absurd (none_some (sym h ∙ is)); counted = λ h. absurd (none_some (sym h ∙ is)) }, refl)
audited_by domain after number now bytes out (Some NoMemory) e n is a =
    let next : Audited = record { records = now.records; over = Some NoMemory } in
    (next, [], answers_kept domain now bytes next [] (lacks_memory_now e refl refl), Puts-nil out, record { over = sym is; preserves = λ h. absurd (none_some (sym h ∙ is)); counted = λ h. absurd (none_some (sym h ∙ is)) }, refl)

-- a line was audited
pub audited : (domain : List ℕ) (before after : AuditKept) (lines number : ℕ) (now : Audited) (bytes : List ℕ) (out : OutputState) → AuditRepresents before lines now → before.over ≡ None → number ≡ length now.records + 1 → AuditsLine domain now.records bytes after.auditor after.over → AnswersKept (AnswersRecord domain) is_audit_over (AuditRepresents after number) now bytes out out (is_none after.over)
audited domain before after lines number now bytes out s e n a = audited_by domain after number now bytes out after.over (s.over ∙ e) n refl a

-- a line after the end
left_out_by : (domain : List ℕ) (before after : AuditKept) (lines number : ℕ) (now : Audited) (bytes : List ℕ) (out : OutputState) (over : Option Over) → before.over ≡ over → is_some over ≡ true → AuditRepresents before lines now → after.over ≡ before.over → AnswersKept (AnswersRecord domain) is_audit_over (AuditRepresents after number) now bytes out out false
left_out_by domain before after lines number now bytes out None e b s f = absurd (true_false (sym b))
left_out_by domain before after lines number now bytes out (Some over) e b s f =
    (now, [], answers_kept domain now bytes now [] (past over (s.over ∙ e) refl refl), Puts-nil out, record { over = s.over ∙ sym f; preserves = λ h. absurd (none_some (sym h ∙ (f ∙ e))); counted = λ h. absurd (none_some (sym h ∙ (f ∙ e))) }, ap is_some (s.over ∙ e))

pub left_out : (domain : List ℕ) (before after : AuditKept) (lines number : ℕ) (now : Audited) (bytes : List ℕ) (out : OutputState) → is_some before.over ≡ true → AuditRepresents before lines now → after.over ≡ before.over → AnswersKept (AnswersRecord domain) is_audit_over (AuditRepresents after number) now bytes out out false
left_out domain before after lines number now bytes out b s f = left_out_by domain before after lines number now bytes out before.over refl b s f

not_not : (a : Bool) → not (not a) ≡ a
not_not true = refl
not_not false = refl

pub turned : (a b : Bool) → not a ≡ b → not b ≡ a
turned a b e = ap not (sym e) ∙ not_not a

pub none_of : (over : Option Over) → is_some over ≡ false → over ≡ None
none_of None b = refl
none_of (Some over) b = absurd (true_false b)

-- ---- all lines

past_step : (domain : List ℕ) (over : Option Over) (o : Over) (now next : Audited) (line reply : List ℕ) → over ≡ Some o → MatchBool (is_some over) ((next ≡ now) × (reply ≡ [])) (AnswersRecord domain now line next reply) → (next ≡ now) × (reply ≡ [])
past_step domain None o now next line reply e s = absurd (none_some e)
past_step domain (Some x) o now next line reply e s = s

now_step : (domain : List ℕ) (over : Option Over) (now next : Audited) (line reply : List ℕ) → over ≡ None → MatchBool (is_some over) ((next ≡ now) × (reply ≡ [])) (AnswersRecord domain now line next reply) → AnswersRecord domain now line next reply
now_step domain None now next line reply e s = s
now_step domain (Some x) now next line reply e s = absurd (none_some (sym e))

past_run : (domain : List ℕ) (over : Over) (lines : List (List ℕ)) (first last : Audited) (text : List ℕ) → first.over ≡ Some over → IsRun (StepsUntilEnd is_audit_over (AnswersRecord domain)) first lines last text → (last ≡ first) × (text ≡ [])
past_run domain over [] first last text e run = run
past_run domain over (line ∷ lines) first last text e run =
    let step = past_step domain first.over over first run.0 line run.1 e run.3 in
    let rest = past_run domain over lines run.0 last run.2 (ap (λ (s : Audited). s.over) step.0 ∙ e) run.5 in
    (rest.0 ∙ step.0, run.4 ∙ (ap (λ r. r ++ run.2) step.1 ∙ rest.1))

-- the text after the lines is the verdict on them
record Comes (domain : List ℕ) (before : List AuditRecord) (lines : List (List ℕ)) (text : List ℕ) (verdict : AuditVerdict) : Type 0 where
  none : text ≡ []
  is : verdict ≡ verdict_from domain before lines

yes_of : (over : Option Over) (n : ℕ) (v : AuditVerdict) → over ≡ None → audit_verdict_over over n ≡ Some v → v ≡ Yes n
yes_of over n v e h = (let q : Some v ≡ Some (Yes n) = sym h ∙ ap (λ o. audit_verdict_over o n) e in of_some v (Yes n) q)

no_of : (over : Option Over) (n line : ℕ) (cause : Cause) (v : AuditVerdict) → over ≡ Some (Denied line cause) → audit_verdict_over over n ≡ Some v → v ≡ No line cause
no_of over n line cause v e h = (let q : Some v ≡ Some (No line cause) = sym h ∙ ap (λ o. audit_verdict_over o n) e in of_some v (No line cause) q)

not_out_of_memory : (over : Option Over) (n : ℕ) (v : AuditVerdict) → over ≡ Some NoMemory → audit_verdict_over over n ≡ Some v → ⊥
not_out_of_memory over n v e h = none_some (sym (ap (λ o. audit_verdict_over o n) e) ∙ h)

comes_by : (domain : List ℕ) (line : List ℕ) (lines : List (List ℕ)) (first next last : Audited) (reply rest : List ℕ) (v : AuditVerdict) → AnswersRecord domain first line next reply → first.over ≡ None → (next.over ≡ None → Comes domain next.records lines rest v) → IsRun (StepsUntilEnd is_audit_over (AnswersRecord domain)) next lines last rest → audit_verdict_in last ≡ Some v → Comes domain first.records (line ∷ lines) (reply ++ rest) v
comes_by domain line lines first next last reply rest v (taken e r j n p) o go run h =
    let c = go (ap (λ (s : Audited). s.over) n) in
    record {
      none = ap (λ t. t ++ rest) p ∙ c.none;
      is = c.is ∙ (ap (λ (s : Audited). verdict_from domain s.records lines) n ∙ sym (ap (λ k. verdict_by k (length first.records) (λ x. verdict_from domain (first.records ++ x ∷ []) lines)) j));
    }
comes_by domain line lines first next last reply rest v (denied e cause j n p) o go run h =
    let over = ap (λ (s : Audited). s.over) n in
    let is_unchanged = past_run domain (Denied (length first.records + 1) cause) lines next last rest over run in
    record {
      none = ap (λ t. t ++ rest) p ∙ is_unchanged.1;
      is = no_of last.over (length last.records) (length first.records + 1) cause v (ap (λ (s : Audited). s.over) is_unchanged.0 ∙ over) h ∙ sym (ap (λ k. verdict_by k (length first.records) (λ x. verdict_from domain (first.records ++ x ∷ []) lines)) j);
    }
comes_by domain line lines first next last reply rest v (lacks_memory_now e n p) o go run h =
    let over = ap (λ (s : Audited). s.over) n in
    let is_unchanged = past_run domain NoMemory lines next last rest over run in
    absurd (not_out_of_memory last.over (length last.records) v (ap (λ (s : Audited). s.over) is_unchanged.0 ∙ over) h)
comes_by domain line lines first next last reply rest v (past over e n p) o go run h = absurd (none_some (sym o ∙ e))

comes : (domain : List ℕ) (lines : List (List ℕ)) (first last : Audited) (text : List ℕ) (v : AuditVerdict) → first.over ≡ None → IsRun (StepsUntilEnd is_audit_over (AnswersRecord domain)) first lines last text → audit_verdict_in last ≡ Some v → Comes domain first.records lines text v
comes domain [] first last text v e run h =
    let same = ap (λ (s : Audited). s.over) run.0 ∙ e in
    record { none = run.1; is = yes_of last.over (length last.records) v same h ∙ ap (λ (s : Audited). Yes (length s.records)) run.0 }
comes domain (line ∷ lines) first last text v e run h =
    let step = now_step domain first.over first run.0 line run.1 e run.3 in
    let c = comes_by domain line lines first run.0 last run.1 run.2 v step e (λ o. comes domain lines run.0 last run.2 v o run.5 h) run.5 h in
    record { none = run.4 ∙ c.none; is = c.is }

outcome_is : (over : Option Over) (n : ℕ) (v : AuditVerdict) → audit_verdict_over over n ≡ Some v → run_end_of over ≡ run_end_by v
outcome_is None n v e = ap run_end_by (of_some (Yes n) v e)
outcome_is (Some (Denied line cause)) n v e = ap run_end_by (of_some (No line cause) v e)
outcome_is (Some NoMemory) n v e = absurd (none_some e)

-- the end of an audit: the verdict on the lines is written, and the outcome is that of the verdict
writes_verdict : (domain : List ℕ) (stored_part : AuditKept) (lines : List (List ℕ)) (a b : Option (List ℕ)) (reported : RunEnd) → reported ≡ run_end_of stored_part.over → AppendsClosed (StepsUntilEnd is_audit_over (AnswersRecord domain)) (ClosesAs ClosesWithVerdict (AfterSomeLines (AuditRepresents stored_part))) audit_start lines a b → WritesVerdict (verdict_of_lines domain lines) reported a b
writes_verdict domain stored_part lines a b reported o w =
    let last = w.1.0 in
    let closed = w.1.4 in
    let v = closed.0.0 in
    let c = comes domain lines audit_start last w.1.1 v refl w.1.3 closed.0.1 in
    let text : w.0 ≡ as_line (verdict_json (verdict_of_lines domain lines)) = w.1.5 ∙ (ap (λ r. r ++ w.1.2) c.none ∙ (closed.0.2 ∙ ap (λ x. as_line (verdict_json x)) c.is)) in
    let mine : reported ≡ run_end_by (verdict_of_lines domain lines) = o ∙ (sym (ap run_end_of closed.1.1.over) ∙ (outcome_is last.over (length last.records) v closed.0.1 ∙ ap run_end_by c.is)) in
    (subst (λ t. Appends a b t) text w.2, mine)

pub writes_verdict_all : (domain : List ℕ) (stored_part : AuditKept) (left a b : Option (List ℕ)) (reported : RunEnd) → reported ≡ run_end_of stored_part.over → IfSome left (λ bytes. AppendsClosed (StepsUntilEnd is_audit_over (AnswersRecord domain)) (ClosesAs ClosesWithVerdict (AfterSomeLines (AuditRepresents stored_part))) audit_start (first_lines most_lines bytes) a b) → IfSome left (λ bytes. WritesVerdict (verdict_of_lines domain (first_lines most_lines bytes)) reported a b)
writes_verdict_all domain stored_part None a b reported o w = tt
writes_verdict_all domain stored_part (Some bytes) a b reported o w = writes_verdict domain stored_part (first_lines most_lines bytes) a b reported o w

-- ---- no line after the first fault is read

-- a run that has ended reads no more lines
stops : (domain : List ℕ) (over : Over) (lines : List (List ℕ)) (first last : Audited) (text : List ℕ) → first.over ≡ Some over → IsRun (AnswersBeforeEnd is_audit_over (AnswersRecord domain)) first lines last text → (lines ≡ []) × (last ≡ first)
stops domain over [] first last text e run = (refl, run.0)
stops domain over (line ∷ lines) first last text e run = absurd (true_false (ap is_some (sym e) ∙ run.3.0))

same_over : (a b : Over) → Some a ≡ Some b → a ≡ b
same_over a b e = cc

number_of : (m n : ℕ) (a b : Cause) → Denied n b ≡ Denied m a → m ≡ n
number_of m n a b e = cc

-- the result of a run, from its first state on: a fault at its last line, or none
record Ran (domain : List ℕ) (before : List AuditRecord) (lines : List (List ℕ)) (last : Audited) : Type 0 where
  number : (line : ℕ) (cause : Cause) → last.over ≡ Some (Denied line cause) → line ≡ length before + length lines
  yes : last.over ≡ None → verdict_from domain before lines ≡ Yes (length before + length lines)

ran_past : (domain : List ℕ) (line : List ℕ) (lines : List (List ℕ)) (first next last : Audited) (text : List ℕ) (over : Over) → next.over ≡ Some over → IsRun (AnswersBeforeEnd is_audit_over (AnswersRecord domain)) next lines last text → ((at : ℕ) (cause : Cause) → over ≡ Denied at cause → at ≡ length first.records + 1) → Ran domain first.records (line ∷ lines) last
ran_past domain line lines first next last text over e run number =
    let s = stops domain over lines next last text e run in
    let is : last.over ≡ Some over = ap (λ (s : Audited). s.over) s.1 ∙ e in
    record {
      number = λ at cause h. number at cause (same_over over (Denied at cause) (sym is ∙ h)) ∙ sym (ap (λ ls. length first.records + length (line ∷ ls)) s.0);
      yes = λ h. absurd (none_some (sym h ∙ is));
    }

ran_by : (domain : List ℕ) (line : List ℕ) (lines : List (List ℕ)) (first next last : Audited) (reply text : List ℕ) → AnswersRecord domain first line next reply → first.over ≡ None → (next.over ≡ None → Ran domain next.records lines last) → IsRun (AnswersBeforeEnd is_audit_over (AnswersRecord domain)) next lines last text → Ran domain first.records (line ∷ lines) last
ran_by domain line lines first next last reply text (taken e r j n p) o go run =
    let w = go (ap (λ (s : Audited). s.over) n) in
    let more : length next.records ≡ length first.records + 1 = ap (λ (s : Audited). length s.records) n ∙ length-append first.records (r ∷ []) in
    let one : length next.records + length lines ≡ length first.records + length (line ∷ lines) = omega arith in
    record {
      number = λ at cause h. w.number at cause h ∙ one;
      yes = λ h. ap (λ k. verdict_by k (length first.records) (λ x. verdict_from domain (first.records ++ x ∷ []) lines)) j ∙ (ap (λ (s : Audited). verdict_from domain s.records lines) (sym n) ∙ (w.yes h ∙ ap Yes one));
    }
ran_by domain line lines first next last reply text (denied e cause j n p) o go run =
    ran_past domain line lines first next last text (Denied (length first.records + 1) cause) (ap (λ (s : Audited). s.over) n) run (λ at other h. number_of at (length first.records + 1) other cause h)
ran_by domain line lines first next last reply text (lacks_memory_now e n p) o go run =
    ran_past domain line lines first next last text NoMemory (ap (λ (s : Audited). s.over) n) run (λ at cause h. absurd (cc))
ran_by domain line lines first next last reply text (past over e n p) o go run = absurd (none_some (sym o ∙ e))

ran : (domain : List ℕ) (lines : List (List ℕ)) (first last : Audited) (text : List ℕ) → first.over ≡ None → IsRun (AnswersBeforeEnd is_audit_over (AnswersRecord domain)) first lines last text → Ran domain first.records lines last
ran domain [] first last text e run =
    let same = ap (λ (s : Audited). s.over) run.0 ∙ e in
    let all : length first.records ≡ length first.records + 0 = omega arith in
    record { number = λ at cause h. absurd (none_some (sym same ∙ h)); yes = λ h. ap Yes all }
ran domain (line ∷ lines) first last text e run =
    ran_by domain line lines first run.0 last run.1 run.2 run.3.1 e (λ o. ran domain lines run.0 last run.2 o run.5) run.5

-- the verdict that was written is that of the stored state
reported_by : (domain : List ℕ) (stored_part : AuditKept) (lines : List (List ℕ)) (a b : Option (List ℕ)) → AppendsClosed (StepsUntilEnd is_audit_over (AnswersRecord domain)) (ClosesAs ClosesWithVerdict (AfterSomeLines (AuditRepresents stored_part))) audit_start lines a b → (last : Audited) × (stored_part.over ≡ last.over) × (audit_verdict_over stored_part.over (length last.records) ≡ Some (verdict_of_lines domain lines))
reported_by domain stored_part lines a b w =
    let last = w.1.0 in
    let closed = w.1.4 in
    let v = closed.0.0 in
    let c = comes domain lines audit_start last w.1.1 v refl w.1.3 closed.0.1 in
    (last, sym closed.1.1.over, ap (λ o. audit_verdict_over o (length last.records)) (sym closed.1.1.over) ∙ (closed.0.1 ∙ ap Some c.is))

left_by : (domain : List ℕ) (stored_part : AuditKept) (over : Option Over) (n : ℕ) (bytes : List ℕ) (left : Option (List ℕ)) (v : AuditVerdict) → stored_part.over ≡ over → audit_verdict_over over n ≡ Some v → TakesUntilEnd is_audit_over (AnswersRecord domain) (AfterSomeLines (AuditRepresents stored_part)) audit_start bytes left → LeavesBehind v bytes left
left_by domain stored_part None n bytes left v k h t = subst (λ x. LeavesBehind x bytes left) (of_some (Yes n) v h) tt
left_by domain stored_part (Some (Denied line cause)) n bytes left v k h t =
    let is : (t.last).over ≡ Some (Denied line cause) = (t.represented).1.over ∙ k in
    let at = (ran domain (first_lines t.count bytes) audit_start t.last t.text refl t.run).number line cause is in
    let counted = t.counted in
    let same : t.count ≡ line = omega arith in
    subst (λ x. LeavesBehind x bytes left) (of_some (No line cause) v h) (subst (λ x. LeavesLines x bytes left) same (t.ended (ap is_some is)))
left_by domain stored_part (Some NoMemory) n bytes left v k h t = absurd (none_some h)

pub left_behind : (domain : List ℕ) (stored_part : AuditKept) (all left a b : Option (List ℕ)) → IfSome all (λ bytes. AppendsClosed (StepsUntilEnd is_audit_over (AnswersRecord domain)) (ClosesAs ClosesWithVerdict (AfterSomeLines (AuditRepresents stored_part))) audit_start (first_lines most_lines bytes) a b) → IfSome all (λ bytes. TakesUntilEnd is_audit_over (AnswersRecord domain) (AfterSomeLines (AuditRepresents stored_part)) audit_start bytes left) → IfSome all (λ bytes. LeavesBehind (verdict_of_lines domain (first_lines most_lines bytes)) bytes left)
left_behind domain stored_part None left a b w t = tt
left_behind domain stored_part (Some bytes) left a b w t =
    let v = reported_by domain stored_part (first_lines most_lines bytes) a b w in
    left_by domain stored_part stored_part.over (length (v.0).records) bytes left (verdict_of_lines domain (first_lines most_lines bytes)) refl v.2 t

pub no_fault : (domain : List ℕ) (all left : Option (List ℕ)) → IfSome all (λ bytes. TakesSoFar is_audit_over (AnswersRecord domain) audit_start bytes left) → IfSome all (λ bytes. HasNoFault domain bytes left)
no_fault domain None left t = tt
no_fault domain (Some bytes) left t =
    let w = ran domain (first_lines t.count bytes) audit_start t.last t.text refl t.run in
    let counted = t.counted in
    let all : 0 + length (first_lines t.count bytes) ≡ t.count = omega arith in
    (t.count, t.taken, w.yes (none_of (t.last).over t.continues) ∙ ap Yes all)

-- ---- an audit that didn't begin

pub stopped_audit : (domain : List ℕ) (input rest : InputState) (output out : OutputState) (result : Result RunEnd RunFault) → result ≡ Err fault.NoMemory → RunsOver (StepsUntilEnd is_audit_over (AnswersRecord domain)) ClosesWithVerdict ⊤ audit_start input rest output out result → RunsAudit domain input rest output out result
stopped_audit domain input rest output out (Ok x) e run = absurd (cc)
stopped_audit domain input rest output out (Err f) e run =
    let is : f ≡ fault.NoMemory = cc in
    record { run = run; reported = tt; left = tt; failed = λ i. absurd (memory_input (sym is ∙ i)) }
