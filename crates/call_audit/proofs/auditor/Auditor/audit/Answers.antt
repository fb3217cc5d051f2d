use Rattle.std.proofs.Common.{◌≡◌, Ok, subst, ap, ◌∙◌}
use Rattle.line_reading.specs.Fields.{Fails}
use Rattle.line_reading.specs.RecordViews.{recorded}
use Rattle.line_reading.specs.Records.{spelled_record}
use Rattle.call_audit.specs.Represents.{AuditState, RepresentsRecords}
use Rattle.call_audit.proofs.Judging.{judges_failure, judges_of}
use Rattle.call_audit.proofs.auditor.Auditor.audit.Goals as goal

pub returns-in-Ok-clause-judged : goal.returns-in-Ok-clause-judged
returns-in-Ok-clause-judged c = λ records k.
    let domain = c.domain.ensures ∙ ap (λ (s : AuditState). s.book.domain) c.self.view_is in
    let claimed = recorded c.in-Ok.claimed in
    let spelled = subst (λ d. spelled_record d c.args.line.now ≡ Ok claimed) domain c.in-Ok.ensures.spelled in
    judges_of c.args.self.now.book.domain records c.args.line.now claimed (RepresentsRecords c.audit_record.new.self) c.audit_record.result spelled (c.audit_record.ensures.judged records k)

pub returns-in_ok-spelling_cause-in-Err-clause-judged : goal.returns-in_ok-spelling_cause-in-Err-clause-judged
returns-in_ok-spelling_cause-in-Err-clause-judged c = λ records k.
    let domain = c.domain.ensures ∙ ap (λ (s : AuditState). s.book.domain) c.self.view_is in
    let own = c.args.self.now.book.domain in
    let spelled = subst (λ d. Fails c.in-Err.refusal.failure (spelled_record d c.args.line.now)) domain c.in-Err.ensures.spelled.1 in
    judges_failure own records c.args.line.now c.in-Err.refusal.failure c.in_ok-spelling_cause-in-Err.field-0 spelled c.in_ok-spelling_cause-in-Err.ensures
