use Rattle.std.proofs.Common.{◌≡◌, ◌+◌, Bool, ap, length, refl, subst, sym, ◌∙◌}
use Rattle.std.specs.Prelude.{is_none, is_some}
use Rattle.line_engines.specs.Audited.{AnswersRecord, is_audit_over}
use Rattle.line_engines.specs.AuditedPrivate.{AuditKept, AuditRepresents}
use Rattle.line_engines.specs.Driver.{AnswersKept}
use Rattle.line_engines.proofs.Auditing.{audited, left_out, none_of, turned}
use Rattle.line_engines.proofs.audit_engine.AuditRunLineHandler.answer.Goals as goal

pub returns-then-is_some-clause-answered : goal.returns-then-is_some-clause-answered
returns-then-is_some-clause-answered g c = λ lines now next s.
    let kept = c.args.self.now in
    let over = ap (λ (k : AuditKept). is_some k.over) (sym c.self.view_is) ∙ (sym c.is_some.ensures ∙ c.if-is_some.true) in
    left_out kept.auditor.book.domain kept kept lines c.args.number now c.args.line.now c.args.arg5.now over s refl

pub returns-clause-answered : goal.returns-clause-answered
returns-clause-answered g c = λ lines now next.
    let run = c.self.inside in
    let then = c.audit_line-self-inside in
    let before : AuditKept = record { auditor = run.auditor; over = run.over } in
    let after : AuditKept = record { auditor = then.new.auditor; over = then.result } in
    let none = none_of run.over (sym c.is_some.ensures ∙ c.if-is_some.false) in
    let continues : is_none then.result ≡ c.is_none.result = turned c.is_none.result (is_some then.result) (sym c.is_none.ensures) in
    let P : AuditKept → Type 0 = λ k. AuditRepresents k lines now → AnswersKept (AnswersRecord k.auditor.book.domain) is_audit_over (AuditRepresents after c.args.number) now c.args.line.now c.args.arg5.now c.args.arg5.now c.is_none.result in
    let Q : Bool → Type 0 = λ b. AnswersKept (AnswersRecord run.auditor.book.domain) is_audit_over (AuditRepresents after c.args.number) now c.args.line.now c.args.arg5.now c.args.arg5.now b in
    subst P c.self.view_is (λ s.
    let number : c.args.number ≡ length now.records + 1 = next ∙ ap (λ n. n + 1) (sym (s.counted none)) in
    subst Q continues (audited run.auditor.book.domain before after lines c.args.number now c.args.line.now c.args.arg5.now s none number (then.ensures.line now.records (s.preserves none) number)))
