use Rattle.std.proofs.Common.{◌≡◌, List, ℕ, Err, refl, subst, arith}
use Rattle.std.specs.Prelude.{⊤, IfErr, IfSome, OnOk}
use Rattle.std.proofs.lemmas.Grind.{common_steps}
use Rattle.line_engines.specs.Audited.{AnswersRecord, ClosesWithVerdict, is_audit_over, audit_start}
use Rattle.line_engines.specs.AuditedPrivate.{AuditRepresents, an_audit}
use Rattle.line_engines.specs.Driver.{AfterSomeLines, ClosesAs, RunsOver, StepsUntilEnd, TakesNoMore, TakesSoFar, TakesUntilEnd}
use Rattle.line_engines.specs.declared.fault.RunFault.TheVariants.{Input, NoMemory}
use Rattle.line_engines.specs.declared.run_end.RunEnd.{RunEnd}
use Rattle.line_engines.proofs.Auditing.{left_behind, no_fault, stopped_audit, writes_verdict_all}
use Rattle.line_engines.proofs.Driving.{RunsOver-closes, RunsOver-err, RunsOver-no_memory, RunsOver-ok, some_step}
use Rattle.line_engines.proofs.audit_engine.audit.Goals as goal

pub returns-in_err-run : goal.returns-in_err-run
returns-in_err-run g c =
    let is : c.from_residual.result ≡ Err NoMemory = grind (arith, common_steps) in
    stopped_audit c.args.domain c.args.input.now c.args.input.now c.args.output.now c.args.output.now c.from_residual.result is
    (RunsOver-no_memory (StepsUntilEnd is_audit_over (AnswersRecord c.args.domain)) ClosesWithVerdict ⊤ c.from_residual.result (some_step is_audit_over (AnswersRecord c.args.domain) (an_audit c.args.domain)) audit_start c.args.input.now c.args.output.now c.requires.output c.requires.none_held is)

pub returns-in-Ok : goal.returns-in-Ok
returns-in-Ok g c =
    let P : List ℕ → Type 0 = λ d. RunsOver (StepsUntilEnd is_audit_over (AnswersRecord d)) (ClosesAs ClosesWithVerdict (AfterSomeLines (AuditRepresents c.run_lines.new.handler))) ⊤ audit_start c.args.input.now c.run_lines.new.input c.args.output.now c.run_lines.new.output c.run_lines.result in
    let ran = subst P c.in_ok-run.ensures.domain (c.run_lines.ensures.runs audit_start c.in_ok-run.ensures.represents refl) in
    let T : List ℕ → Type 0 = λ d. TakesNoMore is_audit_over (AnswersRecord d) (AfterSomeLines (AuditRepresents c.run_lines.new.handler)) audit_start c.args.input.now c.run_lines.new.input c.run_lines.result in
    let takes = subst T c.in_ok-run.ensures.domain (c.run_lines.ensures.takes audit_start c.in_ok-run.ensures.represents refl) in
    let until : Type 0 = IfSome c.args.input.now.left (λ bytes. TakesUntilEnd is_audit_over (AnswersRecord c.args.domain) (AfterSomeLines (AuditRepresents c.run_lines.new.handler)) audit_start bytes c.run_lines.new.input.left) in
    let done = RunsOver-ok {W = RunEnd} _ _ _ _ _ _ _ _ c.run_lines.result _ c.outcome.result c.in-Ok.is ran in
    record {
      run = RunsOver-closes _ _ ClosesWithVerdict _ _ _ _ _ _ _ (λ now end k. k.0) done;
      reported = writes_verdict_all c.args.domain c.run_lines.new.handler c.args.input.now.left c.args.output.now.written c.run_lines.new.output.written c.outcome.result c.outcome.ensures done.text;
      left = left_behind c.args.domain c.run_lines.new.handler c.args.input.now.left c.run_lines.new.input.left c.args.output.now.written c.run_lines.new.output.written done.text (subst (λ r. OnOk r until) c.in-Ok.is takes.done);
      failed = tt;
    }

pub returns : goal.returns
returns g c =
    let P : List ℕ → Type 0 = λ d. RunsOver (StepsUntilEnd is_audit_over (AnswersRecord d)) (ClosesAs ClosesWithVerdict (AfterSomeLines (AuditRepresents c.run_lines.new.handler))) ⊤ audit_start c.args.input.now c.run_lines.new.input c.args.output.now c.run_lines.new.output c.run_lines.result in
    let ran = subst P c.in_ok-run.ensures.domain (c.run_lines.ensures.runs audit_start c.in_ok-run.ensures.represents refl) in
    let T : List ℕ → Type 0 = λ d. TakesNoMore is_audit_over (AnswersRecord d) (AfterSomeLines (AuditRepresents c.run_lines.new.handler)) audit_start c.args.input.now c.run_lines.new.input c.run_lines.result in
    let takes = subst T c.in_ok-run.ensures.domain (c.run_lines.ensures.takes audit_start c.in_ok-run.ensures.represents refl) in
    let so_far : Type 0 = IfSome c.args.input.now.left (λ bytes. TakesSoFar is_audit_over (AnswersRecord c.args.domain) audit_start bytes c.run_lines.new.input.left) in
    let failed = subst (λ r. IfErr r (λ e. e ≡ Input → so_far)) c.in-Err.is takes.failed in
    let done = RunsOver-err {W = RunEnd} _ _ _ _ _ _ _ _ c.run_lines.result _ c.in-Err.is ran in
    record {
      run = RunsOver-closes _ _ ClosesWithVerdict _ _ _ _ _ _ _ (λ now end k. k.0) done;
      reported = tt;
      left = tt;
      failed = λ e. no_fault c.args.domain c.args.input.now.left c.run_lines.new.input.left (failed e);
    }
