use Rattle.std.proofs.Common.{◌≡◌, List, ℕ, Err, refl, subst, arith}
use Rattle.std.specs.Prelude.{⊤}
use Rattle.std.proofs.lemmas.Grind.{common_steps}
use Rattle.line_engines.specs.Driver.{AfterSomeLines, ClosesAs, RunsOver}
use Rattle.line_engines.specs.Recorded.{ClosesRecording, RecordsLine, first_recording}
use Rattle.line_engines.specs.RecordedPrivate.{RecordRepresents, a_line_recorded}
use Rattle.line_engines.specs.declared.fault.RunFault.TheVariants.{NoMemory}
use Rattle.line_engines.proofs.Driving.{RunsOver-closes, RunsOver-err, RunsOver-no_memory, RunsOver-ok}
use Rattle.line_engines.proofs.Recording.{all, alone, fault_recorded}
use Rattle.line_engines.proofs.record_engine.record_schedule.Goals as goal

pub returns-in_err-run : goal.returns-in_err-run
returns-in_err-run g c =
    let is : c.from_residual.result ≡ Err NoMemory = grind (arith, common_steps) in
    fault_recorded c.args.domain c.args.seed c.args.input.now c.args.input.now c.args.output.now c.args.output.now c.from_residual.result NoMemory is
    (RunsOver-no_memory (RecordsLine c.args.domain) (ClosesRecording c.args.domain) ⊤ c.from_residual.result (a_line_recorded c.args.domain) (first_recording c.args.domain c.args.seed) c.args.input.now c.args.output.now c.requires.output c.requires.none_held is)

pub returns-in-Ok : goal.returns-in-Ok
returns-in-Ok g c =
    let domain = c.args.domain in
    let seed = c.args.seed in
    let kept = c.run_lines.new.handler in
    let left = c.args.input.now.left in
    let P : List ℕ → Type 0 = λ d. RunsOver (RecordsLine d) (ClosesAs (ClosesRecording d) (AfterSomeLines (RecordRepresents kept))) ⊤ (first_recording domain seed) c.args.input.now c.run_lines.new.input c.args.output.now c.run_lines.new.output c.run_lines.result in
    let ran = subst P c.in_ok-run.ensures.domain (c.run_lines.ensures.runs (first_recording domain seed) c.in_ok-run.ensures.represents refl) in
    let done = RunsOver-ok {W = ℕ} _ _ _ _ _ _ _ _ c.run_lines.result _ c.lost.result c.in-Ok.is ran in
    let reported = alone domain seed kept c.lost.result left c.args.output.now.written c.run_lines.new.output.written c.lost.ensures done.text in
    record {
      run = RunsOver-closes _ _ (ClosesRecording domain) _ _ _ _ _ _ _ (λ now end k. k.0) done;
      alone = reported;
      all = all domain seed c.lost.result left c.args.output.now.written c.run_lines.new.output.written reported;
    }

pub returns : goal.returns
returns g c =
    let domain = c.args.domain in
    let seed = c.args.seed in
    let kept = c.run_lines.new.handler in
    let P : List ℕ → Type 0 = λ d. RunsOver (RecordsLine d) (ClosesAs (ClosesRecording d) (AfterSomeLines (RecordRepresents kept))) ⊤ (first_recording domain seed) c.args.input.now c.run_lines.new.input c.args.output.now c.run_lines.new.output c.run_lines.result in
    let ran = subst P c.in_ok-run.ensures.domain (c.run_lines.ensures.runs (first_recording domain seed) c.in_ok-run.ensures.represents refl) in
    let done = RunsOver-err {W = ℕ} _ _ _ _ _ _ _ _ c.run_lines.result _ c.in-Err.is ran in
    record {
      run = RunsOver-closes _ _ (ClosesRecording domain) _ _ _ _ _ _ _ (λ now end k. k.0) done;
      alone = tt;
      all = tt;
    }
