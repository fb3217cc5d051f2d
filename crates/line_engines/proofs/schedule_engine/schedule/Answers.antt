use Rattle.std.proofs.Common.{◌≡◌, List, ℕ, Err, refl, subst, arith}
use Rattle.std.specs.Prelude.{⊤}
use Rattle.std.proofs.lemmas.Grind.{common_steps}
use Rattle.line_engines.specs.Driver.{RunsOver}
use Rattle.line_engines.specs.Schedules.{AnswersEvent, ClosesWithOrder, schedule_start}
use Rattle.line_engines.specs.SchedulesPrivate.{an_event_answer}
use Rattle.line_engines.specs.declared.fault.RunFault.TheVariants.{NoMemory}
use Rattle.line_engines.proofs.Driving.{RunsOver-closes, RunsOver-no_memory}
use Rattle.line_engines.proofs.schedule_engine.schedule.Goals as goal

pub returns-in_err-run : goal.returns-in_err-run
returns-in_err-run g c =
    let is : c.from_residual.result ≡ Err NoMemory = grind (arith, common_steps) in
    RunsOver-no_memory (AnswersEvent c.args.domain) ClosesWithOrder ⊤ c.from_residual.result (an_event_answer c.args.domain) (schedule_start c.args.domain c.args.seed) c.args.input.now c.args.output.now c.requires.output c.requires.none_held is

pub returns : goal.returns
returns g c =
    let P : List ℕ → Type 0 = λ d. RunsOver (AnswersEvent d) ClosesWithOrder ⊤ (schedule_start c.args.domain c.args.seed) c.args.input.now c.run_lines.new.input c.args.output.now c.run_lines.new.output c.run_lines.result in
    subst P c.in_ok-run.ensures.domain (RunsOver-closes _ _ ClosesWithOrder _ _ _ _ _ _ _ (λ now end k. k.0) (c.run_lines.ensures.runs (schedule_start c.args.domain c.args.seed) c.in_ok-run.ensures.represents refl))
