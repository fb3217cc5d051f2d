use Rattle.std.proofs.Common.{◌≡◌, refl, subst, sym, ◌∙◌}
use Rattle.std.specs.Prelude.{Ok}
use Rattle.call_machine.proofs.Runs.{event_leaves}
use Rattle.line_reading.specs.Events.{spelled_event}
use Rattle.line_reading.specs.Fields.{Fails}
use Rattle.line_engines.specs.SchedulesPrivate.{Applied, is_lost, line_answer_json}
use Rattle.line_engines.proofs.Scheduling.{event_applied, line_refused}
use Rattle.line_engines.proofs.schedule_engine.take.Goals as goal

pub returns-in-Err : goal.returns-in-Err
returns-in-Err c = record {
  domain = refl;
  line = λ now m i l.
      let said = c.in-Err.ensures.spelled in
      let refusal = c.in-Err.refusal in
      line_refused c.args.domain.now now c.args.line.now c.args.machine.now c.read_event.new.ids refusal m (i ∙ sym c.in-Err.ensures.kept)
      (subst (λ d. Fails refusal.failure (spelled_event c.args.domain.now d c.args.line.now)) (sym i) said.1)
      (said.0 ∙ l);
}

pub returns-in-Ok : goal.returns-in-Ok
returns-in-Ok c = record {
  domain = (event_leaves c.args.machine.now c.in-Ok.event c.apply.ensures.0 c.apply.new.machine c.apply.ensures.1).domain;
  line = λ now m i l.
      event_applied c.args.domain.now now c.args.line.now (line_answer_json c.apply.result) (is_lost c.apply.result) c.apply.new.machine c.read_event.new.ids c.in-Ok.event
      (subst (λ d. spelled_event c.args.domain.now d c.args.line.now ≡ Ok (c.in-Ok.event, c.read_event.new.ids)) (sym i) c.in-Ok.ensures.spelled)
      (subst (λ n. Applied now.machine c.in-Ok.event n (line_answer_json c.apply.result) (is_lost c.apply.result) c.apply.new.machine) l
      (subst (λ s. Applied s c.in-Ok.event c.args.number (line_answer_json c.apply.result) (is_lost c.apply.result) c.apply.new.machine) (sym m) c.apply.ensures));
}
