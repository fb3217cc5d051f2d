use Rattle.std.proofs.Common.{◌+◌, ap, subst, sym, ◌∙◌}
use Rattle.line_engines.specs.SchedulesPrivate.{ScheduleKept, ScheduleRepresents, TakesKept, is_lost, line_answer_json}
use Rattle.line_engines.proofs.Scheduling.{scheduled}
use Rattle.line_engines.proofs.schedule_engine.ScheduleRun.take.Goals as goal

pub returns-clause-taken : goal.returns-clause-taken
returns-clause-taken c = λ lines now next.
    let run = c.self.inside in
    let before : ScheduleKept = record { machine = run.machine; ids = run.ids } in
    let after : ScheduleKept = record { machine = c.take.new.machine; ids = c.take.new.ids } in
    let text = line_answer_json c.take.result in
    let lost = is_lost c.take.result in
    let P : ScheduleKept → Type 0 = λ k. ScheduleRepresents k lines now → TakesKept k.machine.domain after c.args.number now c.args.line.now text lost in
    subst P c.self.view_is (λ represents.
    subst (λ d. TakesKept d after c.args.number now c.args.line.now text lost) (sym c.self.invariant)
    (scheduled run.domain before after lines c.args.number now c.args.line.now text lost c.self.invariant represents (c.take.ensures.line now represents.machine represents.ids (next ∙ ap (λ n. n + 1) (sym represents.lines))) next))
