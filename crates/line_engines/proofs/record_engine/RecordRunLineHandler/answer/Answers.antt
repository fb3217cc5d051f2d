use Rattle.std.proofs.Common.{◌≡◌, ◌+◌, false, true, ap, arith, subst, sym, ◌∙◌}
use Rattle.line_engines.specs.Driver.{AnswersKept}
use Rattle.line_engines.specs.Recorded.{RecordsLine}
use Rattle.line_engines.specs.RecordedPrivate.{RecordRepresents, RecordKept}
use Rattle.line_engines.specs.SchedulesPrivate.{is_lost, line_answer_json}
use Rattle.line_engines.proofs.Recording.{recorded_as_lost, recorded_line}
use Rattle.line_engines.proofs.record_engine.RecordRunLineHandler.answer.Goals as goal

pub returns-then-is_lost-clause-answered : goal.returns-then-is_lost-clause-answered
returns-then-is_lost-clause-answered g c = λ lines now next.
    let run = c.self.inside in
    let schedule = c.take.new.self in
    let lost = is_lost c.take.result in
    let output = c.args.arg5.now in
    let reported : true ≡ lost = sym c.if-is_lost.true ∙ c.is_lost.ensures in
    let before : RecordKept = record { schedule = run.schedule; lost = run.lost } in
    let after : RecordKept = record { schedule = schedule; lost = c.saturating_add-self-inside.result } in
    let P : RecordKept → Type 0 = λ k. RecordRepresents k lines now → AnswersKept (RecordsLine k.schedule.machine.domain) (λ _. false) (RecordRepresents after c.args.number) now c.args.line.now output output true in
    subst P c.self.view_is (λ preserves.
    let few = preserves.2 in
    let one_more : c.saturating_add-self-inside.result ≡ run.lost + 1 = omega (arith, next, few) in
    let is : after ≡ recorded_as_lost schedule run.lost true = ap (λ n. record { schedule = schedule; lost = n }) one_more in
    recorded_line run.schedule.machine.domain before after schedule lines c.args.number now c.args.line.now (line_answer_json c.take.result) lost output preserves next (c.take.ensures.taken lines now.scheduled next preserves.0) (is ∙ ap (recorded_as_lost schedule run.lost) reported))

pub returns-else-is_lost-clause-answered : goal.returns-else-is_lost-clause-answered
returns-else-is_lost-clause-answered g c = λ lines now next.
    let run = c.self.inside in
    let schedule = c.take.new.self in
    let lost = is_lost c.take.result in
    let output = c.args.arg5.now in
    let reported : false ≡ lost = sym c.if-is_lost.false ∙ c.is_lost.ensures in
    let before : RecordKept = record { schedule = run.schedule; lost = run.lost } in
    let after : RecordKept = record { schedule = schedule; lost = run.lost } in
    let P : RecordKept → Type 0 = λ k. RecordRepresents k lines now → AnswersKept (RecordsLine k.schedule.machine.domain) (λ _. false) (RecordRepresents after c.args.number) now c.args.line.now output output true in
    subst P c.self.view_is (λ preserves. recorded_line run.schedule.machine.domain before after schedule lines c.args.number now c.args.line.now (line_answer_json c.take.result) lost output preserves next (c.take.ensures.taken lines now.scheduled next preserves.0) (ap (recorded_as_lost schedule run.lost) reported))
