use Rattle.std.proofs.Common.{refl}
use Rattle.line_engines.specs.Answers.{as_line}
use Rattle.line_engines.specs.SchedulesPrivate.{line_answer_json}
use Rattle.line_engines.proofs.schedule_engine.ScheduleRunLineHandler.answer.Goals as goal

pub returns-clause-answered : goal.returns-clause-answered
returns-clause-answered g c = λ lines now next represents.
    let taken = c.take.ensures.taken lines now next represents in
    (taken.0, as_line (line_answer_json c.take.result), (λ line is k. (taken.1 line is k).0), c.print_line.ensures, taken.2, refl)
