use Rattle.std.proofs.lemmas.Result.{err_from_is_err_and}
use Rattle.line_reading.specs.Events.{event_in, spelled_event}
use Rattle.line_reading.proofs.LineValues.{of_line-fails}
use Rattle.line_reading.proofs.event.event_of_line.Goals as goal

pub returns-in_err-value-clause-spelled : goal.returns-in_err-value-clause-spelled
unfolding spelled_event
returns-in_err-value-clause-spelled c =
    let p = err_from_is_err_and c.from_residual.result c.from_residual.ensures.1 in
    rw (p.1, p.2) (of_line-fails (event_in c.args.domain.now c.args.ids.now) c.args.line.now _ c.in_err-value.ensures.value)
