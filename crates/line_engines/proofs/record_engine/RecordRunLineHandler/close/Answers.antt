use Rattle.std.proofs.Common.{ap, subst, sym, ◌∙◌}
use Rattle.line_engines.specs.Recorded.{AreRecords}
use Rattle.line_engines.specs.RecordedPrivate.{RecordKept}
use Rattle.line_engines.proofs.Recording.{closed_with_records}
use Rattle.line_engines.proofs.record_engine.RecordRunLineHandler.close.Goals as goal

pub returns-clause-closed : goal.returns-clause-closed
returns-clause-closed g c = λ lines now preserves.
    let represents = preserves.0 in
    let machine = c.machine-machine.result.now in
    let same = represents.machine ∙ (ap (λ (k : RecordKept). k.schedule.machine) (sym c.self.view_is) ∙ sym c.machine-machine.ensures) in
    closed_with_records c.args.self.now.schedule.machine.domain now.scheduled machine c.in_ok-order.order.items same represents.runs represents.made c.in_ok-order.ensures.order c.in_ok-order.ensures.headline c.in_ok-order.ensures.held c.args.output.now c.print_records.new.output
    (λ records are. c.print_records.ensures.printed records (subst (λ numbers. AreRecords machine.calls numbers records) (sym c.as_slice.ensures.value) are))
    (λ records are. c.print_records.ensures.written records (subst (λ numbers. AreRecords machine.calls numbers records) (sym c.as_slice.ensures.value) are))
