use Rattle.std.proofs.Common.{ap, arith, subst}
use Rattle.std.specs.List.{AllByRecursion, flat_map}
use Rattle.std.proofs.lemmas.List.{take_all}
use Rattle.line_devices.proofs.Puts.{Puts-same, Puts-nil, Puts-then}
use Rattle.line_engines.specs.Recorded.{IsWritten, record_line}
use Rattle.line_engines.proofs.Recording.{record_at, records_next, same_length, written_next}
use Rattle.line_engines.proofs.record_engine.print_records.Goals as goal

pub loop-call-init : goal.loop-call-init
loop-call-init g c = record { printed = λ records are. Puts-nil c.args.output.now; written = λ records are. tt }

pub loop-call-preserved : goal.loop-call-preserved
loop-call-preserved g c = record {
  printed = λ records are.
      let at = record_at c.args.machine.now.calls c.args.calls.now records c.loop-call.call-index _ are c.loop-call-test.true in
      Puts-same _ _ _ _ (records_next records c.loop-call.call-index at.0 at.2 at.3) (Puts-then _ _ _ _ _ (c.loop-call.invariant.printed records are) (c.print_record.ensures.printed at.0 at.1));
  written = λ records are.
      let at = record_at c.args.machine.now.calls c.args.calls.now records c.loop-call.call-index _ are c.loop-call-test.true in
      written_next records c.loop-call.call-index at.0 at.2 at.3 (c.loop-call.invariant.written records are) (c.print_record.ensures.written at.0 at.1);
}

pub returns-clause-printed : goal.returns-clause-printed
returns-clause-printed g c = λ records are.
    let same = same_length c.args.machine.now.calls c.args.calls.now records are in
    Puts-same _ _ _ _ (ap (flat_map record_line) (take_all c.loop-call.call-index records (omega arith))) (c.loop-call.invariant.printed records are)

pub returns-clause-written : goal.returns-clause-written
returns-clause-written g c = λ records are.
    let same = same_length c.args.machine.now.calls c.args.calls.now records are in
    subst (AllByRecursion IsWritten) (take_all c.loop-call.call-index records (omega arith)) (c.loop-call.invariant.written records are)
