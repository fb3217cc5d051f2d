use Rattle.line_devices.proofs.Puts.{Puts-same}
use Rattle.line_engines.proofs.Recording.{reported_line, reported_written}
use Rattle.line_engines.proofs.record_engine.print_record.Goals as goal

pub returns-in-Some-of-clause-printed : goal.returns-in-Some-of-clause-printed
returns-in-Some-of-clause-printed g c = λ r of.
    Puts-same _ _ _ _ (reported_line c.args.machine.now.calls c.args.call r c.in-Some.known c.in-Some-of.record of c.in-Some.ensures c.in-Some-of.ensures) c.print_line.ensures

pub returns-in-Some-of-clause-written : goal.returns-in-Some-of-clause-written
returns-in-Some-of-clause-written g c = λ r of.
    reported_written c.args.machine.now.calls c.args.call r c.in-Some.known c.in-Some-of.record of c.in-Some.ensures c.in-Some-of.ensures c.know_types.ensures.batch c.know_types.ensures.call
