use Rattle.line_devices.proofs.Puts.{Puts-then}
use Rattle.line_devices.proofs.output.Output.flush.Goals as goal

pub returns-then-not-self-clause-put : goal.returns-then-not-self-clause-put
returns-then-not-self-clause-put g c = Puts-then _ _ _ _ _ c.send_held.ensures.put c.flush_sink.ensures.put
