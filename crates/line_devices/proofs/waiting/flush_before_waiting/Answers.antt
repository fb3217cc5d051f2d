use Rattle.line_devices.proofs.Puts.{Puts-nil}
use Rattle.line_devices.proofs.waiting.flush_before_waiting.Goals as goal

pub returns-else-not-has_line-clause-put : goal.returns-else-not-has_line-clause-put
returns-else-not-has_line-clause-put g c = Puts-nil c.args.output.now
