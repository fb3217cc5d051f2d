use Rattle.line_engines.proofs.Confirming.{records_are_audited}
use Rattle.line_engines.proofs.laws.recorded_runs_are_confirmed.Goals as goal

pub returns : goal.returns
returns c = records_are_audited c.confirmed_law.ensures.calls
