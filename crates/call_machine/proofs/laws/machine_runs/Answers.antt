use Rattle.call_machine.proofs.Runs.{accepted_unrefused, event_leaves, refused_where_due, runs_extend}
use Rattle.call_machine.proofs.laws.machine_runs.Goals as goal

pub returns-clause-extends : goal.returns-clause-extends
returns-clause-extends c = runs_extend

pub returns-clause-leaves : goal.returns-clause-leaves
returns-clause-leaves c = event_leaves

pub returns-clause-accepted : goal.returns-clause-accepted
returns-clause-accepted c = accepted_unrefused

pub returns-clause-refused : goal.returns-clause-refused
returns-clause-refused c = refused_where_due
