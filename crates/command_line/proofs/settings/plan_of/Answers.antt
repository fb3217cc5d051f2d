use Rattle.std.proofs.Common.{refl, subst}
use Rattle.command_line.specs.CommandLine.{IsNoAddress}
use Rattle.command_line.proofs.settings.plan_of.Goals as goal

pub returns-in_default-clause-fault : goal.returns-in_default-clause-fault
returns-in_default-clause-fault c = (refl, subst IsNoAddress c.server_word.ensures c.in_default.ensures.value)
