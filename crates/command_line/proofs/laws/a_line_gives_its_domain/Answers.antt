use Rattle.command_line.proofs.Lines.{domain_apart, help_is_refused, joined_domain, joined_record, joined_seed, no_seed, nothing_is_refused}
use Rattle.command_line.proofs.laws.a_line_gives_its_domain.Goals as goal

pub returns-clause-joined : goal.returns-clause-joined
returns-clause-joined c = joined_domain

pub returns-clause-apart : goal.returns-clause-apart
returns-clause-apart c = domain_apart

pub returns-clause-seed : goal.returns-clause-seed
returns-clause-seed c = joined_seed

pub returns-clause-no_seed : goal.returns-clause-no_seed
returns-clause-no_seed c = no_seed

pub returns-clause-recorded : goal.returns-clause-recorded
returns-clause-recorded c = joined_record

pub returns-clause-help : goal.returns-clause-help
returns-clause-help c = help_is_refused

pub returns-clause-nothing : goal.returns-clause-nothing
returns-clause-nothing c = nothing_is_refused
