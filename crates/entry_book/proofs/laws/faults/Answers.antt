use Rattle.entry_book.proofs.Faults.{first_fault, no_ops_refused, not_refused, past_page_refused, token_refused, too_many_refused}
use Rattle.entry_book.proofs.Unfaulted.{agent_faults, bundle_faults, entry_faults, op_faults}
use Rattle.entry_book.proofs.laws.faults.Goals as goal

pub returns-clause-no_ops : goal.returns-clause-no_ops
returns-clause-no_ops c = no_ops_refused

pub returns-clause-too_many : goal.returns-clause-too_many
returns-clause-too_many c = too_many_refused

pub returns-clause-first : goal.returns-clause-first
returns-clause-first c = first_fault

pub returns-clause-past_page : goal.returns-clause-past_page
returns-clause-past_page c = past_page_refused

pub returns-clause-token : goal.returns-clause-token
returns-clause-token c = token_refused

pub returns-clause-none : goal.returns-clause-none
returns-clause-none c = not_refused

pub returns-clause-entry : goal.returns-clause-entry
returns-clause-entry c = entry_faults

pub returns-clause-agent : goal.returns-clause-agent
returns-clause-agent c = agent_faults

pub returns-clause-bundle : goal.returns-clause-bundle
returns-clause-bundle c = bundle_faults

pub returns-clause-op : goal.returns-clause-op
returns-clause-op c = op_faults
