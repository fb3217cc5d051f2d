use Rattle.version_book.proofs.laws.marks.Goals as goal
use Rattle.version_book.proofs.NamedRows.{reads_agent, reads_all, reads_bundle, reads_children, reads_entry, reads_expiring, reads_group, reads_token, reads_users}

pub returns-clause-entry : goal.returns-clause-entry
returns-clause-entry c = reads_entry

pub returns-clause-group : goal.returns-clause-group
returns-clause-group c = reads_group

pub returns-clause-children : goal.returns-clause-children
returns-clause-children c = reads_children

pub returns-clause-users : goal.returns-clause-users
returns-clause-users c = reads_users

pub returns-clause-expiring : goal.returns-clause-expiring
returns-clause-expiring c = reads_expiring

pub returns-clause-agent : goal.returns-clause-agent
returns-clause-agent c = reads_agent

pub returns-clause-bundle : goal.returns-clause-bundle
returns-clause-bundle c = reads_bundle

pub returns-clause-all : goal.returns-clause-all
returns-clause-all c = reads_all

pub returns-clause-token : goal.returns-clause-token
returns-clause-token c = reads_token
