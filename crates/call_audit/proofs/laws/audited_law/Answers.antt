use Rattle.call_audit.proofs.Histories.{faultless_are_history}
use Rattle.call_audit.proofs.No.{no_is_first}
use Rattle.call_audit.proofs.Yes.{yes_is_history}
use Rattle.call_audit.proofs.laws.audited_law.Goals as goal

pub returns-clause-history : goal.returns-clause-history
returns-clause-history c = faultless_are_history

pub returns-clause-yes : goal.returns-clause-yes
returns-clause-yes c = yes_is_history

pub returns-clause-no : goal.returns-clause-no
returns-clause-no c = no_is_first
