use Rattle.entry_book.proofs.Visible.{authorised_by_seen, authorised_stays, same_authorised, same_trust, trust_stays}
use Rattle.entry_book.proofs.laws.agents_answers.Goals as goal

pub returns-clause-listed : goal.returns-clause-listed
returns-clause-listed c = authorised_by_seen

pub returns-clause-authorised : goal.returns-clause-authorised
returns-clause-authorised c = same_authorised

pub returns-clause-trust : goal.returns-clause-trust
returns-clause-trust c = same_trust

pub returns-clause-cached : goal.returns-clause-cached
returns-clause-cached c = authorised_stays

pub returns-clause-cached_trust : goal.returns-clause-cached_trust
returns-clause-cached_trust c = trust_stays
