use Rattle.version_book.proofs.laws.version_histories.Goals as goal
use Rattle.version_book.proofs.Histories.{batch_commits, books_follow, domain_is_unchanged, follows_on, limits_follow, newest_read, unhit_history, verdict_last}
use Rattle.version_book.proofs.Unchanged.{unhit_marks}

pub returns-clause-commits : goal.returns-clause-commits
returns-clause-commits c = batch_commits

pub returns-clause-joined : goal.returns-clause-joined
returns-clause-joined c = follows_on

pub returns-clause-books : goal.returns-clause-books
returns-clause-books c = books_follow

pub returns-clause-domain : goal.returns-clause-domain
returns-clause-domain c = domain_is_unchanged

pub returns-clause-limits : goal.returns-clause-limits
returns-clause-limits c = limits_follow

pub returns-clause-unhit : goal.returns-clause-unhit
returns-clause-unhit c = unhit_history

pub returns-clause-unhit_marks : goal.returns-clause-unhit_marks
returns-clause-unhit_marks c = unhit_marks

pub returns-clause-newest : goal.returns-clause-newest
returns-clause-newest c = newest_read

pub returns-clause-verdict : goal.returns-clause-verdict
returns-clause-verdict c = verdict_last
