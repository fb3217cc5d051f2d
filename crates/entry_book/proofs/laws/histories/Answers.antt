use Rattle.entry_book.proofs.Alike.{alike_answer, last_there}
use Rattle.entry_book.proofs.Histories.{commit_adds, count_of_books, empty_is_first, history_bounded, history_extends, history_is_first, history_some, last-snoc, one_more, one_more_commits, others_leave, queries_only_ask, start_is_first}
use Rattle.entry_book.proofs.Verdicts.{changes_commit, early_refused, full_refused, gone_refused, op_refuses, past_answered, queries_answered}
use Rattle.entry_book.proofs.WithinLimits.{all_within_limits, first_limit, none_is_passed}
use Rattle.entry_book.proofs.laws.histories.Goals as goal

pub returns-clause-adds : goal.returns-clause-adds
returns-clause-adds c = commit_adds

pub returns-clause-leaves : goal.returns-clause-leaves
returns-clause-leaves c = others_leave

pub returns-clause-queries : goal.returns-clause-queries
returns-clause-queries c = queries_only_ask

pub returns-clause-early : goal.returns-clause-early
returns-clause-early c = early_refused

pub returns-clause-refused : goal.returns-clause-refused
returns-clause-refused c = op_refuses

pub returns-clause-answered : goal.returns-clause-answered
returns-clause-answered c = queries_answered

pub returns-clause-changes : goal.returns-clause-changes
returns-clause-changes c = changes_commit

pub returns-clause-full : goal.returns-clause-full
returns-clause-full c = full_refused

pub returns-clause-past : goal.returns-clause-past
returns-clause-past c = past_answered

pub returns-clause-gone : goal.returns-clause-gone
returns-clause-gone c = gone_refused

pub returns-clause-limits : goal.returns-clause-limits
returns-clause-limits c = none_is_passed

pub returns-clause-first_limit : goal.returns-clause-first_limit
returns-clause-first_limit c = first_limit

pub returns-clause-within : goal.returns-clause-within
returns-clause-within c = all_within_limits

pub returns-clause-bounded : goal.returns-clause-bounded
returns-clause-bounded c = history_bounded

pub returns-clause-one_more : goal.returns-clause-one_more
returns-clause-one_more c = one_more

pub returns-clause-one_more_commits : goal.returns-clause-one_more_commits
returns-clause-one_more_commits c = one_more_commits

pub returns-clause-count : goal.returns-clause-count
returns-clause-count c = count_of_books

pub returns-clause-extends : goal.returns-clause-extends
returns-clause-extends c = history_extends

pub returns-clause-begins : goal.returns-clause-begins
returns-clause-begins c = history_some

pub returns-clause-last : goal.returns-clause-last
returns-clause-last c = last-snoc

pub returns-clause-empty : goal.returns-clause-empty
returns-clause-empty c = empty_is_first

pub returns-clause-start : goal.returns-clause-start
returns-clause-start c = start_is_first

pub returns-clause-again : goal.returns-clause-again
returns-clause-again c = history_is_first

pub returns-clause-alike : goal.returns-clause-alike
returns-clause-alike c = alike_answer

pub returns-clause-there : goal.returns-clause-there
returns-clause-there c = last_there
