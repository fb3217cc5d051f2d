use Rattle.entry_book.proofs.Pages.{last_of, matches_said, one_page, page_said, pages_list_all, pages_list_once, passes_said}
use Rattle.entry_book.proofs.ToList.{to_list_is}
use Rattle.entry_book.proofs.laws.pages.Goals as goal

pub returns-clause-matches : goal.returns-clause-matches
returns-clause-matches c = matches_said

pub returns-clause-passes : goal.returns-clause-passes
returns-clause-passes c = passes_said

pub returns-clause-lists : goal.returns-clause-lists
returns-clause-lists c = page_said

pub returns-clause-one : goal.returns-clause-one
returns-clause-one c = one_page

pub returns-clause-all : goal.returns-clause-all
returns-clause-all c = pages_list_all

pub returns-clause-once : goal.returns-clause-once
returns-clause-once c = pages_list_once

pub returns-clause-last : goal.returns-clause-last
returns-clause-last c = last_of

pub returns-clause-in_turn : goal.returns-clause-in_turn
returns-clause-in_turn c = to_list_is
