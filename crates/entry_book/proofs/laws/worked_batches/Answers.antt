use Rattle.std.proofs.Common.{refl}
use Rattle.entry_book.specs.Authorised.{authorised}
use Rattle.entry_book.specs.Order.{is_before, with_row}
use Rattle.entry_book.proofs.laws.worked_batches.Goals as goal

pub returns-clause-first : goal.returns-clause-first
unfolding with_row is_before authorised
returns-clause-first c = refl

pub returns-clause-empty : goal.returns-clause-empty
unfolding with_row is_before authorised
returns-clause-empty c = refl

pub returns-clause-nothing_kept : goal.returns-clause-nothing_kept
unfolding with_row is_before authorised
returns-clause-nothing_kept c = refl

pub returns-clause-sequences : goal.returns-clause-sequences
unfolding with_row is_before authorised
returns-clause-sequences c = refl

pub returns-clause-freed : goal.returns-clause-freed
unfolding with_row is_before authorised
returns-clause-freed c = refl

pub returns-clause-prunes : goal.returns-clause-prunes
unfolding with_row is_before authorised
returns-clause-prunes c = refl

pub returns-clause-stale : goal.returns-clause-stale
unfolding with_row is_before authorised
returns-clause-stale c = refl

pub returns-clause-earlier : goal.returns-clause-earlier
unfolding with_row is_before authorised
returns-clause-earlier c = refl

pub returns-clause-later : goal.returns-clause-later
unfolding with_row is_before authorised
returns-clause-later c = refl

pub returns-clause-token : goal.returns-clause-token
unfolding with_row is_before authorised
returns-clause-token c = refl

pub returns-clause-token_free : goal.returns-clause-token_free
unfolding with_row is_before authorised
returns-clause-token_free c = refl

pub returns-clause-lifetimes : goal.returns-clause-lifetimes
unfolding with_row is_before authorised
returns-clause-lifetimes c = refl

pub returns-clause-questions : goal.returns-clause-questions
unfolding with_row is_before authorised
returns-clause-questions c = refl
