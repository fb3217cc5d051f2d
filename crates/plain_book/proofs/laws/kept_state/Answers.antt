use Rattle.plain_book.proofs.Kept.{replies_agree, books_agree}
use Rattle.plain_book.proofs.laws.kept_state.Goals as goal

pub returns-clause-replies : goal.returns-clause-replies
returns-clause-replies c = replies_agree

pub returns-clause-books : goal.returns-clause-books
returns-clause-books c = books_agree
