use Rattle.plain_book.proofs.KeptBooks.{represents_first}
use Rattle.plain_book.proofs.plain_book.PlainBook.new.Goals as goal

pub returns-clause-represents : goal.returns-clause-represents
returns-clause-represents c = represents_first c.args.domain c.new.result.items c.in_ok-empty.field-0 c.new.ensures.items c.in_ok-empty.ensures
