use Rattle.version_book.proofs.laws.books.Goals as goal
use Rattle.version_book.proofs.NamedRows.{book_after, book_reads}

pub returns-clause-after : goal.returns-clause-after
returns-clause-after c = book_after

pub returns-clause-reads : goal.returns-clause-reads
returns-clause-reads c = book_reads
