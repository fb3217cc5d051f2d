use Rattle.version_book.proofs.laws.writers.Goals as goal
use Rattle.version_book.proofs.Writers.{hits_in_books}

pub returns : goal.returns
returns c = record { hits = hits_in_books }
