use Rattle.entry_book.proofs.Histories.{all_lawful, batch_keeps, lawful_history}
use Rattle.entry_book.proofs.Keeps.{op_keeps}
use Rattle.entry_book.proofs.LawfulRows.{wider}
use Rattle.entry_book.proofs.TokenRows.{batch_fits_book}
use Rattle.entry_book.proofs.Verdicts.{free_kept}
use Rattle.entry_book.proofs.laws.lawful_books.Goals as goal

pub returns-clause-history : goal.returns-clause-history
returns-clause-history c = lawful_history

pub returns-clause-holds_always : goal.returns-clause-holds_always
returns-clause-holds_always c = all_lawful

pub returns-clause-batch : goal.returns-clause-batch
returns-clause-batch c = batch_keeps

pub returns-clause-fits : goal.returns-clause-fits
returns-clause-fits c = λ batch n b a h. batch_fits_book batch n b a (free_kept batch.token b h)

pub returns-clause-op : goal.returns-clause-op
returns-clause-op c = op_keeps

pub returns-clause-wider : goal.returns-clause-wider
returns-clause-wider c = λ own_domain m n b l h. wider n l h
