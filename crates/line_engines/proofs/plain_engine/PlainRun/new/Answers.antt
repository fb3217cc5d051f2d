use Rattle.std.proofs.Common.{refl, sym, arith}
use Rattle.entry_book.specs.History.{first_books}
use Rattle.line_engines.proofs.plain_engine.PlainRun.new.Goals as goal

pub returns-clause-represents : goal.returns-clause-represents
returns-clause-represents c = ((first_books, c.in_ok-new.ensures.represents), sym c.of_seed.ensures, refl, refl, omega arith)
