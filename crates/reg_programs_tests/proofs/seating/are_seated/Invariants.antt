use Rattle.entry_book.specs.History.{first_books}
use Rattle.reg_programs_tests.proofs.seating.are_seated.Given as goal

-- the newly opened history, and the trust domain that was parsed
abbrev pub ghosts-seated : goal.ghosts-seated
ghosts-seated g a = record { history = a.new_history.seen.book; first = first_books; domain = a.registry_domain }
