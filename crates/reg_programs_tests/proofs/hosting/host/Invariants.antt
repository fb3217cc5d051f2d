use Rattle.entry_book.specs.History.{first_books}
use Rattle.reg_programs_tests.proofs.hosting.host.Given as goal

-- the newly opened history, and the trust domain that was parsed
abbrev pub ghosts-host_by : goal.ghosts-host_by
ghosts-host_by g a = record { history = a.new_history.seen.book; first = first_books; domain = a.kept }
