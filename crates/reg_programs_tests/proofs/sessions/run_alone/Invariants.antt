use Rattle.entry_book.specs.History.{first_books}
use Rattle.reg_programs_tests.proofs.sessions.run_alone.Given as goal

-- the newly opened history, and the trust domain that was parsed
abbrev pub ghosts-session_of : goal.ghosts-session_of
ghosts-session_of g a = record { history = a.new_history.seen.book; first = first_books; domain = a.kept }
