use Rattle.entry_book.specs.History.{first_books}
use Rattle.shared_registry_tests.proofs.plays.plays_anew.Given as goal

-- the newly opened history, and its trust domain
abbrev pub ghosts-plays_at : goal.ghosts-plays_at
ghosts-plays_at g a = record { history = a.new_history.seen.book; first = first_books; domain = a.domain }
