use Rattle.entry_book.specs.History.{first_books}
use Rattle.reg_programs.proofs.server.serve.Given as goal

-- the history that was just opened, which begins with the empty book, and the trust domain of the server
abbrev pub ghosts-serve_registry : goal.ghosts-serve_registry
ghosts-serve_registry g a = record { history = a.new_history.seen.book; first = first_books; domain = a.registry_domain }
