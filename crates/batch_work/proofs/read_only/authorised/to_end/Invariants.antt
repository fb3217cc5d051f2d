use Rattle.spiffe_name.specs.Id.{server_text}
use Rattle.batch_work.specs.Windows.{book_in}
use Rattle.batch_work.proofs.Questions.{Walking}
use Rattle.batch_work.proofs.read_only.authorised.to_end.Given as goal

abbrev pub invariant-loop : goal.invariant-loop
invariant-loop l = Walking (server_text l.version.domain) l.agent (book_in l.version) l.counter l.walk
