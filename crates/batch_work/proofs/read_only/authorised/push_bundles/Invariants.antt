use Rattle.std.proofs.Common.{◌≡◌, ◌++◌, drop}
use Rattle.batch_work.specs.Questions.{bundles_at}
use Rattle.batch_work.specs.Windows.{book_in}
use Rattle.batch_work.proofs.read_only.authorised.push_bundles.Given as goal

abbrev pub invariant-loop-domain : goal.invariant-loop-domain
invariant-loop-domain l = l.found.items ++ bundles_at (book_in l.version) (drop l.domain-index l.domains) ≡ l.fn.found.items ++ bundles_at (book_in l.version) l.domains
