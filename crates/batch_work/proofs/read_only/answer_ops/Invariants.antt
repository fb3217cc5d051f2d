use Rattle.std.proofs.Common.{◌≡◌}
use Rattle.entry_book.specs.Runs.{run}
use Rattle.batch_work.specs.Windows.{book_in}
use Rattle.batch_work.proofs.Questions.{left}
use Rattle.batch_work.proofs.read_only.answer_ops.Given as goal

abbrev pub invariant-loop-index : goal.invariant-loop-index
invariant-loop-index l = left l.version.domain l.ops (book_in l.version) l.index l.replies ≡ run l.version.domain l.ops (book_in l.version)
