use Rattle.std.proofs.Common.{◌≡◌, ◌+◌, ◌^◌, drop}
use Rattle.entry_book.specs.Lawful.{Lawful}
use Rattle.entry_book.specs.Runs.{run}
use Rattle.plain_book.specs.Performed.{resumed, ran}
use Rattle.plain_book.proofs.run.run_ops.Given as goal

abbrev pub invariant-loop-index : goal.invariant-loop-index
invariant-loop-index l = (resumed l.index l.replies l.current (run l.batch.domain (drop l.index l.batch.ops) l.current) ≡ ran l.fn.book (run l.batch.domain l.batch.ops l.fn.book)) × Lawful l.batch.domain (2 ^ 62 + l.index) l.current
