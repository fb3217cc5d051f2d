use Rattle.std.proofs.Common.{drop, map}
use Rattle.version_book.specs.CommittedRows.{rows_after}
use Rattle.version_book.specs.Written.{placed, write_of}
use Rattle.version_book.proofs.Writing.{Lead}
use Rattle.version_book.proofs.store.Store.after_writes.Given as goal

abbrev pub invariant-loop-write : goal.invariant-loop-write
invariant-loop-write l = Lead l.commit (drop l.write-index l.writes) l.store (rows_after l.commit (placed l.commit (map write_of l.writes)) l.fn.self)
