use Rattle.std.proofs.Common.{◌≡◌, map, length}
use Rattle.entry_book.specs.Book.{AscendingBook}
use Rattle.entry_book.specs.Writes.{after}
use Rattle.version_book.specs.Marks.{seen}
use Rattle.version_book.specs.Written.{write_of}
use Rattle.version_book.proofs.overlay.after_changes.Given as goal

abbrev pub invariant-loop-write : goal.invariant-loop-write
invariant-loop-write l = record {
  reads : after (map (seen l.mark) (map write_of l.writes)) l.reading ≡ after (map (seen l.mark) l.fn.changes) l.fn.reading;
  order : AscendingBook l.reading;
}

abbrev pub decreases-loop-write : goal.decreases-loop-write
decreases-loop-write l = length l.writes
