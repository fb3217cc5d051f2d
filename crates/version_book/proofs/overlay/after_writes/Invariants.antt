use Rattle.std.proofs.Common.{◌≡◌, map, drop}
use Rattle.entry_book.specs.Writes.{after}
use Rattle.version_book.specs.Marks.{seen}
use Rattle.version_book.specs.Written.{write_of}
use Rattle.version_book.proofs.overlay.after_writes.Given as goal

abbrev pub invariant-loop-write : goal.invariant-loop-write
invariant-loop-write l = after (map (seen l.mark) (map write_of (drop l.write-index l.writes))) l.reading ≡ after (map (seen l.mark) (map write_of l.writes)) l.fn.reading
