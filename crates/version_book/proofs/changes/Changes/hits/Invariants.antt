use Rattle.std.proofs.Common.{◌≡◌, map, drop}
use Rattle.std.specs.List.{list_any}
use Rattle.version_book.specs.Marks.{hits}
use Rattle.version_book.specs.Written.{write_of}
use Rattle.version_book.proofs.changes.Changes.hits.Given as goal

abbrev pub invariant-loop-write : goal.invariant-loop-write
invariant-loop-write l = list_any (λ write. hits write l.mark) (map write_of (drop l.write-index l.write-items)) ≡ list_any (λ write. hits write l.mark) l.self
