use Rattle.std.proofs.Common.{take}
use Rattle.version_book.proofs.Indexes.{Takes}
use Rattle.version_book.proofs.index.without_keys.Given as goal

abbrev pub invariant-loop-key : goal.invariant-loop-key
invariant-loop-key g l = Takes (take l.key-index l.keys) l.fn.index l.rest
