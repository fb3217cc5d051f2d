use Rattle.std.proofs.Common.{drop}
use Rattle.std.specs.List.{AllByRecursion}
use Rattle.reg_lines.specs.Spelled.{IsWrittenBatch}
use Rattle.line_engines.proofs.laws.know_items.Given as goal

abbrev pub invariant-loop-item : goal.invariant-loop-item
invariant-loop-item l = AllByRecursion (λ item. IsWrittenBatch item.batch) (drop l.item-index l.items) → AllByRecursion (λ item. IsWrittenBatch item.batch) l.items
