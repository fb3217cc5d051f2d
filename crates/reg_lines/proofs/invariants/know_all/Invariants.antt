use Rattle.std.proofs.Common.{drop, map}
use Rattle.std.specs.List.{AllByRecursion}
use Rattle.serde_json.specs.View.{items_of}
use Rattle.reg_lines.specs.Spelled.{ItemsAreTyped}
use Rattle.reg_lines.proofs.invariants.know_all.Given as goal

abbrev pub invariant-loop-item : goal.invariant-loop-item
invariant-loop-item g l = record {
  written : AllByRecursion g.T.Written.is_written (drop l.item-index l.items) → AllByRecursion g.T.Written.is_written l.items;
  typed : ItemsAreTyped (items_of (map g.T.Written.value (drop l.item-index l.items))) → ItemsAreTyped (items_of (map g.T.Written.value l.items));
}
