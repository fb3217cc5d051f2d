use Rattle.std.proofs.Common.{◌≡◌, drop}
use Rattle.serde_json.specs.View.{items_view}
use Rattle.line_reading.specs.Fields.{selectors_in}
use Rattle.line_reading.proofs.Front.{with_front}
use Rattle.line_reading.proofs.fields.lists.selectors_in.Given as goal

abbrev pub invariant-loop-item : goal.invariant-loop-item
invariant-loop-item l =
    with_front l.selectors (selectors_in l.key (items_view (drop l.item-index l.items))) ≡ selectors_in l.key (items_view l.items)
