use Rattle.std.proofs.Common.{◌≡◌, drop}
use Rattle.serde_json.specs.View.{items_view}
use Rattle.line_reading.specs.Fields.{domains_in}
use Rattle.line_reading.proofs.Front.{with_front}
use Rattle.line_reading.proofs.fields.lists.domains_in.Given as goal

abbrev pub invariant-loop-item : goal.invariant-loop-item
invariant-loop-item l =
    with_front l.domains (domains_in l.key (items_view (drop l.item-index l.items))) ≡ domains_in l.key (items_view l.items)
