use Rattle.std.proofs.Common.{◌≡◌, drop}
use Rattle.serde_json.specs.View.{items_view}
use Rattle.line_reading.specs.Operations.{ops_in}
use Rattle.line_reading.proofs.Front.{with_ops}
use Rattle.line_reading.proofs.ops.ops_in.Given as goal

abbrev pub invariant-loop-index : goal.invariant-loop-index
invariant-loop-index l =
    with_ops l.ops (ops_in l.index l.fn.missing l.ids (items_view (drop l.index l.items))) ≡ ops_in 0 l.fn.missing l.fn.ids (items_view l.items)
