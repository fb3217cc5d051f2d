use Rattle.std.proofs.Common.{◌+◌, ◌≤◌, ◌^◌, sym, arith}
use Rattle.std.specs.Prelude.{slice_index}
use Rattle.shared_registry.specs.Rules.{items_of}
use Rattle.shared_registry.proofs.Counts.{counted_here}
use Rattle.shared_registry.proofs.Showing.{count_low}
use Rattle.shared_registry.proofs.published.PublishedValue.counts_with.Goals as goal

pub overflow_add-counts : goal.overflow_add-counts
overflow_add-counts c =
    let low = count_low _ _ _ c.args.seat c.self.invariant.1 c.self.invariant.2 c.requires.seat.0 in
    rw c.get.ensures (let m : slice_index c.self.inside.published_state.counts c.args.seat + 1 ≤ 2 ^ 48 + 1 = omega arith in omega arith)

pub returns : goal.returns
returns c = rw (c.get.ensures, sym c.self.view_is) (counted_here c.self.inside.published_state.counts (items_of c.self.inside.seen.log) c.args.item.now c.args.seat c.self.invariant.2 c.requires.seat.1 c.requires.seat.0)
