use Rattle.std.proofs.Common.{◌≡◌, ◌+◌, Some, length, refl, sym, ap, subst, ◌∙◌, arith}
use Rattle.std.specs.Vec.Iter.{into_iter_items}
use Rattle.entry_book.specs.Order.{Ascending}
use Rattle.entry_book.specs.Rows.{entry_key}
use Rattle.entry_book.proofs.InOrder.{ascending-with_row}
use Rattle.batch_work.specs.Reads.{is_one_of}
use Rattle.batch_work.specs.WalkStates.{walked}
use Rattle.batch_work.proofs.Ranks.{ascending_met}
use Rattle.batch_work.proofs.FoundEntries.{walked_next}
use Rattle.batch_work.proofs.arrivals.put_arrivals.Goals as goal

pub loop-arrival-preserved : goal.loop-arrival-preserved
loop-arrival-preserved c =
    let e = c.in-Some.arrival in
    let rest = into_iter_items c.next.new.self in
    let before = c.loop-arrival.invariant in
    let put = c.put_arrival.ensures in
    let met = is_one_of e.identity c.loop-arrival.met.items in
    let next = c.in-Some.ensures.steps.0 in
    let count : length (into_iter_items c.loop-arrival.arrival-iterator) ≡ length rest + 1 = omega (arith, ap length next) in
    let met_room = before.met_room in
    let pending_room = before.pending_room in
    let found_room = before.found_room in
    let met_len = put.met_len in
    let pending_len = put.pending_len in
    let found_len = put.found_len in
    record {
      met_order = subst (Ascending (λ id. id)) (sym put.met) (ascending_met met e.identity c.loop-arrival.met.items before.met_order);
      pending_order = subst (Ascending (λ id. id)) (sym put.pending) (ascending_met met e.identity c.loop-arrival.pending.items before.pending_order);
      found_order = subst (Ascending entry_key) (sym put.found) (ascending-with_row entry_key e.id (Some e) c.loop-arrival.found.items before.found_order refl);
      met_room = omega arith;
      pending_room = omega arith;
      found_room = omega arith;
      left = λ agent.
          walked_next agent e rest c.loop-arrival.met.items c.loop-arrival.pending.items c.put_arrival.new.met.items c.put_arrival.new.pending.items c.loop-arrival.found.items c.put_arrival.new.found.items put.met put.pending put.found
          ∙ (ap (λ es. walked es (record { agent = agent; met = c.loop-arrival.met.items; pending = c.loop-arrival.pending.items; found = c.loop-arrival.found.items })) (sym next)
          ∙ before.left agent);
    }
