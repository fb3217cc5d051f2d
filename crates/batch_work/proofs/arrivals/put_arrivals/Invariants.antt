use Rattle.std.proofs.Common.{◌≡◌, ◌≤◌, ◌+◌, length}
use Rattle.std.specs.Prelude.{vec_len}
use Rattle.std.specs.Vec.{vec_capacity}
use Rattle.std.specs.Vec.Iter.{into_iter_items}
use Rattle.entry_book.specs.declared.agent.Agent.{Agent}
use Rattle.entry_book.specs.Order.{Ascending}
use Rattle.entry_book.specs.Rows.{entry_key}
use Rattle.batch_work.specs.WalkStates.{walked}
use Rattle.batch_work.proofs.arrivals.put_arrivals.Given as goal

abbrev pub invariant-loop-arrival : goal.invariant-loop-arrival
invariant-loop-arrival l = record {
  met_order : Ascending (λ id. id) l.met.items;
  pending_order : Ascending (λ id. id) l.pending.items;
  found_order : Ascending entry_key l.found.items;
  met_room : vec_len l.met + length (into_iter_items l.arrival-iterator) ≤ vec_capacity l.met;
  pending_room : vec_len l.pending + length (into_iter_items l.arrival-iterator) ≤ vec_capacity l.pending;
  found_room : vec_len l.found + length (into_iter_items l.arrival-iterator) ≤ vec_capacity l.found;
  left : (agent : Agent) → walked (into_iter_items l.arrival-iterator) (record { agent = agent; met = l.met.items; pending = l.pending.items; found = l.found.items }) ≡ walked l.fn.arrivals.items (record { agent = agent; met = l.fn.met.items; pending = l.fn.pending.items; found = l.fn.found.items });
}
