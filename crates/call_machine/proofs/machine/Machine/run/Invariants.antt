use Rattle.std.proofs.Common.{◌≡◌, ◌≤◌, ◌++◌, length, vec_len}
use Rattle.std.specs.Prelude.{vec_capacity}
use Rattle.std.specs.Vec.Iter.{into_iter_items}
use Rattle.call_machine.specs.Machine.{Runs}
use Rattle.call_machine.proofs.machine.Machine.run.Given as goal

abbrev pub invariant-loop-event : goal.invariant-loop-event
invariant-loop-event l = record {
  can_next : (goal.iterator-loop-event).can_next l.event-iterator;
  is_finite : (goal.iterator-loop-event).is_finite l.event-iterator;
  ran : Runs l.fn.self l.yielded l.answers.items l.self;
  front : l.yielded ++ into_iter_items l.event-iterator ≡ l.fn.events.items;
  logged : vec_len l.answers ≡ length l.yielded;
  room : length l.fn.events.items ≤ vec_capacity l.answers;
  domain : l.self.domain ≡ l.fn.self.domain;
}
