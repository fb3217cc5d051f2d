use Rattle.std.proofs.Common.{◌≡◌, ◌<◌, length}
use mathlib.Core.List.{IsPrefix}
use Rattle.commit_head.specs.Journals.{place_after}
use Rattle.shared_registry.specs.Outcomes.{WasOvertaken}
use Rattle.shared_registry.specs.Seated.{DuringCall}
use Rattle.shared_registry.proofs.registry.Registry.submit.Given as goal

-- each try so far met a conflict, and the seat has no new call of its own
abbrev pub invariant-loop : goal.invariant-loop
invariant-loop g l = record {
  during_call : DuringCall l.initial.seat l.seat;
  own : l.seat.own ≡ l.initial.seat.own;
  batch : l.batch ≡ l.initial.batch;
  place : 0 < l.counter → l.place ≡ place_after g.J.RegistryId.first l.seat.seen;
  tries : WasOvertaken g.J.RegistryId.first l.initial.seat l.seat l.batch l.counter (length l.seat.seen);
  seen_learnt : 0 < l.counter → IsPrefix l.seat.learnt l.seat.seen;
}
