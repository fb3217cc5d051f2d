use Rattle.std.proofs.Common.{◌≡◌, drop}
use Rattle.shared_registry.proofs.commit.append.Given as goal

abbrev pub invariant-loop : goal.invariant-loop
invariant-loop g l = record {
  steps : (goal.iterator-loop g).can_next l.iterator' × (goal.iterator-loop g).is_finite l.iterator';
  shown : l.writer.desk.shown.value ≡ l.initial.writer.desk.shown.value;
  pending : drop l.writer.behind l.writer.log.items ≡ drop l.initial.writer.behind l.initial.writer.log.items;
  next : l.next ≡ l.initial.next;
}
