use Rattle.std.proofs.Common.{◌≡◌, ◌+◌, ◌++◌}
use Rattle.std.specs.Prelude.{reverse, vec_capacity, vec_len}
use Rattle.commit_head.proofs.head.move_last.Given as goal

abbrev pub invariant-loop : goal.invariant-loop
invariant-loop l = record {
  moved : l.from.items ++ reverse l.to.items ≡ l.initial.from.items;
  more : vec_len l.to ≡ l.counter;
  less : vec_len l.from + l.counter ≡ vec_len l.initial.from;
  room : vec_capacity l.to ≡ vec_capacity l.initial.to;
  capacity : vec_capacity l.from ≡ vec_capacity l.initial.from;
}
