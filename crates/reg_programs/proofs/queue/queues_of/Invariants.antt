use Rattle.std.proofs.Common.{◌≡◌, vec_len}
use Rattle.reg_programs.proofs.queue.queues_of.Given as goal

-- a queue for each worker so far
abbrev pub invariant-loop : goal.invariant-loop
invariant-loop l = vec_len l.queues ≡ l.counter
