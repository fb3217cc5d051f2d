use Rattle.std.proofs.Common.{◌≡◌, vec_len}
use Rattle.reg_programs.proofs.server.seats_of.Given as goal

-- a seat for each worker so far
abbrev pub invariant-loop : goal.invariant-loop
invariant-loop g l = vec_len l.seats ≡ l.counter
