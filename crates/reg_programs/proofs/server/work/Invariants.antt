use Rattle.reg_programs.specs.Sessions.{Grew}
use Rattle.reg_programs.proofs.server.work.Given as goal

-- the seat, after the sessions so far
abbrev pub invariant-loop : goal.invariant-loop
invariant-loop g l = Grew g.J.RegistryId.first g.J.RegistryId.domain l.initial.seat l.seat
