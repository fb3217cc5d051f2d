use Rattle.reg_programs.proofs.Growing.{grew_on, grew_same}
use Rattle.reg_programs.proofs.server.work.Goals as goal

pub loop-init : goal.loop-init
loop-init g c = grew_same g.J.RegistryId.first g.J.RegistryId.domain c.args.seat

pub loop-preserved : goal.loop-preserved
loop-preserved g c = grew_on g.J.RegistryId.first g.J.RegistryId.domain _ _ _ c.loop.invariant c.attend-seat.ensures
