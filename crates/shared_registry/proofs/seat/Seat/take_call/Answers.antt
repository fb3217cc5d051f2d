use Rattle.std.proofs.Common.{arith}
use Rattle.shared_registry.proofs.Calls.{below_more}
use Rattle.shared_registry.proofs.seat.Seat.take_call.Goals as goal

pub invariant_of-self : goal.invariant_of-self
invariant_of-self g c =
    let i = c.self.invariant in
    (i.0, i.1, below_more _ _ _ (omega arith) i.2, i.3, i.4)
