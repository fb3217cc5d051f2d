use Rattle.std.proofs.Common.{sym}
use Rattle.call_machine.proofs.Changed.{call_found, call_missing, rests_found}
use Rattle.call_machine.proofs.machine.Machine.call.Goals as goal

pub known-requires : goal.known-requires
known-requires c = record { answered = (rests_found c.args.number c.self.invariant (sym c.in-Some.ensures.value)).answered }

pub returns-in-Some : goal.returns-in-Some
returns-in-Some c = rw (← c.self.view_is, call_found c.args.number c.self.invariant (sym c.in-Some.ensures.value)) (c.known.ensures c.args.number)

pub returns-in-None : goal.returns-in-None
returns-in-None c = rw (← c.self.view_is, call_missing c.args.number c.self.invariant (sym c.in-None.ensures.value)) tt
