use Rattle.std.proofs.Common.{◌≡◌, Option, Some, None}
use Rattle.std.specs.Prelude.{IsSome}
use Rattle.entry_book.specs.declared.reply.Reply.{Reply}
use Rattle.shared_registry.proofs.Settled.{settled_is, settled_no_conflict, settled_submitted}
use Rattle.shared_registry.proofs.registry.outcome_of_settled.Goals as goal

none_here : (o : Option Reply) → IsSome o → o ≡ None → ⊥
none_here None s e = cc
none_here (Some x) s e = cc

pub unreachable-requires : goal.unreachable-requires
unreachable-requires g c =
    let settled = settled_is g.J.RegistryId.first g.J.RegistryId.domain c.args.seat.now.seen c.args.work.batch c.args.work c.requires.read c.requires.unready in
    none_here c.into_reply.result (c.into_reply.ensures.settled.1 settled) c.in_default.is

pub returns-clause-over : goal.returns-clause-over
returns-clause-over g c = rw (c.of.ensures) (settled_no_conflict c.in-Some.reply.outcome c.in-Some.reply)

pub returns-clause-answer : goal.returns-clause-answer
returns-clause-answer g c =
    rw (c.of.ensures) (settled_submitted g.J.RegistryId.first g.J.RegistryId.domain c.args.seat.now c.args.work.batch c.args.work c.in-Some.reply c.requires.read c.requires.unready c.place-place.ensures.lawful c.requires.changes c.in-Some.ensures.answer)
