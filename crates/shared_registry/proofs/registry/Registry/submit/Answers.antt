use Rattle.std.proofs.Common.{◌+◌, ◌∙◌, length, sym, ap, subst, arith}
use mathlib.Core.List.{IsPrefix}
use Rattle.shared_registry.specs.Outcomes.{WasOvertaken}
use Rattle.shared_registry.specs.Seated.{Seated}
use Rattle.shared_registry.proofs.Tries.{conflict_took, during_call_joined, once_again}
use Rattle.shared_registry.proofs.registry.Registry.submit.Goals as goal

pub loop-preserved : goal.loop-preserved
loop-preserved g c =
    let i = c.loop.invariant in
    let e = c.in-Err.ensures in
    let once = e.tried.1 in record {
      during_call = during_call_joined c.take_call.new.self c.loop.seat c.attempt.new.seat i.during_call e.during_call;
      own = once.own ∙ i.own;
      batch = e.tried.0 ∙ i.batch;
      place = λ _. once.place;
      tries = subst (λ b. WasOvertaken g.J.RegistryId.first c.take_call.new.self c.attempt.new.seat b (c.loop.counter + 1) (length c.attempt.new.seat.seen)) (sym e.tried.0)
          (once_again g.J.RegistryId.first c.take_call.new.self c.loop.seat c.attempt.new.seat c.loop.batch c.loop.counter c.in-Err.end i.tries i.during_call.seen i.during_call.learnt e.during_call.seen once);
      seen_learnt = λ _. subst (λ l. IsPrefix l c.attempt.new.seat.seen) (sym e.during_call.learnt) once.seen_learnt;
    }

pub returns-clause-commits : goal.returns-clause-commits
returns-clause-commits g c n is =
    let i = c.loop.invariant in
    let took = conflict_took g.J.RegistryId.first c.take_call.new.self c.loop.seat c.loop.batch c.loop.counter c.loop.place i.tries i.during_call.seen n is in
    let same = ap (λ (s : Seated). length s.seen) c.take_call.ensures.taken in
    omega (arith, took, same, c.loop-test.false, c.loop.auto.counter-end)
