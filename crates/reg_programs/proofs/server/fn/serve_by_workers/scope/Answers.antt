use Rattle.std.specs.Prelude.{◌≡◌, ◌+◌, ◌<◌, get_or, length, vec_items, vec_len}
use Rattle.std.specs.Vec.Iter.{into_iter_items}
use Rattle.std.proofs.Common.{rules, arith, ap, below_more, inr, List, subst, ◌∙◌}
use Rattle.shared_registry.specs.Seated.{Seated}
use Rattle.reg_programs.specs.Sessions.{Grew}
use Rattle.reg_programs.proofs.Workers.{some_item}
use Rattle.reg_programs.proofs.server.fn.serve_by_workers.scope.Goals as goal

-- The seat that a worker is started with stood first among the rest, so the worker is at its index.
pub loop-seat-preserved : goal.loop-seat-preserved
loop-seat-preserved g c =
    let was = c.loop-seat.invariant in let step = c.in-Some.ensures.steps in let done = vec_len c.loop-seat.workers in
    let places = c.push.ensures.by_index in let seat = c.in-Some.seat in
    let first = into_iter_items c.into_iter-seat-iterator.result in
    let next : (s : Seated) → seat ≡ get_or first done s = λ s. let h = was.1 0 s in grind rules in
    let here : (s : Seated) → c.in-Ok.worker.promise.0.value ≡ get_or first done s = λ s. ap (λ p. p.0.value) c.in-Ok.ensures.ok ∙ c.of.ensures ∙ next s in
    let grown : vec_len c.push.new.self ≡ done + 1 = search rules in (
      search rules,
      (λ k d below. let h = was.1 (k + 1) d in grind rules),
      (λ k w s below. below_more (λ i. (get_or (vec_items c.push.new.self) i w).promise.0.value ≡ get_or first i s) done
          (λ i low. ap (λ x. x.promise.0.value) (places.0 i w low) ∙ was.2 i w s low)
          (ap (λ x. x.promise.0.value) (places.1 w (search rules)) ∙ here s) k (omega arith)),
      search rules,
    )

-- Each seat was given to the worker at its index, and the worker returned it.
pub returns : goal.returns
returns g c =
    let was = c.loop-seat.invariant in let workers = vec_items c.loop-seat.workers in
    let began = c.into_iter-seat-iterator.ensures.into_iter_gives in let domain = g.J.RegistryId.domain in let opening = g.J.RegistryId.first in
    let whole : vec_len c.loop-seat.workers ≡ vec_len c.captures.seats = omega (arith, was.0, c.in-None.ensures.steps.0, c.requires.seats) in
    inr (record {
      count = omega (arith, c.seats_at_end.result.ok.0, c.seats_at_end.ensures.count, whole, c.captures.seats.ok.0);
      grew = λ i s t low.
          let at : i < vec_len c.loop-seat.workers = omega (arith, whole, low, c.captures.seats.ok.0) in
          let within : i < length workers = omega (arith, at, c.loop-seat.workers.ok.0) in
          let w = some_item workers i within in
          subst (λ (x : Seated). Grew opening domain x (get_or (vec_items c.seats_at_end.result) i t)) (was.2 i w s at ∙ ap (λ (items : List Seated). get_or items i s) began.0) (c.seats_at_end.ensures.grew i w t at);
    })
