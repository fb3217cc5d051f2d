use Rattle.std.specs.Prelude.{◌≡◌, ◌+◌, get_or, vec_items, vec_len}
use Rattle.std.specs.Vec.Iter.{into_iter_items}
use Rattle.std.proofs.Common.{rules, arith, below_more, sym, subst}
use Rattle.shared_registry.specs.Seated.{Seated}
use Rattle.reg_programs.specs.Sessions.{Grew}
use Rattle.reg_programs.proofs.server.seats_at_end.Goals as goal

-- The worker that is joined stood first among the rest, so its seat is at the next index.
pub loop-worker-preserved : goal.loop-worker-preserved
loop-worker-preserved g c =
    let was = c.loop-worker.invariant in let step = c.in-Some.ensures.steps in let done = vec_len c.loop-worker.seats in
    let places = c.push.ensures.by_index in let worker = c.in-Some.worker in
    let first = into_iter_items c.into_iter-worker-iterator.result in let domain = g.J.RegistryId.domain in let opening = g.J.RegistryId.first in
    let next : (w : _) → worker ≡ get_or first done w = λ w. let h = was.1 0 w in grind rules in
    let here : (w : _) → Grew opening domain (get_or first done w).promise.0.value c.join.result = λ w. subst (λ x. Grew opening domain x.promise.0.value c.join.result) (next w) c.join.ensures in
    let grown : vec_len c.push.new.self ≡ done + 1 = search rules in (
      search rules,
      (λ k d below. let h = was.1 (k + 1) d in grind rules),
      (λ k w s below. below_more (λ i. Grew opening domain (get_or first i w).promise.0.value (get_or (vec_items c.push.new.self) i s)) done
          (λ i low. subst (λ (x : Seated). Grew opening domain (get_or first i w).promise.0.value x) (sym (places.0 i s low)) (was.2 i w s low))
          (subst (λ (x : Seated). Grew opening domain (get_or first done w).promise.0.value x) (sym (places.1 s (search rules))) (here w)) k (omega arith)),
      search rules,
    )
