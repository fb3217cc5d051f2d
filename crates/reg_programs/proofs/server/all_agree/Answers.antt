use Rattle.std.specs.Prelude.{◌≡◌, get_or}
use Rattle.std.proofs.Common.{arith, below_more, subst, ◌∙◌}
use Rattle.std.proofs.lemmas.List.{get_or_default}
use Rattle.shared_registry.specs.OneList.{AreOneList}
use Rattle.shared_registry.specs.Seated.{Seated}
use Rattle.reg_programs.proofs.server.all_agree.Goals as goal

-- The seat at the next index agrees with each.
pub loop-seat-preserved : goal.loop-seat-preserved
loop-seat-preserved g c = λ i j s t below low.
    let seats = c.args.seats.now in let n = c.loop-seat.seat-index in let seat = c.seat-item.result in
    let at : seat ≡ get_or seats n s = c.seat-item.is ∙ get_or_default seats n seat s c.loop-seat-test.true in
    below_more (λ k. AreOneList (get_or seats k s).seen (get_or seats j t).seen) n (λ k under. c.loop-seat.invariant k j s t under low)
    (subst (λ (x : Seated). AreOneList x.seen (get_or seats j t).seen) at (c.agrees_with_all.ensures j t low)) i (omega arith)

pub returns : goal.returns
returns g c = λ i j s t low more. c.loop-seat.invariant i j s t (omega arith) more
