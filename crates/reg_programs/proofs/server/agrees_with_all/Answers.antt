use Rattle.std.specs.Prelude.{◌≡◌, get_or}
use Rattle.std.proofs.Common.{arith, below_more, subst, ◌∙◌}
use Rattle.std.proofs.lemmas.List.{get_or_default}
use Rattle.shared_registry.specs.OneList.{AreOneList}
use Rattle.shared_registry.specs.Seated.{Seated}
use Rattle.reg_programs.proofs.server.agrees_with_all.Goals as goal

-- The law speaks of the seat at the next index.
pub loop-other-preserved : goal.loop-other-preserved
loop-other-preserved g c = λ i s below.
    let seats = c.args.seats.now in let n = c.loop-other.other-index in let one = c.args.seat.now.seen in
    let other = c.other-item.result in
    let at : other ≡ get_or seats n s = c.other-item.is ∙ get_or_default seats n other s c.loop-other-test.true in
    below_more (λ k. AreOneList one (get_or seats k s).seen) n (λ k low. c.loop-other.invariant k s low)
    (subst (λ (x : Seated). AreOneList one x.seen) at c.one_list.ensures) i (omega arith)
