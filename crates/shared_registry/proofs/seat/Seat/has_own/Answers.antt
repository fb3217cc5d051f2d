use Rattle.std.proofs.Common.{refl, subst, sym}
use mathlib.Core.List.{IsPrefix}
use Rattle.shared_registry.specs.Seated.{Seated}
use Rattle.shared_registry.proofs.Calls.{same_by_count}
use Rattle.shared_registry.proofs.seat.Seat.has_own.Goals as goal

pub returns : goal.returns
returns g c =
    let journal = c.args.published.now.journal in
    let seen : IsPrefix c.self.inside.view.seen journal = subst (λ (s : Seated). IsPrefix s.seen journal) (sym c.self.view_is) c.requires.seen in
    rw (← c.self.view_is) (same_by_count c.self.inside.view.number _ _ c.self.inside.view.seen journal seen c.count.ensures c.self.invariant.1 _ refl)
