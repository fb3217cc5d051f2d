use Rattle.std.proofs.Common.{◌≡◌, ◌∷◌, ◌++◌, [], sym, ap, ◌∙◌, arith}
use Rattle.shared_registry.proofs.Calls.{below_own, calls_length, count_more, own_more}
use Rattle.shared_registry.proofs.seat.Seat.see_own.Goals as goal

pub overflow_add-self : goal.overflow_add-self
overflow_add-self g c =
    let is = c.self.view_is in
    let prefix : c.args.prefix ≡ c.self.inside.view.seen ++ c.args.item.now ∷ [] = c.requires.seen ∙ ap (λ s. s.seen ++ c.args.item.now ∷ []) (sym is) in
    let more = count_more c.self.inside.view.number c.args.prefix c.self.inside.view.seen c.args.item.now prefix (c.requires.seat ∙ sym (ap (λ s. s.number) is)) in
    let most = calls_length c.self.inside.view.number c.args.prefix in
    let count = c.self.invariant.1 in
    let long = c.len-items.ensures.length in
    let fits = c.len-items.type_inv in
    omega arith

pub invariant_of-self : goal.invariant_of-self
invariant_of-self g c =
    let i = c.self.invariant in
    let is = c.self.view_is in
    let prefix : c.args.prefix ≡ c.self.inside.view.seen ++ c.args.item.now ∷ [] = c.requires.seen ∙ ap (λ s. s.seen ++ c.args.item.now ∷ []) (sym is) in
    let seat = c.requires.seat ∙ sym (ap (λ s. s.number) is) in
    let more = count_more c.self.inside.view.number c.args.prefix c.self.inside.view.seen c.args.item.now prefix seat in
    (i.0, omega (arith, more, i.1), below_own _ c.self.inside.view.number c.args.prefix c.self.inside.view.seen c.args.item.now prefix seat (c.requires.call ∙ sym (ap (λ s. s.calls) is)) i.2, i.3, i.4)

pub returns-clause-own : goal.returns-clause-own
returns-clause-own g c =
    let is = c.self.view_is in
    let prefix : c.args.prefix ≡ c.self.inside.view.seen ++ c.args.item.now ∷ [] = c.requires.seen ∙ ap (λ s. s.seen ++ c.args.item.now ∷ []) (sym is) in
    let seat = c.requires.seat ∙ sym (ap (λ s. s.number) is) in
    own_more c.self.inside.view.number c.args.prefix c.self.inside.view.seen c.args.item.now prefix seat ∙ (ap (λ s. s.own ++ c.args.item.now.call ∷ []) is ∙ ap (λ k. c.args.self.now.own ++ k ∷ []) c.requires.call)
