use Rattle.std.proofs.Common.{◌≡◌, ◌++◌, ◌∷◌, [], length, length-append, sym, ◌∙◌, ap, arith}
use Rattle.commit_head.specs.Journals.{IsLawfulJournal}
use Rattle.shared_registry.specs.Rules.{items_of}
use Rattle.shared_registry.specs.RulesPrivate.{right_after}
use Rattle.shared_registry.proofs.Appending.{appends_moves, items_join, items_length, right_more}
use Rattle.shared_registry.proofs.history.History.append.Goals as goal

pub compare_exchange-self-inside-requires : goal.compare_exchange-self-inside-requires
compare_exchange-self-inside-requires g c =
    let i = c.self.invariant in
    let offer = c.plain-offer.ensures in
    let home = sym (ap (λ w. w.book) i.0) in
    let items : c.self.inside.items ≡ length c.self.inside.seen.log = i.6 ∙ items_length c.self.inside.seen.log in (
      ap (λ w. w.tracked) i.0,
      i.2 ∙ home,
      i.3 ∙ home,
      offer.0,
      rw (ap (λ w. w.key) i.0, offer.3) (appends_moves c.self.inside.seen.log c.self.inside.pen.nib c.plain-offer.result.ask c.self.inside.items items i.4 i.5),
    )

pub invariant_of-self : goal.invariant_of-self
invariant_of-self g c =
    let i = c.self.invariant in
    let e = c.compare_exchange-self-inside.ensures in
    let offer = c.plain-offer.ensures in
    let old = c.self.inside.seen.log in
    let whole : items_of c.compare_exchange-self-inside.new.seen.log ≡ items_of old ++ c.args.item.now ∷ [] = ap items_of e.7 ∙ (items_join old (c.plain-offer.result.ask ∷ []) ∙ ap (λ e. items_of old ++ e.item ∷ []) offer.1) in
    let lawful : IsLawfulJournal g.J.RegistryId.first g.J.RegistryId.domain (items_of old ++ c.args.item.now ∷ []) = rw c.self.view_is c.requires.lawful in (
      i.0,
      i.1,
      e.0 ∙ i.2,
      c.make_pen-found.ensures.book ∙ i.2,
      c.make_pen-found.ensures.right,
      sym (ap (right_after 2) e.7 ∙ (right_more 2 old c.plain-offer.result.ask ∙ ap (λ e. e.next) offer.1)),
      (let l = ap length whole in let n = length-append (items_of old) (c.args.item.now ∷ []) in let k = i.6 in omega arith),
      rw whole lawful,
    )

pub returns : goal.returns
returns g c =
    let e = c.compare_exchange-self-inside.ensures in
    let old = c.self.inside.seen.log in
    ap items_of e.7 ∙ (items_join old (c.plain-offer.result.ask ∷ []) ∙ (ap (λ e. items_of old ++ e.item ∷ []) c.plain-offer.ensures.1 ∙ ap (λ l. l ++ c.args.item.now ∷ []) c.self.view_is))
