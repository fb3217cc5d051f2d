use Rattle.std.proofs.Common.{◌≡◌, List, length, sym, ◌∙◌, ap, subst}
use mathlib.Core.List.{IsPrefix}
use Rattle.shared_registry.specs.declared.entry.HistoryEntry.{HistoryEntry}
use Rattle.shared_registry.proofs.Appending.{items_length, looks_moves, seen_whole}
use Rattle.shared_registry.proofs.history.History.has_all.Goals as goal

pub compare_exchange-requires : goal.compare_exchange-requires
compare_exchange-requires g c =
    let i = c.self.invariant in
    let offer = c.plain-offer.ensures in
    let home = sym (ap (λ w. w.book) i.0) in
    let items : c.self.inside.items ≡ length c.self.inside.seen.log = i.6 ∙ items_length c.self.inside.seen.log in
    let this : IsPrefix c.self.inside.seen.log c.learn.new.self.log = subst (λ (l : List HistoryEntry). IsPrefix l c.learn.new.self.log) (ap (λ s. s.log) c.again-both.ensures) c.learn.ensures.2 in (
      ap (λ w. w.tracked) i.0,
      c.learn.ensures.0 ∙ (ap (λ s. s.book) c.again-both.ensures ∙ (i.2 ∙ home)),
      i.3 ∙ home,
      offer.0,
      rw (ap (λ w. w.key) i.0, offer.3) (looks_moves c.self.inside.seen.log c.learn.new.self.log c.self.inside.pen.nib c.plain-offer.result.ask c.self.inside.items items this i.4 i.5),
    )

pub invariant_of-self : goal.invariant_of-self
invariant_of-self g c =
    let i = c.self.invariant in
    let e = c.compare_exchange.ensures in
    (i.0, i.1, i.2, e.5 ∙ i.3, ap (λ p. p.right) e.7.1 ∙ i.4, ap (λ p. p.key) e.7.1 ∙ i.5, i.6, i.7)

pub returns-clause-all : goal.returns-clause-all
returns-clause-all g c =
    let e = c.compare_exchange.ensures in
    let log = c.self.inside.seen.log in
    let both = c.learn.new.self.log in
    let this : IsPrefix log both = subst (λ (l : List HistoryEntry). IsPrefix l both) (ap (λ s. s.log) c.again-both.ensures) c.learn.ensures.2 in
    let long : length c.compare_exchange.new.seen.log ≡ length log = e.7.0 ∙ (c.self.invariant.6 ∙ items_length log) in
    rw (← c.self.view_is, ← c.prefix.view_is) (seen_whole log c.prefix.inside.seen.log both c.compare_exchange.new.seen.log this c.learn.ensures.3 e.6 long)
