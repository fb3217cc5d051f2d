use Rattle.std.proofs.Common.{ap, sym, ◌∙◌}
use Rattle.shared_registry.proofs.Appending.{makes_moves}
use Rattle.shared_registry.proofs.history.make_pen.Goals as goal

pub compare_exchange-found-requires : goal.compare_exchange-found-requires
compare_exchange-found-requires c =
    let h = c.requires in
    let offer = c.plain-offer.ensures in
    let pen = c.no_pen-pen.ensures in
    let book = ap (λ s. s.book) c.again-seen.ensures ∙ sym (ap (λ w. w.book) h) in (
      ap (λ w. w.tracked) h,
      book,
      pen.0 ∙ book,
      offer.0,
      rw (ap (λ w. w.key) h, pen.1, offer.3) (makes_moves c.again-seen.result.log c.plain-offer.result.ask),
    )
