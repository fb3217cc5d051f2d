use Rattle.std.proofs.Common.{◌≡◌, ◌∙◌, IfSome, subst, sym}
use Rattle.version_shelf.proofs.Above.{equal_from}
use Rattle.version_book.proofs.RowRanks.{equal}
use Rattle.version_book.proofs.overlay.is_keyed.Goals as goal

pub returns-in-Some : goal.returns-in-Some
returns-in-Some g c = λ is.
    let same = equal c.key.result.now c.args.key.now (sym c.cmp.ensures ∙ equal_from _ (sym c.is_eq.ensures ∙ is)) in
    subst (λ row. IfSome row (λ row. g.T.BookRow.key row ≡ c.args.key.now)) (sym c.in-Some.is) (sym c.key.ensures ∙ same)
