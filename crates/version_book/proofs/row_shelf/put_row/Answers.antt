use Rattle.std.proofs.Common.{◌≡◌, IfOk, ap, subst, ◌∙◌}
use Rattle.version_shelf.specs.Shelf.{with_key}
use Rattle.version_book.proofs.Shelves.{with_after_without}
use Rattle.version_book.proofs.row_shelf.put_row.Goals as goal

pub returns : goal.returns
returns g c =
    let cmp = g.K.Ord.cmp in
    let same = ap (λ s. with_key cmp s c.args.key c.args.row) c.in_ok-into_without.ensures.rows ∙ with_after_without cmp c.args.key c.args.row c.args.shelf in
    subst (λ rows. IfOk c.into_with-2.result (λ more. more ≡ rows)) same c.into_with-2.ensures.rows
