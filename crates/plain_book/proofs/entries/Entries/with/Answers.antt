use Rattle.std.proofs.Common.{Some, sym, ap, subst, ◌∙◌}
use Rattle.entry_book.specs.Rows.{entry_key}
use Rattle.entry_book.specs.Order.{with_row}
use Rattle.plain_book.specs.Siblings.{IsByParent}
use Rattle.plain_book.proofs.entries.Entries.with.Goals as goal

pub invariant_of-result : goal.invariant_of-result
invariant_of-result c =
    let entry = c.args.entry in
    let rows = rw c.in_ok-by_parent.ensures.1 at c.with.ensures.rows in
    let order = rw c.in_ok-by_parent.ensures.1 at c.with.ensures.order in
    let same = rows ∙ ap (with_row entry_key entry.id (Some entry)) c.self.view_is in (
      order,
      subst (λ l. IsByParent l c.in_ok-by_parent.by_parent) (sym same) (subst (IsByParent (with_row entry_key entry.id (Some entry) c.args.self.now)) (sym c.in_ok-by_parent.ensures.0) c.in_ok-parents.ensures),
    )
