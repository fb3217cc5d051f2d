use Rattle.std.proofs.Common.{None, sym, ap, subst, ◌∙◌}
use Rattle.entry_book.specs.Rows.{entry_key}
use Rattle.entry_book.specs.Order.{with_row}
use Rattle.plain_book.specs.Siblings.{IsByParent}
use Rattle.plain_book.proofs.entries.Entries.without.Goals as goal

pub invariant_of-result : goal.invariant_of-result
invariant_of-result c =
    let id = c.args.id.now in
    let rows = rw c.in_ok-by_parent.ensures.1 at c.without-rest.ensures.rows in
    let order = rw c.in_ok-by_parent.ensures.1 at c.without-rest.ensures.order in
    let same = rows ∙ (ap (λ k. with_row entry_key k None c.self.inside.by_id) (c.as_slice.ensures ∙ c.as_bytes.ensures) ∙ ap (with_row entry_key id None) c.self.view_is) in (
      order,
      subst (λ l. IsByParent l c.in_ok-by_parent.by_parent) (sym same) (subst (IsByParent (with_row entry_key id None c.args.self.now)) (sym c.in_ok-by_parent.ensures.0) c.in_ok-parents.ensures.by_parent),
    )
