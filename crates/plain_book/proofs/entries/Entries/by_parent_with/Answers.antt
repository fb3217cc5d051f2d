use Rattle.std.proofs.Common.{None, refl, subst}
use Rattle.std.proofs.lemmas.Result.{IfOk-weaker}
use Rattle.entry_book.specs.Rows.{entry_key}
use Rattle.entry_book.specs.Order.{with_row}
use Rattle.entry_book.proofs.InOrder.{ascending-with_row}
use Rattle.plain_book.specs.Siblings.{IsByParent}
use Rattle.plain_book.proofs.Parents.{added, none_left, put_twice, siblings_ascend}
use Rattle.plain_book.proofs.entries.Entries.by_parent_with.Goals as goal

pub with_sibling-requires : goal.with_sibling-requires
with_sibling-requires c =
    let entry = c.args.entry.now in
    let rest = with_row entry_key entry.id None c.args.self.now in
    let others = subst (λ k. IsByParent (with_row entry_key k None c.args.self.now) c.in_ok-others.others) c.id.ensures c.in_ok-others.ensures.by_parent in
    record {
      order = others.order;
      entries = siblings_ascend entry.parent rest c.in_ok-others.others (ascending-with_row entry_key entry.id None c.args.self.now c.in_ok-others.ensures.order tt) others;
    }

pub returns : goal.returns
returns c =
    let entry = c.args.entry.now in
    let rest = with_row entry_key entry.id None c.args.self.now in
    let order = ascending-with_row entry_key entry.id None c.args.self.now c.in_ok-others.ensures.order tt in
    let others = subst (λ k. IsByParent (with_row entry_key k None c.args.self.now) c.in_ok-others.others) c.id.ensures c.in_ok-others.ensures.by_parent in
    IfOk-weaker c.with_sibling.result _ _ (λ new h.
    subst (λ l. IsByParent l new) (put_twice entry.id entry c.args.self.now c.in_ok-others.ensures.order refl)
    (added rest c.in_ok-others.others new entry order others (none_left entry.id c.args.self.now) h)) c.with_sibling.ensures
