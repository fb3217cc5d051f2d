use Rattle.std.proofs.Common.{sym, subst}
use Rattle.std.proofs.lemmas.Result.{IfOk-weaker, MatchResult-weaker}
use Rattle.entry_book.specs.Rows.{entry_key}
use Rattle.entry_book.proofs.Keys.{at_row}
use Rattle.plain_book.specs.Siblings.{IsByParent}
use Rattle.plain_book.proofs.Parents.{none_gone, removed, siblings_ascend}
use Rattle.plain_book.proofs.entries.Entries.by_parent_without.Goals as goal

pub without_sibling-requires : goal.without_sibling-requires
without_sibling-requires c = record {
  order = c.self.invariant.1.order;
  entries = siblings_ascend c.in-Some.old.now.parent c.self.inside.by_id c.self.inside.by_parent c.self.invariant.0 c.self.invariant.1;
}

pub returns-in-Some-clause-by_parent : goal.returns-in-Some-clause-by_parent
returns-in-Some-clause-by_parent c =
    let es = c.args.self.now in
    let old = c.in-Some.old.now in
    let order = rw c.self.view_is at c.self.invariant.0 in
    let by_parent = subst (λ l. IsByParent l c.self.inside.by_parent) c.self.view_is c.self.invariant.1 in
    let found = at_row entry_key c.args.id.now es old (sym c.in-Some.ensures) in
    IfOk-weaker c.without_sibling.result _ _ (λ new h. removed es c.self.inside.by_parent new old c.args.id.now order by_parent found.0 found.1 h) c.without_sibling.ensures

pub returns-in-None-clause-by_parent : goal.returns-in-None-clause-by_parent
returns-in-None-clause-by_parent c =
    let es = c.args.self.now in
    let order = rw c.self.view_is at c.self.invariant.0 in
    let by_parent = subst (λ l. IsByParent l c.self.inside.by_parent) c.self.view_is c.self.invariant.1 in
    MatchResult-weaker c.clone.result c.clone.ensures.cases (λ new h. none_gone c.args.id.now es c.self.inside.by_parent new order by_parent c.in-None.ensures h) (λ e h. tt)
