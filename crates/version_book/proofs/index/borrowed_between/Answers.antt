use Rattle.std.proofs.Common.{◌≡◌, ◌++◌, map, sym, ap, ◌∙◌, rules}
use Rattle.std.proofs.lemmas.List.{append-nil}
use Rattle.std.proofs.lemmas.List.Sorted.{answers_always}
use Rattle.version_shelf.specs.Shelf.{rows_between}
use Rattle.entry_book.specs.Rows.{entry_key}
use Rattle.version_book.proofs.Found.{entry_of, found_is}
use Rattle.version_book.proofs.index.borrowed_between.Goals as goal

pub returns : goal.returns
returns g c = λ keys_of rows p index covers ascending.
    let reads : c.loop-row.found.items ≡ map entry_of (rows_between g.K.Ord.cmp c.args.index.now (g.L.Bound.position c.args.lo.now) (g.H.Bound.position c.args.hi.now)) =
    sym (append-nil c.loop-row.found.items) ∙ (ap (λ l. c.loop-row.found.items ++ map entry_of l) (sym c.in-None.ensures.steps.0) ∙ c.loop-row.invariant) in
    let order = rw c.range-row-items.ensures.rows at c.range-row-items.ensures.order in
    found_is g.met.K.Ord.total keys_of rows c.args.index.now index ascending (g.L.Bound.position c.args.lo.now) (g.H.Bound.position c.args.hi.now) p covers
    order c.loop-row.found.items c.sort_by_key.new.self.items reads c.in_ok-sort_by_key.ensures.permutation
    (c.in_ok-sort_by_key.ensures.sorted entry_key (answers_always _ _ _ (λ f a r q k. search rules)))
