use Rattle.std.proofs.Common.{◌≡◌, ◌+◌, Some, is_some, length, ap, ◌∙◌, arith}
use Rattle.version_shelf.specs.Shelf.{ChangesAt, count_of, get, with_key}
use Rattle.version_shelf.specs.Nodes.{flatten}
use Rattle.version_shelf.proofs.Changed.{changes_with, in_order_with, length_with}
use Rattle.version_shelf.proofs.Shelves.{rows_with_key, if_same, is_some_copied, same_count}
use Rattle.version_shelf.proofs.shelf.Shelf.with_counted.Goals as goal

-- the new rows are the old ones with this one, and they satisfy the invariant

pub of-requires-clause-order : goal.of-requires-clause-order
of-requires-clause-order g c =
    let new = rows_with_key g.K.Ord.cmp c.args.key c.args.self.now _ _ _ _ _ _ _ _ c.args.value c.in_ok-row.row c.in_ok-inners.ensures.rows c.in_ok-rows.ensures.rows c.in_ok-row.ensures c.path_to-path.ensures.below c.path_to-path.ensures.above c.inners.ensures.rows in
    rw new (in_order_with g.met.K.Ord.total _ _ _ c.inners.ensures.order)

pub of-requires-clause-rows : goal.of-requires-clause-rows
of-requires-clause-rows g c =
    let new = rows_with_key g.K.Ord.cmp c.args.key c.args.self.now _ _ _ _ _ _ _ _ c.args.value c.in_ok-row.row c.in_ok-inners.ensures.rows c.in_ok-rows.ensures.rows c.in_ok-row.ensures c.path_to-path.ensures.below c.path_to-path.ensures.above c.inners.ensures.rows in
    let count = length_with g.met.K.Ord.total c.args.key c.args.value c.args.self.now c.inners.ensures.order in
    let found = c.path_to-path.ensures.value ∙ ap (λ l. get g.K.Ord.cmp l c.args.key) c.inners.ensures.rows in
    rw new (omega (arith, count, c.len_with-len.ensures, same_count _ _ (is_some_copied c.path_to-path.result.rows.value ∙ ap is_some found), c.self.invariant.counted, ap length c.self.view_is))

pub returns-clause-rows : goal.returns-clause-rows
returns-clause-rows g c =
    let new = rows_with_key g.K.Ord.cmp c.args.key c.args.self.now _ _ _ _ _ _ _ _ c.args.value c.in_ok-row.row c.in_ok-inners.ensures.rows c.in_ok-rows.ensures.rows c.in_ok-row.ensures c.path_to-path.ensures.below c.path_to-path.ensures.above c.inners.ensures.rows in
    if_same (flatten (flatten c.in_ok-inners.inners.items)) (λ new. new ≡ with_key g.K.Ord.cmp c.args.self.now c.args.key c.args.value) new c.of.result c.of.ensures

pub returns-clause-map : goal.returns-clause-map
returns-clause-map g c =
    let new = rows_with_key g.K.Ord.cmp c.args.key c.args.self.now _ _ _ _ _ _ _ _ c.args.value c.in_ok-row.row c.in_ok-inners.ensures.rows c.in_ok-rows.ensures.rows c.in_ok-row.ensures c.path_to-path.ensures.below c.path_to-path.ensures.above c.inners.ensures.rows in
    if_same (flatten (flatten c.in_ok-inners.inners.items)) (λ new. ChangesAt g.K.Ord.cmp c.args.self.now new c.args.key (Some c.args.value)) (rw new (changes_with g.met.K.Ord.total _ _ _ c.inners.ensures.order)) c.of.result c.of.ensures

pub returns-clause-count : goal.returns-clause-count
returns-clause-count g c =
    let new = rows_with_key g.K.Ord.cmp c.args.key c.args.self.now _ _ _ _ _ _ _ _ c.args.value c.in_ok-row.row c.in_ok-inners.ensures.rows c.in_ok-rows.ensures.rows c.in_ok-row.ensures c.path_to-path.ensures.below c.path_to-path.ensures.above c.inners.ensures.rows in
    if_same (flatten (flatten c.in_ok-inners.inners.items)) (λ new. length new + count_of g.K.Ord.cmp c.args.self.now c.args.key ≡ length c.args.self.now + 1) (rw new (length_with g.met.K.Ord.total _ _ _ c.inners.ensures.order)) c.of.result c.of.ensures
