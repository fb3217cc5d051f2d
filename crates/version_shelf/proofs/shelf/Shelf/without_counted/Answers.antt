use Rattle.std.proofs.Common.{◌≡◌, ◌+◌, None, is_some, length, sym, ap, ◌∙◌, arith}
use Rattle.version_shelf.specs.Shelf.{ChangesAt, count_of, get, without_key}
use Rattle.version_shelf.specs.Nodes.{flatten}
use Rattle.version_shelf.proofs.Changed.{changes_without, in_order_without, length_without, without_absent}
use Rattle.version_shelf.proofs.Shelves.{rows_without_key, if_same, match_same, is_some_copied, none_from, same_count}
use Rattle.version_shelf.proofs.shelf.Shelf.without_counted.Goals as goal

-- the new rows are the old ones without the row at the key, and they satisfy the invariant

pub of-requires-clause-order : goal.of-requires-clause-order
of-requires-clause-order g c =
    let new = rows_without_key g.K.Ord.cmp c.args.key.now c.args.self.now _ _ _ _ _ _ _ _ c.in_ok-inners.ensures.rows c.in_ok-rows.ensures.rows c.path_to-path.ensures.below c.path_to-path.ensures.above c.inners.ensures.rows in
    rw new (in_order_without g.met.K.Ord.total _ _ c.inners.ensures.order)

pub of-requires-clause-rows : goal.of-requires-clause-rows
of-requires-clause-rows g c =
    let new = rows_without_key g.K.Ord.cmp c.args.key.now c.args.self.now _ _ _ _ _ _ _ _ c.in_ok-inners.ensures.rows c.in_ok-rows.ensures.rows c.path_to-path.ensures.below c.path_to-path.ensures.above c.inners.ensures.rows in
    let count = length_without g.met.K.Ord.total c.args.key.now c.args.self.now c.inners.ensures.order in
    let found = c.path_to-path.ensures.value ∙ ap (λ l. get g.K.Ord.cmp l c.args.key.now) c.inners.ensures.rows in
    let one = sym (ap is_some found) ∙ sym (is_some_copied c.path_to-path.result.rows.value) ∙ c.if-is_none.ensures in
    rw new (omega (arith, count, same_count _ _ one, c.self.invariant.counted, ap length c.self.view_is))

pub returns-clause-rows : goal.returns-clause-rows
returns-clause-rows g c =
    let new = rows_without_key g.K.Ord.cmp c.args.key.now c.args.self.now _ _ _ _ _ _ _ _ c.in_ok-inners.ensures.rows c.in_ok-rows.ensures.rows c.path_to-path.ensures.below c.path_to-path.ensures.above c.inners.ensures.rows in
    if_same (flatten (flatten c.in_ok-inners.inners.items)) (λ new. new ≡ without_key g.K.Ord.cmp c.args.self.now c.args.key.now) new c.of.result c.of.ensures

pub returns-clause-map : goal.returns-clause-map
returns-clause-map g c =
    let new = rows_without_key g.K.Ord.cmp c.args.key.now c.args.self.now _ _ _ _ _ _ _ _ c.in_ok-inners.ensures.rows c.in_ok-rows.ensures.rows c.path_to-path.ensures.below c.path_to-path.ensures.above c.inners.ensures.rows in
    if_same (flatten (flatten c.in_ok-inners.inners.items)) (λ new. ChangesAt g.K.Ord.cmp c.args.self.now new c.args.key.now None) (rw new (changes_without g.met.K.Ord.total _ _ c.inners.ensures.order)) c.of.result c.of.ensures

pub returns-clause-count : goal.returns-clause-count
returns-clause-count g c =
    let new = rows_without_key g.K.Ord.cmp c.args.key.now c.args.self.now _ _ _ _ _ _ _ _ c.in_ok-inners.ensures.rows c.in_ok-rows.ensures.rows c.path_to-path.ensures.below c.path_to-path.ensures.above c.inners.ensures.rows in
    if_same (flatten (flatten c.in_ok-inners.inners.items)) (λ new. length new + count_of g.K.Ord.cmp c.args.self.now c.args.key.now ≡ length c.args.self.now) (rw new (length_without g.met.K.Ord.total _ _ c.inners.ensures.order)) c.of.result c.of.ensures

-- if no row has the key, the rows are the same

pub returns-then-is_none-clause-rows : goal.returns-then-is_none-clause-rows
returns-then-is_none-clause-rows g c =
    let found = c.path_to-path.ensures.value ∙ ap (λ l. get g.K.Ord.cmp l c.args.key.now) c.inners.ensures.rows in
    let none = none_from _ (sym (ap is_some found) ∙ sym (is_some_copied c.path_to-path.result.rows.value) ∙ c.if-is_none.ensures) in
    match_same c.args.self.now (λ new. new ≡ without_key g.K.Ord.cmp c.args.self.now c.args.key.now) (sym (without_absent g.met.K.Ord.total c.args.key.now c.args.self.now c.inners.ensures.order none)) _ c.clone.result c.clone.ensures.cases
