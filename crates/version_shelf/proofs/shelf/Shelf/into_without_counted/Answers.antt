use Rattle.std.proofs.Common.{◌≡◌, ◌+◌, ◌∷◌, None, is_some, length, refl, sym, ap, subst, ◌∙◌, length-append, arith}
use Rattle.version_shelf.specs.Shelf.{ChangesAt, IsInOrder, count_of, get, without_key}
use Rattle.version_shelf.specs.Nodes.{IsCutAt, IsPath, flatten}
use Rattle.version_shelf.proofs.Changed.{changes_without, in_order_without, length_without, without_absent}
use Rattle.version_shelf.proofs.InPlace.{removed_between}
use Rattle.version_shelf.proofs.Shelves.{rows_without_key, if_same, is_some_copied, none_from, same_count}
use Rattle.version_shelf.proofs.shelf.Shelf.into_without_counted.Goals as goal

-- if no row has the key, the rows are the same

pub returns-then-is_none-clause-rows : goal.returns-then-is_none-clause-rows
returns-then-is_none-clause-rows g c =
    let path = c.path_to-path.result in
    let same = ap (λ l. flatten (flatten l)) (c.as_slice.ensures.value ∙ c.in_ok-inners.ensures.inners) ∙ c.self.view_is in
    let order = subst (IsInOrder g.K.Ord.cmp) c.self.view_is c.self.invariant.order in
    let found = c.path_to-path.ensures.value ∙ ap (λ l. get g.K.Ord.cmp l c.args.key.now) same in
    let none = none_from _ (sym (ap is_some found) ∙ sym (is_some_copied path.rows.value) ∙ c.if-is_none.ensures) in
    let gone = same ∙ sym (without_absent g.met.K.Ord.total c.args.key.now c.args.self order none) in
    if_same (flatten (flatten c.in_ok-inners.inners.items)) (λ new. new ≡ without_key g.K.Ord.cmp c.args.self c.args.key.now) (ap (λ l. flatten (flatten l)) (sym c.as_slice.ensures.value) ∙ gone) c.of.result c.of.ensures

pub returns-then-is_none-clause-map : goal.returns-then-is_none-clause-map
returns-then-is_none-clause-map g c =
    let path = c.path_to-path.result in
    let same = ap (λ l. flatten (flatten l)) (c.as_slice.ensures.value ∙ c.in_ok-inners.ensures.inners) ∙ c.self.view_is in
    let order = subst (IsInOrder g.K.Ord.cmp) c.self.view_is c.self.invariant.order in
    let found = c.path_to-path.ensures.value ∙ ap (λ l. get g.K.Ord.cmp l c.args.key.now) same in
    let none = none_from _ (sym (ap is_some found) ∙ sym (is_some_copied path.rows.value) ∙ c.if-is_none.ensures) in
    let gone = same ∙ sym (without_absent g.met.K.Ord.total c.args.key.now c.args.self order none) in
    let rows = ap (λ l. flatten (flatten l)) (sym c.as_slice.ensures.value) ∙ gone in
    if_same (flatten (flatten c.in_ok-inners.inners.items)) (λ new. ChangesAt g.K.Ord.cmp c.args.self new c.args.key.now None) (rw rows (changes_without g.met.K.Ord.total _ _ order)) c.of.result c.of.ensures

-- the path is taken out where the key is

pub remove-requires : goal.remove-requires
remove-requires g c =
    let path = c.path_to-path.result in
    let leads = subst (λ l. IsPath l path.inners.below.now path.inners.at.now path.inners.above.now path.leaves.below.now path.leaves.at.now path.leaves.above.now) c.as_slice.ensures.value c.path_to-path.ensures.leads in
    let taken = c.in_ok-taken.ensures.path path.inners.below.now path.inners.at.now path.inners.above.now path.leaves.below.now path.leaves.at.now path.leaves.above.now leads refl refl in
    let one = subst (λ s. IsCutAt s path.leaves.at.now path.rows.below.now path.rows.above.now) c.if-is_none.ensures c.path_to-path.ensures.whole in
    let cut = taken.2 ∙ one.1 in
    omega (arith, ap length cut, length-append path.rows.below.now (one.0 ∷ path.rows.above.now))

pub put_path_back-requires-clause-inner : goal.put_path_back-requires-clause-inner
put_path_back-requires-clause-inner g c =
    let path = c.path_to-path.result in
    let leads = subst (λ l. IsPath l path.inners.below.now path.inners.at.now path.inners.above.now path.leaves.below.now path.leaves.at.now path.leaves.above.now) c.as_slice.ensures.value c.path_to-path.ensures.leads in
    let taken = c.in_ok-taken.ensures.path path.inners.below.now path.inners.at.now path.inners.above.now path.leaves.below.now path.leaves.at.now path.leaves.above.now leads refl refl in
    omega (arith, c.in_ok-taken.ensures.at_inner, ap length taken.0, length-append path.inners.below.now path.inners.above.now)

pub put_path_back-requires-clause-leaf : goal.put_path_back-requires-clause-leaf
put_path_back-requires-clause-leaf g c =
    let path = c.path_to-path.result in
    let leads = subst (λ l. IsPath l path.inners.below.now path.inners.at.now path.inners.above.now path.leaves.below.now path.leaves.at.now path.leaves.above.now) c.as_slice.ensures.value c.path_to-path.ensures.leads in
    let taken = c.in_ok-taken.ensures.path path.inners.below.now path.inners.at.now path.inners.above.now path.leaves.below.now path.leaves.at.now path.leaves.above.now leads refl refl in
    omega (arith, c.in_ok-taken.ensures.at_leaf, ap length taken.1, length-append path.leaves.below.now path.leaves.above.now)

-- the new rows are the old ones without the row at the key, and they satisfy the invariant

pub of-requires-2-clause-order : goal.of-requires-2-clause-order
of-requires-2-clause-order g c =
    let path = c.path_to-path.result in
    let leads = subst (λ l. IsPath l path.inners.below.now path.inners.at.now path.inners.above.now path.leaves.below.now path.leaves.at.now path.leaves.above.now) c.as_slice.ensures.value c.path_to-path.ensures.leads in
    let taken = c.in_ok-taken.ensures.path path.inners.below.now path.inners.at.now path.inners.above.now path.leaves.below.now path.leaves.at.now path.leaves.above.now leads refl refl in
    let one = subst (λ s. IsCutAt s path.leaves.at.now path.rows.below.now path.rows.above.now) c.if-is_none.ensures c.path_to-path.ensures.whole in
    let cut = taken.2 ∙ one.1 in
    let rows = removed_between c.in_ok-taken.taken.rows.items c.remove.new.self.items path.rows.below.now one.0 path.rows.above.now _ cut refl c.remove.ensures.by_index.2 in
    let long = length-append path.rows.below.now path.rows.above.now in
    let put = c.in_ok-inners-2.ensures.path c.in_ok-inners.inners.items path.inners.below.now path.inners.at.now path.inners.above.now path.leaves.below.now path.leaves.at.now path.leaves.above.now leads (sym c.in_ok-taken.ensures.at_inner) (sym c.in_ok-taken.ensures.at_leaf) taken.0 taken.1 (omega (arith, ap length rows, long, c.path_to-path.ensures.size, leads.cut_leaves.most)) (omega (arith, ap length rows, long, c.path_to-path.ensures.least)) in
    let same = ap (λ l. flatten (flatten l)) (c.as_slice.ensures.value ∙ c.in_ok-inners.ensures.inners) ∙ c.self.view_is in
    let new = rows_without_key g.K.Ord.cmp c.args.key.now c.args.self _ _ _ _ _ _ _ _ put.flat rows c.path_to-path.ensures.below c.path_to-path.ensures.above same in
    let order = subst (IsInOrder g.K.Ord.cmp) c.self.view_is c.self.invariant.order in
    rw new (in_order_without g.met.K.Ord.total _ _ order)

pub of-requires-2-clause-rows : goal.of-requires-2-clause-rows
of-requires-2-clause-rows g c =
    let path = c.path_to-path.result in
    let leads = subst (λ l. IsPath l path.inners.below.now path.inners.at.now path.inners.above.now path.leaves.below.now path.leaves.at.now path.leaves.above.now) c.as_slice.ensures.value c.path_to-path.ensures.leads in
    let taken = c.in_ok-taken.ensures.path path.inners.below.now path.inners.at.now path.inners.above.now path.leaves.below.now path.leaves.at.now path.leaves.above.now leads refl refl in
    let one = subst (λ s. IsCutAt s path.leaves.at.now path.rows.below.now path.rows.above.now) c.if-is_none.ensures c.path_to-path.ensures.whole in
    let cut = taken.2 ∙ one.1 in
    let rows = removed_between c.in_ok-taken.taken.rows.items c.remove.new.self.items path.rows.below.now one.0 path.rows.above.now _ cut refl c.remove.ensures.by_index.2 in
    let long = length-append path.rows.below.now path.rows.above.now in
    let put = c.in_ok-inners-2.ensures.path c.in_ok-inners.inners.items path.inners.below.now path.inners.at.now path.inners.above.now path.leaves.below.now path.leaves.at.now path.leaves.above.now leads (sym c.in_ok-taken.ensures.at_inner) (sym c.in_ok-taken.ensures.at_leaf) taken.0 taken.1 (omega (arith, ap length rows, long, c.path_to-path.ensures.size, leads.cut_leaves.most)) (omega (arith, ap length rows, long, c.path_to-path.ensures.least)) in
    let same = ap (λ l. flatten (flatten l)) (c.as_slice.ensures.value ∙ c.in_ok-inners.ensures.inners) ∙ c.self.view_is in
    let new = rows_without_key g.K.Ord.cmp c.args.key.now c.args.self _ _ _ _ _ _ _ _ put.flat rows c.path_to-path.ensures.below c.path_to-path.ensures.above same in
    let order = subst (IsInOrder g.K.Ord.cmp) c.self.view_is c.self.invariant.order in
    let found = c.path_to-path.ensures.value ∙ ap (λ l. get g.K.Ord.cmp l c.args.key.now) same in
    let count = length_without g.met.K.Ord.total c.args.key.now c.args.self order in
    let is_there = sym (ap is_some found) ∙ sym (is_some_copied path.rows.value) ∙ c.if-is_none.ensures in
    rw new (omega (arith, count, same_count _ _ is_there, c.self.invariant.counted, ap length c.self.view_is))

pub of-requires-2-clause-leaves : goal.of-requires-2-clause-leaves
of-requires-2-clause-leaves g c =
    let path = c.path_to-path.result in
    let leads = subst (λ l. IsPath l path.inners.below.now path.inners.at.now path.inners.above.now path.leaves.below.now path.leaves.at.now path.leaves.above.now) c.as_slice.ensures.value c.path_to-path.ensures.leads in
    let taken = c.in_ok-taken.ensures.path path.inners.below.now path.inners.at.now path.inners.above.now path.leaves.below.now path.leaves.at.now path.leaves.above.now leads refl refl in
    let one = subst (λ s. IsCutAt s path.leaves.at.now path.rows.below.now path.rows.above.now) c.if-is_none.ensures c.path_to-path.ensures.whole in
    let cut = taken.2 ∙ one.1 in
    let rows = removed_between c.in_ok-taken.taken.rows.items c.remove.new.self.items path.rows.below.now one.0 path.rows.above.now _ cut refl c.remove.ensures.by_index.2 in
    let long = length-append path.rows.below.now path.rows.above.now in
    let put = c.in_ok-inners-2.ensures.path c.in_ok-inners.inners.items path.inners.below.now path.inners.at.now path.inners.above.now path.leaves.below.now path.leaves.at.now path.leaves.above.now leads (sym c.in_ok-taken.ensures.at_inner) (sym c.in_ok-taken.ensures.at_leaf) taken.0 taken.1 (omega (arith, ap length rows, long, c.path_to-path.ensures.size, leads.cut_leaves.most)) (omega (arith, ap length rows, long, c.path_to-path.ensures.least)) in
    put.are_leaves

pub of-requires-2-clause-inners : goal.of-requires-2-clause-inners
of-requires-2-clause-inners g c =
    let path = c.path_to-path.result in
    let leads = subst (λ l. IsPath l path.inners.below.now path.inners.at.now path.inners.above.now path.leaves.below.now path.leaves.at.now path.leaves.above.now) c.as_slice.ensures.value c.path_to-path.ensures.leads in
    let taken = c.in_ok-taken.ensures.path path.inners.below.now path.inners.at.now path.inners.above.now path.leaves.below.now path.leaves.at.now path.leaves.above.now leads refl refl in
    let one = subst (λ s. IsCutAt s path.leaves.at.now path.rows.below.now path.rows.above.now) c.if-is_none.ensures c.path_to-path.ensures.whole in
    let cut = taken.2 ∙ one.1 in
    let rows = removed_between c.in_ok-taken.taken.rows.items c.remove.new.self.items path.rows.below.now one.0 path.rows.above.now _ cut refl c.remove.ensures.by_index.2 in
    let long = length-append path.rows.below.now path.rows.above.now in
    let put = c.in_ok-inners-2.ensures.path c.in_ok-inners.inners.items path.inners.below.now path.inners.at.now path.inners.above.now path.leaves.below.now path.leaves.at.now path.leaves.above.now leads (sym c.in_ok-taken.ensures.at_inner) (sym c.in_ok-taken.ensures.at_leaf) taken.0 taken.1 (omega (arith, ap length rows, long, c.path_to-path.ensures.size, leads.cut_leaves.most)) (omega (arith, ap length rows, long, c.path_to-path.ensures.least)) in
    put.are_inners

pub returns-clause-rows : goal.returns-clause-rows
returns-clause-rows g c =
    let path = c.path_to-path.result in
    let leads = subst (λ l. IsPath l path.inners.below.now path.inners.at.now path.inners.above.now path.leaves.below.now path.leaves.at.now path.leaves.above.now) c.as_slice.ensures.value c.path_to-path.ensures.leads in
    let taken = c.in_ok-taken.ensures.path path.inners.below.now path.inners.at.now path.inners.above.now path.leaves.below.now path.leaves.at.now path.leaves.above.now leads refl refl in
    let one = subst (λ s. IsCutAt s path.leaves.at.now path.rows.below.now path.rows.above.now) c.if-is_none.ensures c.path_to-path.ensures.whole in
    let cut = taken.2 ∙ one.1 in
    let rows = removed_between c.in_ok-taken.taken.rows.items c.remove.new.self.items path.rows.below.now one.0 path.rows.above.now _ cut refl c.remove.ensures.by_index.2 in
    let long = length-append path.rows.below.now path.rows.above.now in
    let put = c.in_ok-inners-2.ensures.path c.in_ok-inners.inners.items path.inners.below.now path.inners.at.now path.inners.above.now path.leaves.below.now path.leaves.at.now path.leaves.above.now leads (sym c.in_ok-taken.ensures.at_inner) (sym c.in_ok-taken.ensures.at_leaf) taken.0 taken.1 (omega (arith, ap length rows, long, c.path_to-path.ensures.size, leads.cut_leaves.most)) (omega (arith, ap length rows, long, c.path_to-path.ensures.least)) in
    let same = ap (λ l. flatten (flatten l)) (c.as_slice.ensures.value ∙ c.in_ok-inners.ensures.inners) ∙ c.self.view_is in
    let new = rows_without_key g.K.Ord.cmp c.args.key.now c.args.self _ _ _ _ _ _ _ _ put.flat rows c.path_to-path.ensures.below c.path_to-path.ensures.above same in
    if_same (flatten (flatten c.in_ok-inners-2.inners.items)) (λ new. new ≡ without_key g.K.Ord.cmp c.args.self c.args.key.now) new c.of-2.result c.of-2.ensures

pub returns-clause-map : goal.returns-clause-map
returns-clause-map g c =
    let path = c.path_to-path.result in
    let leads = subst (λ l. IsPath l path.inners.below.now path.inners.at.now path.inners.above.now path.leaves.below.now path.leaves.at.now path.leaves.above.now) c.as_slice.ensures.value c.path_to-path.ensures.leads in
    let taken = c.in_ok-taken.ensures.path path.inners.below.now path.inners.at.now path.inners.above.now path.leaves.below.now path.leaves.at.now path.leaves.above.now leads refl refl in
    let one = subst (λ s. IsCutAt s path.leaves.at.now path.rows.below.now path.rows.above.now) c.if-is_none.ensures c.path_to-path.ensures.whole in
    let cut = taken.2 ∙ one.1 in
    let rows = removed_between c.in_ok-taken.taken.rows.items c.remove.new.self.items path.rows.below.now one.0 path.rows.above.now _ cut refl c.remove.ensures.by_index.2 in
    let long = length-append path.rows.below.now path.rows.above.now in
    let put = c.in_ok-inners-2.ensures.path c.in_ok-inners.inners.items path.inners.below.now path.inners.at.now path.inners.above.now path.leaves.below.now path.leaves.at.now path.leaves.above.now leads (sym c.in_ok-taken.ensures.at_inner) (sym c.in_ok-taken.ensures.at_leaf) taken.0 taken.1 (omega (arith, ap length rows, long, c.path_to-path.ensures.size, leads.cut_leaves.most)) (omega (arith, ap length rows, long, c.path_to-path.ensures.least)) in
    let same = ap (λ l. flatten (flatten l)) (c.as_slice.ensures.value ∙ c.in_ok-inners.ensures.inners) ∙ c.self.view_is in
    let new = rows_without_key g.K.Ord.cmp c.args.key.now c.args.self _ _ _ _ _ _ _ _ put.flat rows c.path_to-path.ensures.below c.path_to-path.ensures.above same in
    let order = subst (IsInOrder g.K.Ord.cmp) c.self.view_is c.self.invariant.order in
    if_same (flatten (flatten c.in_ok-inners-2.inners.items)) (λ new. ChangesAt g.K.Ord.cmp c.args.self new c.args.key.now None) (rw new (changes_without g.met.K.Ord.total _ _ order)) c.of-2.result c.of-2.ensures

pub returns-clause-count : goal.returns-clause-count
returns-clause-count g c =
    let path = c.path_to-path.result in
    let leads = subst (λ l. IsPath l path.inners.below.now path.inners.at.now path.inners.above.now path.leaves.below.now path.leaves.at.now path.leaves.above.now) c.as_slice.ensures.value c.path_to-path.ensures.leads in
    let taken = c.in_ok-taken.ensures.path path.inners.below.now path.inners.at.now path.inners.above.now path.leaves.below.now path.leaves.at.now path.leaves.above.now leads refl refl in
    let one = subst (λ s. IsCutAt s path.leaves.at.now path.rows.below.now path.rows.above.now) c.if-is_none.ensures c.path_to-path.ensures.whole in
    let cut = taken.2 ∙ one.1 in
    let rows = removed_between c.in_ok-taken.taken.rows.items c.remove.new.self.items path.rows.below.now one.0 path.rows.above.now _ cut refl c.remove.ensures.by_index.2 in
    let long = length-append path.rows.below.now path.rows.above.now in
    let put = c.in_ok-inners-2.ensures.path c.in_ok-inners.inners.items path.inners.below.now path.inners.at.now path.inners.above.now path.leaves.below.now path.leaves.at.now path.leaves.above.now leads (sym c.in_ok-taken.ensures.at_inner) (sym c.in_ok-taken.ensures.at_leaf) taken.0 taken.1 (omega (arith, ap length rows, long, c.path_to-path.ensures.size, leads.cut_leaves.most)) (omega (arith, ap length rows, long, c.path_to-path.ensures.least)) in
    let same = ap (λ l. flatten (flatten l)) (c.as_slice.ensures.value ∙ c.in_ok-inners.ensures.inners) ∙ c.self.view_is in
    let new = rows_without_key g.K.Ord.cmp c.args.key.now c.args.self _ _ _ _ _ _ _ _ put.flat rows c.path_to-path.ensures.below c.path_to-path.ensures.above same in
    let order = subst (IsInOrder g.K.Ord.cmp) c.self.view_is c.self.invariant.order in
    if_same (flatten (flatten c.in_ok-inners-2.inners.items)) (λ new. length new + count_of g.K.Ord.cmp c.args.self c.args.key.now ≡ length c.args.self) (rw new (length_without g.met.K.Ord.total _ _ order)) c.of-2.result c.of-2.ensures
