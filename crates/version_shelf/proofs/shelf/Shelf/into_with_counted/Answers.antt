use Rattle.std.proofs.Common.{◌≡◌, ◌+◌, ◌∷◌, Some, is_some, length, refl, sym, ap, subst, ◌∙◌, length-append, arith}
use Rattle.version_shelf.specs.Shelf.{ChangesAt, IsInOrder, count_of, get, with_key}
use Rattle.version_shelf.specs.Nodes.{IsCutAt, IsPath, flatten}
use Rattle.version_shelf.proofs.Changed.{changes_with, in_order_with, length_with}
use Rattle.version_shelf.proofs.Shelves.{rows_with_key, if_same, is_some_copied, same_count}
use Rattle.version_shelf.proofs.shelf.Shelf.into_with_counted.Goals as goal

-- the path is taken out where the key belongs

pub put_row_at-requires : goal.put_row_at-requires
put_row_at-requires g c =
    let path = c.path_to-path.result in
    let leads = subst (λ l. IsPath l path.inners.below.now path.inners.at.now path.inners.above.now path.leaves.below.now path.leaves.at.now path.leaves.above.now) c.as_slice.ensures.value c.path_to-path.ensures.leads in
    let taken = c.in_ok-taken.ensures.path path.inners.below.now path.inners.at.now path.inners.above.now path.leaves.below.now path.leaves.at.now path.leaves.above.now leads refl refl in
    let cut = subst (λ s. IsCutAt s c.in_ok-taken.taken.rows.items path.rows.below.now path.rows.above.now) (sym c.is_some-is_there.ensures) (subst (λ l. IsCutAt (is_some path.rows.value) l path.rows.below.now path.rows.above.now) (sym taken.2) c.path_to-path.ensures.whole) in
    record { cut = (path.rows.below.now, path.rows.above.now, cut, refl) }

pub put_path_back-requires-clause-inner : goal.put_path_back-requires-clause-inner
put_path_back-requires-clause-inner g c =
    let path = c.path_to-path.result in
    let leads = subst (λ l. IsPath l path.inners.below.now path.inners.at.now path.inners.above.now path.leaves.below.now path.leaves.at.now path.leaves.above.now) c.as_slice.ensures.value c.path_to-path.ensures.leads in
    let taken = c.in_ok-taken.ensures.path path.inners.below.now path.inners.at.now path.inners.above.now path.leaves.below.now path.leaves.at.now path.leaves.above.now leads refl refl in
    omega (arith, c.in_ok-taken.ensures.at_inner, ap length taken.0, length-append path.inners.below.now path.inners.above.now)

pub put_path_back-requires-clause-leaf : goal.put_path_back-requires-clause-leaf
put_path_back-requires-clause-leaf g c =
    let path = c.path_to-path.result in
    let leads = subst (λ l. IsPath l path.inners.below.now path.inners.at.now path.inners.above.now path.leaves.below.now path.leaves.at.now path.leaves.above.now) c.as_slice.ensures.value c.path_to-path.ensures.leads in
    let taken = c.in_ok-taken.ensures.path path.inners.below.now path.inners.at.now path.inners.above.now path.leaves.below.now path.leaves.at.now path.leaves.above.now leads refl refl in
    omega (arith, c.in_ok-taken.ensures.at_leaf, ap length taken.1, length-append path.leaves.below.now path.leaves.above.now)

-- the new rows are the old ones with this one, and they satisfy the invariant

pub of-requires-clause-order : goal.of-requires-clause-order
of-requires-clause-order g c =
    let path = c.path_to-path.result in
    let leads = subst (λ l. IsPath l path.inners.below.now path.inners.at.now path.inners.above.now path.leaves.below.now path.leaves.at.now path.leaves.above.now) c.as_slice.ensures.value c.path_to-path.ensures.leads in
    let taken = c.in_ok-taken.ensures.path path.inners.below.now path.inners.at.now path.inners.above.now path.leaves.below.now path.leaves.at.now path.leaves.above.now leads refl refl in
    let cut = subst (λ s. IsCutAt s c.in_ok-taken.taken.rows.items path.rows.below.now path.rows.above.now) (sym c.is_some-is_there.ensures) (subst (λ l. IsCutAt (is_some path.rows.value) l path.rows.below.now path.rows.above.now) (sym taken.2) c.path_to-path.ensures.whole) in
    let rows = c.in_ok-put_row_at.ensures path.rows.below.now path.rows.above.now cut refl in
    let long = length-append path.rows.below.now (c.in_ok-row.row ∷ path.rows.above.now) in
    let put = c.in_ok-inners-2.ensures.path c.in_ok-inners.inners.items path.inners.below.now path.inners.at.now path.inners.above.now path.leaves.below.now path.leaves.at.now path.leaves.above.now leads (sym c.in_ok-taken.ensures.at_inner) (sym c.in_ok-taken.ensures.at_leaf) taken.0 taken.1 (omega (arith, ap length rows, long, c.path_to-path.ensures.size, leads.cut_leaves.most)) (omega (arith, ap length rows, long, c.path_to-path.ensures.least)) in
    let same = ap (λ l. flatten (flatten l)) (c.as_slice.ensures.value ∙ c.in_ok-inners.ensures.inners) ∙ c.self.view_is in
    let new = rows_with_key g.K.Ord.cmp c.args.key c.args.self _ _ _ _ _ _ _ _ c.args.value c.in_ok-row.row put.flat rows c.in_ok-row.ensures c.path_to-path.ensures.below c.path_to-path.ensures.above same in
    let order = subst (IsInOrder g.K.Ord.cmp) c.self.view_is c.self.invariant.order in
    rw new (in_order_with g.met.K.Ord.total _ _ _ order)

pub of-requires-clause-rows : goal.of-requires-clause-rows
of-requires-clause-rows g c =
    let path = c.path_to-path.result in
    let leads = subst (λ l. IsPath l path.inners.below.now path.inners.at.now path.inners.above.now path.leaves.below.now path.leaves.at.now path.leaves.above.now) c.as_slice.ensures.value c.path_to-path.ensures.leads in
    let taken = c.in_ok-taken.ensures.path path.inners.below.now path.inners.at.now path.inners.above.now path.leaves.below.now path.leaves.at.now path.leaves.above.now leads refl refl in
    let cut = subst (λ s. IsCutAt s c.in_ok-taken.taken.rows.items path.rows.below.now path.rows.above.now) (sym c.is_some-is_there.ensures) (subst (λ l. IsCutAt (is_some path.rows.value) l path.rows.below.now path.rows.above.now) (sym taken.2) c.path_to-path.ensures.whole) in
    let rows = c.in_ok-put_row_at.ensures path.rows.below.now path.rows.above.now cut refl in
    let long = length-append path.rows.below.now (c.in_ok-row.row ∷ path.rows.above.now) in
    let put = c.in_ok-inners-2.ensures.path c.in_ok-inners.inners.items path.inners.below.now path.inners.at.now path.inners.above.now path.leaves.below.now path.leaves.at.now path.leaves.above.now leads (sym c.in_ok-taken.ensures.at_inner) (sym c.in_ok-taken.ensures.at_leaf) taken.0 taken.1 (omega (arith, ap length rows, long, c.path_to-path.ensures.size, leads.cut_leaves.most)) (omega (arith, ap length rows, long, c.path_to-path.ensures.least)) in
    let same = ap (λ l. flatten (flatten l)) (c.as_slice.ensures.value ∙ c.in_ok-inners.ensures.inners) ∙ c.self.view_is in
    let new = rows_with_key g.K.Ord.cmp c.args.key c.args.self _ _ _ _ _ _ _ _ c.args.value c.in_ok-row.row put.flat rows c.in_ok-row.ensures c.path_to-path.ensures.below c.path_to-path.ensures.above same in
    let order = subst (IsInOrder g.K.Ord.cmp) c.self.view_is c.self.invariant.order in
    let count = length_with g.met.K.Ord.total c.args.key c.args.value c.args.self order in
    let found = c.path_to-path.ensures.value ∙ ap (λ l. get g.K.Ord.cmp l c.args.key) same in
    rw new (omega (arith, count, c.len_with-len.ensures, same_count _ _ (is_some_copied path.rows.value ∙ ap is_some found), c.self.invariant.counted, ap length c.self.view_is))

pub of-requires-clause-leaves : goal.of-requires-clause-leaves
of-requires-clause-leaves g c =
    let path = c.path_to-path.result in
    let leads = subst (λ l. IsPath l path.inners.below.now path.inners.at.now path.inners.above.now path.leaves.below.now path.leaves.at.now path.leaves.above.now) c.as_slice.ensures.value c.path_to-path.ensures.leads in
    let taken = c.in_ok-taken.ensures.path path.inners.below.now path.inners.at.now path.inners.above.now path.leaves.below.now path.leaves.at.now path.leaves.above.now leads refl refl in
    let cut = subst (λ s. IsCutAt s c.in_ok-taken.taken.rows.items path.rows.below.now path.rows.above.now) (sym c.is_some-is_there.ensures) (subst (λ l. IsCutAt (is_some path.rows.value) l path.rows.below.now path.rows.above.now) (sym taken.2) c.path_to-path.ensures.whole) in
    let rows = c.in_ok-put_row_at.ensures path.rows.below.now path.rows.above.now cut refl in
    let long = length-append path.rows.below.now (c.in_ok-row.row ∷ path.rows.above.now) in
    let put = c.in_ok-inners-2.ensures.path c.in_ok-inners.inners.items path.inners.below.now path.inners.at.now path.inners.above.now path.leaves.below.now path.leaves.at.now path.leaves.above.now leads (sym c.in_ok-taken.ensures.at_inner) (sym c.in_ok-taken.ensures.at_leaf) taken.0 taken.1 (omega (arith, ap length rows, long, c.path_to-path.ensures.size, leads.cut_leaves.most)) (omega (arith, ap length rows, long, c.path_to-path.ensures.least)) in
    put.are_leaves

pub of-requires-clause-inners : goal.of-requires-clause-inners
of-requires-clause-inners g c =
    let path = c.path_to-path.result in
    let leads = subst (λ l. IsPath l path.inners.below.now path.inners.at.now path.inners.above.now path.leaves.below.now path.leaves.at.now path.leaves.above.now) c.as_slice.ensures.value c.path_to-path.ensures.leads in
    let taken = c.in_ok-taken.ensures.path path.inners.below.now path.inners.at.now path.inners.above.now path.leaves.below.now path.leaves.at.now path.leaves.above.now leads refl refl in
    let cut = subst (λ s. IsCutAt s c.in_ok-taken.taken.rows.items path.rows.below.now path.rows.above.now) (sym c.is_some-is_there.ensures) (subst (λ l. IsCutAt (is_some path.rows.value) l path.rows.below.now path.rows.above.now) (sym taken.2) c.path_to-path.ensures.whole) in
    let rows = c.in_ok-put_row_at.ensures path.rows.below.now path.rows.above.now cut refl in
    let long = length-append path.rows.below.now (c.in_ok-row.row ∷ path.rows.above.now) in
    let put = c.in_ok-inners-2.ensures.path c.in_ok-inners.inners.items path.inners.below.now path.inners.at.now path.inners.above.now path.leaves.below.now path.leaves.at.now path.leaves.above.now leads (sym c.in_ok-taken.ensures.at_inner) (sym c.in_ok-taken.ensures.at_leaf) taken.0 taken.1 (omega (arith, ap length rows, long, c.path_to-path.ensures.size, leads.cut_leaves.most)) (omega (arith, ap length rows, long, c.path_to-path.ensures.least)) in
    put.are_inners

pub returns-clause-rows : goal.returns-clause-rows
returns-clause-rows g c =
    let path = c.path_to-path.result in
    let leads = subst (λ l. IsPath l path.inners.below.now path.inners.at.now path.inners.above.now path.leaves.below.now path.leaves.at.now path.leaves.above.now) c.as_slice.ensures.value c.path_to-path.ensures.leads in
    let taken = c.in_ok-taken.ensures.path path.inners.below.now path.inners.at.now path.inners.above.now path.leaves.below.now path.leaves.at.now path.leaves.above.now leads refl refl in
    let cut = subst (λ s. IsCutAt s c.in_ok-taken.taken.rows.items path.rows.below.now path.rows.above.now) (sym c.is_some-is_there.ensures) (subst (λ l. IsCutAt (is_some path.rows.value) l path.rows.below.now path.rows.above.now) (sym taken.2) c.path_to-path.ensures.whole) in
    let rows = c.in_ok-put_row_at.ensures path.rows.below.now path.rows.above.now cut refl in
    let long = length-append path.rows.below.now (c.in_ok-row.row ∷ path.rows.above.now) in
    let put = c.in_ok-inners-2.ensures.path c.in_ok-inners.inners.items path.inners.below.now path.inners.at.now path.inners.above.now path.leaves.below.now path.leaves.at.now path.leaves.above.now leads (sym c.in_ok-taken.ensures.at_inner) (sym c.in_ok-taken.ensures.at_leaf) taken.0 taken.1 (omega (arith, ap length rows, long, c.path_to-path.ensures.size, leads.cut_leaves.most)) (omega (arith, ap length rows, long, c.path_to-path.ensures.least)) in
    let same = ap (λ l. flatten (flatten l)) (c.as_slice.ensures.value ∙ c.in_ok-inners.ensures.inners) ∙ c.self.view_is in
    let new = rows_with_key g.K.Ord.cmp c.args.key c.args.self _ _ _ _ _ _ _ _ c.args.value c.in_ok-row.row put.flat rows c.in_ok-row.ensures c.path_to-path.ensures.below c.path_to-path.ensures.above same in
    if_same (flatten (flatten c.in_ok-inners-2.inners.items)) (λ new. new ≡ with_key g.K.Ord.cmp c.args.self c.args.key c.args.value) new c.of.result c.of.ensures

pub returns-clause-map : goal.returns-clause-map
returns-clause-map g c =
    let path = c.path_to-path.result in
    let leads = subst (λ l. IsPath l path.inners.below.now path.inners.at.now path.inners.above.now path.leaves.below.now path.leaves.at.now path.leaves.above.now) c.as_slice.ensures.value c.path_to-path.ensures.leads in
    let taken = c.in_ok-taken.ensures.path path.inners.below.now path.inners.at.now path.inners.above.now path.leaves.below.now path.leaves.at.now path.leaves.above.now leads refl refl in
    let cut = subst (λ s. IsCutAt s c.in_ok-taken.taken.rows.items path.rows.below.now path.rows.above.now) (sym c.is_some-is_there.ensures) (subst (λ l. IsCutAt (is_some path.rows.value) l path.rows.below.now path.rows.above.now) (sym taken.2) c.path_to-path.ensures.whole) in
    let rows = c.in_ok-put_row_at.ensures path.rows.below.now path.rows.above.now cut refl in
    let long = length-append path.rows.below.now (c.in_ok-row.row ∷ path.rows.above.now) in
    let put = c.in_ok-inners-2.ensures.path c.in_ok-inners.inners.items path.inners.below.now path.inners.at.now path.inners.above.now path.leaves.below.now path.leaves.at.now path.leaves.above.now leads (sym c.in_ok-taken.ensures.at_inner) (sym c.in_ok-taken.ensures.at_leaf) taken.0 taken.1 (omega (arith, ap length rows, long, c.path_to-path.ensures.size, leads.cut_leaves.most)) (omega (arith, ap length rows, long, c.path_to-path.ensures.least)) in
    let same = ap (λ l. flatten (flatten l)) (c.as_slice.ensures.value ∙ c.in_ok-inners.ensures.inners) ∙ c.self.view_is in
    let new = rows_with_key g.K.Ord.cmp c.args.key c.args.self _ _ _ _ _ _ _ _ c.args.value c.in_ok-row.row put.flat rows c.in_ok-row.ensures c.path_to-path.ensures.below c.path_to-path.ensures.above same in
    let order = subst (IsInOrder g.K.Ord.cmp) c.self.view_is c.self.invariant.order in
    if_same (flatten (flatten c.in_ok-inners-2.inners.items)) (λ new. ChangesAt g.K.Ord.cmp c.args.self new c.args.key (Some c.args.value)) (rw new (changes_with g.met.K.Ord.total _ _ _ order)) c.of.result c.of.ensures

pub returns-clause-count : goal.returns-clause-count
returns-clause-count g c =
    let path = c.path_to-path.result in
    let leads = subst (λ l. IsPath l path.inners.below.now path.inners.at.now path.inners.above.now path.leaves.below.now path.leaves.at.now path.leaves.above.now) c.as_slice.ensures.value c.path_to-path.ensures.leads in
    let taken = c.in_ok-taken.ensures.path path.inners.below.now path.inners.at.now path.inners.above.now path.leaves.below.now path.leaves.at.now path.leaves.above.now leads refl refl in
    let cut = subst (λ s. IsCutAt s c.in_ok-taken.taken.rows.items path.rows.below.now path.rows.above.now) (sym c.is_some-is_there.ensures) (subst (λ l. IsCutAt (is_some path.rows.value) l path.rows.below.now path.rows.above.now) (sym taken.2) c.path_to-path.ensures.whole) in
    let rows = c.in_ok-put_row_at.ensures path.rows.below.now path.rows.above.now cut refl in
    let long = length-append path.rows.below.now (c.in_ok-row.row ∷ path.rows.above.now) in
    let put = c.in_ok-inners-2.ensures.path c.in_ok-inners.inners.items path.inners.below.now path.inners.at.now path.inners.above.now path.leaves.below.now path.leaves.at.now path.leaves.above.now leads (sym c.in_ok-taken.ensures.at_inner) (sym c.in_ok-taken.ensures.at_leaf) taken.0 taken.1 (omega (arith, ap length rows, long, c.path_to-path.ensures.size, leads.cut_leaves.most)) (omega (arith, ap length rows, long, c.path_to-path.ensures.least)) in
    let same = ap (λ l. flatten (flatten l)) (c.as_slice.ensures.value ∙ c.in_ok-inners.ensures.inners) ∙ c.self.view_is in
    let new = rows_with_key g.K.Ord.cmp c.args.key c.args.self _ _ _ _ _ _ _ _ c.args.value c.in_ok-row.row put.flat rows c.in_ok-row.ensures c.path_to-path.ensures.below c.path_to-path.ensures.above same in
    let order = subst (IsInOrder g.K.Ord.cmp) c.self.view_is c.self.invariant.order in
    if_same (flatten (flatten c.in_ok-inners-2.inners.items)) (λ new. length new + count_of g.K.Ord.cmp c.args.self c.args.key ≡ length c.args.self + 1) (rw new (length_with g.met.K.Ord.total _ _ _ order)) c.of.result c.of.ensures
