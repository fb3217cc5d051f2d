-- The path from the root to a key, and the shelf after the rows of its leaf changed.
use Rattle.std.proofs.Common.{◌≡◌, ◌+◌, ◌<◌, List, [], ◌∷◌, ◌++◌, length, Result, Ok, Err, sym, ap, ◌∙◌, append-nil, append_assoc, length-append, arith}
use Rattle.std.specs.declared.cmp.Ordering.{Ordering}
use Rattle.std.specs.Ordering.{is_lt}
use Rattle.std.specs.Cmp.{IsTotalOrder}
use Rattle.std.specs.Result.{IfOk}
use Rattle.version_shelf.specs.Shelf.{IsInOrder, get, rows_below, rows_above}
use Rattle.version_shelf.specs.Nodes.{AreFullNodes, AreNodes, Cuts, CutsAt, flatten, last_passes, least_leaves, least_rows}
use Rattle.version_shelf.proofs.Around.{inners_joined, leaves_order, leaf_order, leaves_around, inners_around, below_around, above_around, get_around}
use Rattle.version_shelf.proofs.Flat.{flatten-append, full_append, full_front, full_back, full_from_nodes, nodes_from_full}

module _ {K V : Type 0} {cmp : K → K → Ordering} (o : IsTotalOrder cmp) (key : K) (inners inners_below : List (List (List (K × V)))) (leaves : List (List (K × V))) (inners_above : List (List (List (K × V)))) (cuts : Cuts least_leaves inners inners_below leaves inners_above) (at : CutsAt (last_passes (λ row. is_lt (cmp row.0 key))) inners_below leaves inners_above) (sorted : IsInOrder cmp (flatten (flatten inners))) (nodes : AreNodes least_rows (flatten inners)) where
  module _ (below : List (List (K × V))) (rows : List (K × V)) (above : List (List (K × V))) (leaf_cuts : Cuts least_rows leaves below rows above) (leaf_at : CutsAt (λ row. is_lt (cmp row.0 key)) below rows above) where
    order : IsInOrder cmp (flatten leaves)
    order = leaves_order o key inners inners_below leaves inners_above cuts at sorted nodes

    pub path_order : IsInOrder cmp rows
    path_order = leaf_order o key leaves below rows above leaf_cuts leaf_at order

    pub path_below : (found : List (K × V)) → found ≡ rows_below cmp rows key → flatten (flatten inners_below) ++ (flatten below ++ found) ≡ rows_below cmp (flatten (flatten inners)) key
    path_below found is = sym (
        ap (λ l. rows_below cmp l key) (inners_joined o key inners inners_below leaves inners_above cuts at sorted nodes)
        ∙ below_around o key (flatten (flatten inners_below)) (flatten leaves) (flatten (flatten inners_above)) (inners_around o key inners inners_below leaves inners_above cuts at sorted nodes)
        ∙ ap (λ l. flatten (flatten inners_below) ++ l) (
        ap (λ l. rows_below cmp l key) leaf_cuts.joined
        ∙ below_around o key (flatten below) rows (flatten above) (leaves_around o key leaves below rows above leaf_cuts leaf_at order)
        ∙ ap (λ l. flatten below ++ l) (sym is)))

    pub path_above : (found : List (K × V)) → found ≡ rows_above cmp rows key → found ++ (flatten above ++ flatten (flatten inners_above)) ≡ rows_above cmp (flatten (flatten inners)) key
    path_above found is = sym (
        ap (λ l. rows_above cmp l key) (inners_joined o key inners inners_below leaves inners_above cuts at sorted nodes)
        ∙ above_around o key (flatten (flatten inners_below)) (flatten leaves) (flatten (flatten inners_above)) (inners_around o key inners inners_below leaves inners_above cuts at sorted nodes)
        ∙ ap (λ l. l ++ flatten (flatten inners_above)) (
        ap (λ l. rows_above cmp l key) leaf_cuts.joined
        ∙ above_around o key (flatten below) rows (flatten above) (leaves_around o key leaves below rows above leaf_cuts leaf_at order)
        ∙ ap (λ l. l ++ flatten above) (sym is))
        ∙ append_assoc found (flatten above) (flatten (flatten inners_above)))

    pub path_value : get cmp rows key ≡ get cmp (flatten (flatten inners)) key
    path_value = sym (
        ap (λ l. get cmp l key) (inners_joined o key inners inners_below leaves inners_above cuts at sorted nodes)
        ∙ get_around o key (flatten (flatten inners_below)) (flatten leaves) (flatten (flatten inners_above)) (inners_around o key inners inners_below leaves inners_above cuts at sorted nodes)
        ∙ ap (λ l. get cmp l key) leaf_cuts.joined
        ∙ get_around o key (flatten below) rows (flatten above) (leaves_around o key leaves below rows above leaf_cuts leaf_at order))

-- ---- the rows of the leaf change, and so do the leaves of its inner node

module _ {X : Type 0} (inners inners_below : List (List (List X))) (leaves : List (List X)) (inners_above : List (List (List X))) where
  -- if there are other inner nodes, every leaf is full
  pub others_full : Cuts least_leaves inners inners_below leaves inners_above → AreNodes least_rows (flatten inners) → 0 < length inners_below + length inners_above → AreFullNodes least_rows (flatten inners_below ++ (leaves ++ flatten inners_above))
  others_full cuts nodes more =
      let all = rw cuts.joined at nodes in
      full_from_nodes least_rows (flatten inners_below ++ (leaves ++ flatten inners_above)) all (omega (arith, cuts.fewest more, length-append (flatten inners_below) (leaves ++ flatten inners_above), length-append leaves (flatten inners_above)))

  around_full : (changed : List (List X)) → AreFullNodes least_rows (flatten inners_below ++ (leaves ++ flatten inners_above)) → AreFullNodes least_rows changed → AreNodes least_rows (flatten inners_below ++ (changed ++ flatten inners_above))
  around_full changed all full =
      let back = full_back least_rows (flatten inners_below) (leaves ++ flatten inners_above) all in
      nodes_from_full least_rows (flatten inners_below ++ (changed ++ flatten inners_above)) (full_append least_rows (flatten inners_below) (changed ++ flatten inners_above) (full_front least_rows (flatten inners_below) (leaves ++ flatten inners_above) all) (full_append least_rows changed (flatten inners_above) full (full_back least_rows leaves (flatten inners_above) back)))

-- after the leaves of one inner node change, all leaves have the sizes of nodes
pub leaves_changed : {X : Type 0} (inners inners_below : List (List (List X))) (leaves : List (List X)) (inners_above : List (List (List X))) (changed : List (List X)) → Cuts least_leaves inners inners_below leaves inners_above → AreNodes least_rows (flatten inners) → AreNodes least_rows changed → (0 < length inners_below + length inners_above → 1 < length changed) → AreNodes least_rows (flatten inners_below ++ (changed ++ flatten inners_above))
leaves_changed inners [] leaves [] changed cuts nodes are more = rw (append-nil changed) are
leaves_changed inners [] leaves (p ∷ above) changed cuts nodes are more = around_full inners [] leaves (p ∷ above) changed (others_full inners [] leaves (p ∷ above) cuts nodes (omega arith)) (full_from_nodes least_rows changed are (more (omega arith)))
leaves_changed inners (p ∷ below) leaves above changed cuts nodes are more = around_full inners (p ∷ below) leaves above changed (others_full inners (p ∷ below) leaves above cuts nodes (omega arith)) (full_from_nodes least_rows changed are (more (omega arith)))

pub rows_changed : {X : Type 0} (inners_below inners_above : List (List (List X))) (below above changed : List (List X)) (rows : List X) → flatten changed ≡ flatten below ++ (rows ++ flatten above) → flatten (flatten inners_below ++ (changed ++ flatten inners_above)) ≡ flatten (flatten inners_below) ++ (flatten below ++ (rows ++ (flatten above ++ flatten (flatten inners_above))))
rows_changed inners_below inners_above below above changed rows is =
    flatten-append (flatten inners_below) (changed ++ flatten inners_above)
    ∙ ap (λ l. flatten (flatten inners_below) ++ l) (
    flatten-append changed (flatten inners_above)
    ∙ ap (λ l. l ++ flatten (flatten inners_above)) is
    ∙ append_assoc (flatten below) (rows ++ flatten above) (flatten (flatten inners_above))
    ∙ ap (λ l. flatten below ++ l) (append_assoc rows (flatten above) (flatten (flatten inners_above))))

module _ {W E X : Type 0} (items : W → List (List (List X))) (between : List (List X)) where
  pub if_rows : (all : List X) → flatten between ≡ all → (r : Result W E) → IfOk r (λ v. flatten (items v) ≡ between) → IfOk r (λ v. flatten (flatten (items v)) ≡ all)
  if_rows all same (Ok v) is = ap flatten is ∙ same
  if_rows all same (Err e) is = tt

  pub if_leaves : AreNodes least_rows between → (r : Result W E) → IfOk r (λ v. flatten (items v) ≡ between) → IfOk r (λ v. AreNodes least_rows (flatten (items v)))
  if_leaves are (Ok v) is = rw is are
  if_leaves are (Err e) is = tt
