-- Sorted rows of which the first are below a key and the last are above it.
use Rattle.std.proofs.Common.{◌≡◌, ◌+◌, ◌<◌, ◌≤◌, Bool, true, false, cond, List, [], ◌∷◌, ◌++◌, length, filter, Some, refl, ap, ◌∙◌, append-nil, length-append, arith}
use Rattle.std.specs.declared.cmp.Ordering.{Ordering}
use Rattle.std.specs.declared.cmp.Ordering.TheVariants.{Less, Equal, Greater}
use Rattle.std.specs.Ordering.{is_eq, is_lt, is_gt, is_ge}
use Rattle.std.specs.Cmp.{IsTotalOrder}
use Rattle.std.specs.List.{AllByRecursion}
use Rattle.std.specs.List.Sorted.{IsStrictlySortedBy}
use Rattle.std.specs.Map.{keys_of}
use Rattle.std.proofs.lemmas.List.Elements.{filter-append}
use Rattle.std.proofs.lemmas.Map.Keys.{sorted_head, sorted_tail}
use Rattle.version_shelf.specs.Shelf.{IsInOrder, get, rows_below, rows_above, rows_from}
use Rattle.version_shelf.specs.Nodes.{AreFullNodes, AreNodes, Cuts, CutsAt, flatten, last_passes, least_leaves, least_rows}
use Rattle.version_shelf.proofs.Above.{by_order, AllAbove, below_of_above, above_of_above, get_of_above, all_above_equal, all_above_greater}
use Rattle.version_shelf.proofs.First.{from_of_above}
use Rattle.version_shelf.proofs.Flat.{flatten-append, full_front, full_back, full_from_nodes, nodes_front, nodes_back, full_least}

-- ---- the last part of a list of nodes

module _ {X : Type 0} (p : X → Bool) where
  ends_append : (xs : List X) (y : X) (ys : List X) → last_passes p (xs ++ y ∷ ys) ≡ last_passes p (y ∷ ys)
  ends_append [] y ys = refl
  ends_append (x ∷ []) y ys = refl
  ends_append (x ∷ z ∷ xs) y ys = ends_append (z ∷ xs) y ys

  ends_onto : (xs ys : List X) → last_passes p ys ≡ true → last_passes p (xs ++ ys) ≡ true
  ends_onto xs [] passes = cc
  ends_onto xs (y ∷ ys) passes = ends_append xs y ys ∙ passes

  -- if the last part of the last node passes, so does the last part of all
  pub ends_flatten : (nodes : List (List X)) → last_passes (last_passes p) nodes ≡ true → last_passes p (flatten nodes) ≡ true
  ends_flatten [] passes = passes
  ends_flatten (x ∷ []) passes = ap (last_passes p) (append-nil x) ∙ passes
  ends_flatten (x ∷ y ∷ nodes) passes = ends_onto x (flatten (y ∷ nodes)) (ends_flatten (y ∷ nodes) passes)

  not_empty_ends : (xs ys : List X) → 0 < length ys → last_passes p (xs ++ ys) ≡ last_passes p ys
  not_empty_ends xs [] some = absurd (omega arith)
  not_empty_ends xs (y ∷ ys) some = ends_append xs y ys

  -- if it doesn't, neither does the last part of all; the nodes are full, so they aren't empty
  pub ends_flatten_not : (nodes : List (List X)) → AreFullNodes least_rows nodes → last_passes (last_passes p) nodes ≡ false → last_passes p (flatten nodes) ≡ false
  ends_flatten_not [] full passes = refl
  ends_flatten_not (x ∷ []) full passes = ap (last_passes p) (append-nil x) ∙ passes
  ends_flatten_not (x ∷ y ∷ nodes) full passes = not_empty_ends x (flatten (y ∷ nodes)) (omega (arith, length-append y (flatten nodes), full.1.0.0)) ∙ ends_flatten_not (y ∷ nodes) full.1 passes

-- ---- sorted rows

module _ {K V : Type 0} (cmp : K → K → Ordering) where
  keys_front : (P : K → Type 0) (xs ys : List (K × V)) → AllByRecursion P (keys_of (xs ++ ys)) → AllByRecursion P (keys_of xs)
  keys_front P [] ys all = tt
  keys_front P (x ∷ xs) ys all = (all.0, keys_front P xs ys all.1)

  pub in_order_front : (xs ys : List (K × V)) → IsInOrder cmp (xs ++ ys) → IsInOrder cmp xs
  unfolding IsStrictlySortedBy
  in_order_front [] ys sorted = tt
  in_order_front (x ∷ xs) ys sorted = (keys_front _ xs ys sorted.0, in_order_front xs ys sorted.1)

  pub in_order_back : (xs ys : List (K × V)) → IsInOrder cmp (xs ++ ys) → IsInOrder cmp ys
  in_order_back [] ys sorted = sorted
  in_order_back (x ∷ xs) ys sorted = in_order_back xs ys (sorted_tail cmp x.0 (keys_of (xs ++ ys)) sorted)

-- each of the rows is below the key
abbrev pub AllBelow : {K V : Type 0} → (K → K → Ordering) → K → List (K × V) → Type 0
AllBelow cmp key rows = AllByRecursion (λ y. cmp y key ≡ Less) (keys_of rows)

less_if : (a : Ordering) → is_lt a ≡ true → a ≡ Less
less_if Less is = refl
less_if Equal is = cc
less_if Greater is = cc

module _ {K V : Type 0} {cmp : K → K → Ordering} (o : IsTotalOrder cmp) (key : K) where
  pub all_below : (xs : List (K × V)) → IsInOrder cmp xs → last_passes (λ row. is_lt (cmp row.0 key)) xs ≡ true → AllBelow cmp key xs
  all_below [] sorted last = tt
  all_below (r ∷ []) sorted last = (less_if _ last, tt)
  all_below (r ∷ s ∷ xs) sorted last =
      let rest = all_below (s ∷ xs) (sorted_tail cmp r.0 (keys_of (s ∷ xs)) sorted) last in
      (o.trans r.0 s.0 key (sorted_head cmp r.0 (keys_of (s ∷ xs)) sorted).0 rest.0, rest)

  pub all_above : (ys zs : List (K × V)) → IsInOrder cmp (ys ++ zs) → 0 < length ys → last_passes (λ row. is_lt (cmp row.0 key)) ys ≡ false → AllAbove cmp key zs
  all_above [] zs sorted some last = absurd (omega arith)
  all_above (r ∷ []) zs sorted some last = by_order (cmp r.0 key)
      (λ less. cc (ap is_lt less, last))
      (λ same. all_above_equal o key r zs sorted same)
      (λ greater. all_above_greater o key r zs sorted greater)
  all_above (r ∷ s ∷ ys) zs sorted some last = all_above (s ∷ ys) zs (sorted_tail cmp r.0 (keys_of (s ∷ (ys ++ zs))) sorted) (omega arith) last

  pub below_of_below : (rows : List (K × V)) → AllBelow cmp key rows → rows_below cmp rows key ≡ rows
  below_of_below [] all = refl
  below_of_below (r ∷ rs) all = rw all.0 (ap (λ l. r ∷ l) (below_of_below rs all.1))

  pub above_of_below : (rows : List (K × V)) → AllBelow cmp key rows → rows_above cmp rows key ≡ []
  above_of_below [] all = refl
  above_of_below (r ∷ rs) all = rw all.0 (above_of_below rs all.1)

  pub from_of_below : (rows : List (K × V)) → AllBelow cmp key rows → rows_from cmp rows key ≡ []
  from_of_below [] all = refl
  from_of_below (r ∷ rs) all = rw all.0 (from_of_below rs all.1)

  get_after : (rows more : List (K × V)) → AllBelow cmp key rows → get cmp (rows ++ more) key ≡ get cmp more key
  get_after [] more all = refl
  get_after (r ∷ rs) more all = rw all.0 (get_after rs more all.1)

  get_before : (rows more : List (K × V)) → AllAbove cmp key more → get cmp (rows ++ more) key ≡ get cmp rows key
  get_before [] more all = get_of_above o key more all
  get_before (r ∷ rs) more all = ap (λ found. cond (is_eq (cmp r.0 key)) (Some r.1) found) (get_before rs more all)

  -- all rows of the first list are below the key, and all rows of the second are above it
  pub record IsAround (xs zs : List (K × V)) : Type 0 where
    pub before : AllBelow cmp key xs
    pub behind : AllAbove cmp key zs

  module _ (xs ys zs : List (K × V)) (around : IsAround xs zs) where
    pub below_around : rows_below cmp (xs ++ (ys ++ zs)) key ≡ xs ++ rows_below cmp ys key
    below_around =
        let p = λ (row : K × V). is_lt (cmp row.0 key) in
        filter-append p xs (ys ++ zs) ∙ ap (λ l. l ++ filter p (ys ++ zs)) (below_of_below xs around.before) ∙ ap (λ l. xs ++ l) (filter-append p ys zs ∙ ap (λ l. filter p ys ++ l) (below_of_above o key zs around.behind) ∙ append-nil (filter p ys))

    pub above_around : rows_above cmp (xs ++ (ys ++ zs)) key ≡ rows_above cmp ys key ++ zs
    above_around =
        let p = λ (row : K × V). is_gt (cmp row.0 key) in
        filter-append p xs (ys ++ zs) ∙ ap (λ l. l ++ filter p (ys ++ zs)) (above_of_below xs around.before) ∙ filter-append p ys zs ∙ ap (λ l. filter p ys ++ l) (above_of_above o key zs around.behind)

    pub from_around : rows_from cmp (xs ++ (ys ++ zs)) key ≡ rows_from cmp ys key ++ zs
    from_around =
        let p = λ (row : K × V). is_ge (cmp row.0 key) in
        filter-append p xs (ys ++ zs) ∙ ap (λ l. l ++ filter p (ys ++ zs)) (from_of_below xs around.before) ∙ filter-append p ys zs ∙ ap (λ l. filter p ys ++ l) (from_of_above o key zs around.behind)

    pub get_around : get cmp (xs ++ (ys ++ zs)) key ≡ get cmp ys key
    get_around = get_after xs (ys ++ zs) around.before ∙ get_before ys zs around.behind

  -- ---- leaves, cut at the key

  module _ (leaves below : List (List (K × V))) (rows : List (K × V)) (above : List (List (K × V))) (cuts : Cuts least_rows leaves below rows above) (at : CutsAt (λ row. is_lt (cmp row.0 key)) below rows above) (sorted : IsInOrder cmp (flatten leaves)) where
    order : IsInOrder cmp (flatten below ++ (rows ++ flatten above))
    order = rw cuts.joined at sorted

    pub leaf_order : IsInOrder cmp rows
    leaf_order = in_order_front cmp rows (flatten above) (in_order_back cmp (flatten below) (rows ++ flatten above) order)

    leaves_before : (b : List (List (K × V))) → (0 < length b → last_passes (last_passes (λ row. is_lt (cmp row.0 key))) b ≡ true) → IsInOrder cmp (flatten b) → AllBelow cmp key (flatten b)
    leaves_before [] first ordered = tt
    leaves_before (p ∷ b) first ordered = all_below (flatten (p ∷ b)) ordered (ends_flatten _ (p ∷ b) (first (omega arith)))

    leaves_behind : (a : List (List (K × V))) → (0 < length a → least_rows ≤ length rows) → (0 < length a → last_passes (λ row. is_lt (cmp row.0 key)) rows ≡ false) → IsInOrder cmp (rows ++ flatten a) → AllAbove cmp key (flatten a)
    leaves_behind [] least more ordered = tt
    leaves_behind (p ∷ a) least more ordered = all_above rows (flatten (p ∷ a)) ordered (omega (arith, least (omega arith))) (more (omega arith))

    pub leaves_around : IsAround (flatten below) (flatten above)
    leaves_around = record {
      before = leaves_before below at.before (in_order_front cmp (flatten below) (rows ++ flatten above) order);
      behind = leaves_behind above (λ some. cuts.fewest (omega arith)) at.behind (in_order_back cmp (flatten below) (rows ++ flatten above) order);
    }

  -- ---- inner nodes, cut at the key

  module _ (inners below : List (List (List (K × V)))) (leaves : List (List (K × V))) (above : List (List (List (K × V)))) (cuts : Cuts least_leaves inners below leaves above) (at : CutsAt (last_passes (λ row. is_lt (cmp row.0 key))) below leaves above) (sorted : IsInOrder cmp (flatten (flatten inners))) (nodes : AreNodes least_rows (flatten inners)) where
    pub inners_joined : flatten (flatten inners) ≡ flatten (flatten below) ++ (flatten leaves ++ flatten (flatten above))
    inners_joined = ap flatten cuts.joined ∙ flatten-append (flatten below) (leaves ++ flatten above) ∙ ap (λ l. flatten (flatten below) ++ l) (flatten-append leaves (flatten above))

    inners_order : IsInOrder cmp (flatten (flatten below) ++ (flatten leaves ++ flatten (flatten above)))
    inners_order = rw inners_joined at sorted

    some_nodes : AreNodes least_rows (flatten below ++ (leaves ++ flatten above))
    some_nodes = rw cuts.joined at nodes

    pub are_leaves_at : AreNodes least_rows leaves
    are_leaves_at = nodes_front least_rows leaves (flatten above) (nodes_back least_rows (flatten below) (leaves ++ flatten above) some_nodes)

    pub leaves_order : IsInOrder cmp (flatten leaves)
    leaves_order = in_order_front cmp (flatten leaves) (flatten (flatten above)) (in_order_back cmp (flatten (flatten below)) (flatten leaves ++ flatten (flatten above)) inners_order)

    -- if there are other inner nodes, every leaf is full
    pub leaves_full : 0 < length below + length above → AreFullNodes least_rows (flatten below ++ (leaves ++ flatten above))
    leaves_full more = full_from_nodes least_rows (flatten below ++ (leaves ++ flatten above)) some_nodes (omega (arith, cuts.fewest more, length-append (flatten below) (leaves ++ flatten above), length-append leaves (flatten above)))

    inners_before : (b : List (List (List (K × V)))) → (0 < length b → last_passes (last_passes (last_passes (λ row. is_lt (cmp row.0 key)))) b ≡ true) → IsInOrder cmp (flatten (flatten b)) → AllBelow cmp key (flatten (flatten b))
    inners_before [] first ordered = tt
    inners_before (p ∷ b) first ordered = all_below (flatten (flatten (p ∷ b))) ordered (ends_flatten _ (flatten (p ∷ b)) (ends_flatten _ (p ∷ b) (first (omega arith))))

    inners_behind : (a : List (List (List (K × V)))) → (0 < length a → least_leaves ≤ length leaves) → (0 < length a → AreFullNodes least_rows leaves) → (0 < length a → last_passes (last_passes (λ row. is_lt (cmp row.0 key))) leaves ≡ false) → IsInOrder cmp (flatten leaves ++ flatten (flatten a)) → AllAbove cmp key (flatten (flatten a))
    inners_behind [] least full more ordered = tt
    inners_behind (p ∷ a) least full more ordered =
        let parts = full (omega arith) in
        all_above (flatten leaves) (flatten (flatten (p ∷ a))) ordered (omega (arith, least (omega arith), full_least least_rows leaves parts)) (ends_flatten_not _ leaves parts (more (omega arith)))

    pub inners_around : IsAround (flatten (flatten below)) (flatten (flatten above))
    inners_around = record {
      before = inners_before below at.before (in_order_front cmp (flatten (flatten below)) (flatten leaves ++ flatten (flatten above)) inners_order);
      behind = inners_behind above (λ some. cuts.fewest (omega arith)) (λ some. full_front least_rows leaves (flatten above) (full_back least_rows (flatten below) (leaves ++ flatten above) (leaves_full (omega arith)))) at.behind (in_order_back cmp (flatten (flatten below)) (flatten leaves ++ flatten (flatten above)) inners_order);
    }
