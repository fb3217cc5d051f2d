-- The rows between two bounds, by the nodes to which the bounds belong.
use Rattle.std.proofs.Common.{◌≡◌, ℕ, ◌<◌, ◌≤◌, ◌&&◌, List, [], ◌∷◌, ◌++◌, length, filter, drop, refl, sym, ap, subst, ◌∙◌, append-nil, append_assoc, length-append, inl, inr, arith}
use Rattle.std.specs.declared.cmp.Ordering.{Ordering}
use Rattle.std.specs.declared.cmp.Ordering.TheVariants.{Less}
use Rattle.std.specs.Ordering.{is_lt, is_ge}
use Rattle.std.specs.Cmp.{IsTotalOrder}
use Rattle.std.specs.List.{AllByRecursion}
use Rattle.std.specs.Map.{keys_of}
use Rattle.std.proofs.lemmas.List.Elements.{filter-append}
use Rattle.version_shelf.specs.Shelf.{IsInOrder, rows_below, rows_between, rows_from}
use Rattle.version_shelf.specs.Nodes.{AreFullNodes, AreNodes, AreWalkNodes, Cuts, CutsAt, flatten, last_passes, least_leaves, least_rows, walk_rows}
use Rattle.version_shelf.proofs.Above.{AllAbove, all_filter, below_of_above}
use Rattle.version_shelf.proofs.Split.{between_is}
use Rattle.version_shelf.proofs.Around.{AllBelow, IsAround, below_of_below, from_of_below, below_around, from_around, in_order_back, leaves_around, inners_around}
use Rattle.version_shelf.proofs.Flat.{flatten-append, flatten_around, full_front, full_back, full_from_nodes, nodes_back}
use Rattle.version_shelf.proofs.Paths.{others_full}
use Rattle.std.proofs.lemmas.List.{drop_at}

module _ {K V : Type 0} {cmp : K → K → Ordering} (o : IsTotalOrder cmp) (lo hi : K) where
  all_front : (P : K → Type 0) (xs ys : List (K × V)) → AllByRecursion P (keys_of (xs ++ ys)) → AllByRecursion P (keys_of xs)
  all_front P [] ys all = tt
  all_front P (x ∷ xs) ys all = (all.0, all_front P xs ys all.1)

  all_back : (P : K → Type 0) (xs ys : List (K × V)) → AllByRecursion P (keys_of (xs ++ ys)) → AllByRecursion P (keys_of ys)
  all_back P [] ys all = all
  all_back P (x ∷ xs) ys all = all_back P xs ys all.1

  none_before : (rows : List (K × V)) → AllBelow cmp lo rows → rows_between cmp rows lo hi ≡ []
  none_before rows all = sym (between_is cmp lo hi rows) ∙ ap (λ l. rows_below cmp l hi) (from_of_below o lo rows all)

  none_after : (rows : List (K × V)) → AllAbove cmp hi rows → rows_between cmp rows lo hi ≡ []
  none_after rows all = sym (between_is cmp lo hi rows) ∙ below_of_above o hi (rows_from cmp rows lo) (all_filter (λ y. cmp hi y ≡ Less) (λ row. is_ge (cmp row.0 lo)) rows all)

  -- both bounds belong to one node
  between_one : (front node back : List (K × V)) → AllBelow cmp lo front → AllAbove cmp hi back → rows_between cmp (front ++ (node ++ back)) lo hi ≡ rows_between cmp node lo hi
  between_one front node back first last =
      let p = λ (row : K × V). is_ge (cmp row.0 lo) && is_lt (cmp row.0 hi) in
      filter-append p front (node ++ back)
      ∙ ap (λ l. l ++ filter p (node ++ back)) (none_before front first)
      ∙ filter-append p node back
      ∙ ap (λ l. filter p node ++ l) (none_after back last)
      ∙ append-nil (filter p node)

  -- the bounds belong to two nodes, with others between them
  between_two : (front first between last back rest : List (K × V)) → rest ≡ between ++ (last ++ back) → IsAround o lo front rest → IsAround o hi (first ++ between) back → rows_between cmp (front ++ (first ++ rest)) lo hi ≡ rows_from cmp first lo ++ (between ++ rows_below cmp last hi)
  between_two front first between last back rest parts low high =
      let below : AllBelow cmp hi first = all_front (λ y. cmp y hi ≡ Less) first between high.before in
      let lower : AllBelow cmp hi (rows_from cmp first lo) = all_filter (λ y. cmp y hi ≡ Less) (λ row. is_ge (cmp row.0 lo)) first below in
      let p = λ (row : K × V). is_lt (cmp row.0 hi) in
      sym (between_is cmp lo hi (front ++ (first ++ rest)))
      ∙ ap (λ l. rows_below cmp l hi) (from_around o lo front first rest low)
      ∙ filter-append p (rows_from cmp first lo) rest
      ∙ ap (λ l. l ++ rows_below cmp rest hi) (below_of_below o hi (rows_from cmp first lo) lower)
      ∙ ap (λ l. rows_from cmp first lo ++ rows_below cmp l hi) parts
      ∙ ap (λ l. rows_from cmp first lo ++ l) (below_around o hi between last back (record { before = all_back (λ y. cmp y hi ≡ Less) first between high.before; behind = high.behind }))

-- ---- the nodes from an index on

module _ {X : Type 0} (least : ℕ) (nodes below : List (List X)) (node : List X) (above : List (List X)) (cuts : Cuts least nodes below node above) (from : List (List X)) (is : from ≡ drop (length below) nodes) where
  pub front_and_rest : nodes ≡ below ++ from
  front_and_rest = elim cuts.whole [
    | inl whole ↦ whole ∙ ap (λ l. below ++ l) (sym (is ∙ ap (drop (length below)) whole ∙ drop_at below (node ∷ above) (length below) refl))
    | inr none ↦ none.0 ∙ sym (ap (λ l. l ++ from) none.1 ∙ is ∙ ap (λ l. drop (length l) nodes) none.1 ∙ none.0)
  ]

  pub rest_is : (below ≡ [] → nodes ≡ [] → 0 < 0) → from ≡ node ∷ above
  rest_is some = elim cuts.whole [
    | inl whole ↦ is ∙ ap (drop (length below)) whole ∙ drop_at below (node ∷ above) (length below) refl
    | inr none ↦ absurd (omega (arith, some none.1 none.0))
  ]

  pub rest_nodes : AreNodes least nodes → AreNodes least from
  rest_nodes are = nodes_back least below from (rw front_and_rest at are)

  pub rest_size : (most : ℕ) → length nodes ≤ most → length from ≤ most
  rest_size most few = omega (arith, ap length front_and_rest, length-append below from)

  -- if the other bound belongs to a later node
  module _ (ends_below : List (List X)) (last : List X) (ends_above : List (List X)) (ends_cuts : Cuts least from ends_below last ends_above) (first : List X) (between : List (List X)) (more : ends_below ≡ first ∷ between) where
    whole_rest : from ≡ ends_below ++ last ∷ ends_above
    whole_rest = elim ends_cuts.whole [
      | inl whole ↦ whole
      | inr none ↦ absurd (omega (arith, ap length more, ap length none.1))
    ]

    some_node : from ≡ node ∷ above
    some_node = rest_is (λ none empty. omega (arith, ap length whole_rest, length-append ends_below (last ∷ ends_above), ap length front_and_rest, ap length empty, length-append below from))

    both : node ∷ above ≡ first ∷ (between ++ last ∷ ends_above)
    both = sym some_node ∙ whole_rest ∙ ap (λ l. l ++ last ∷ ends_above) more

    pub first_is : first ≡ node
    first_is = cc both

    pub above_is : above ≡ between ++ last ∷ ends_above
    above_is = cc both

-- ---- between two leaves

module _ {K V : Type 0} {cmp : K → K → Ordering} (o : IsTotalOrder cmp) (lo hi : K) (leaves below : List (List (K × V))) (node : List (K × V)) (above : List (List (K × V))) (cuts : Cuts least_rows leaves below node above) (at : CutsAt (λ row. is_lt (cmp row.0 lo)) below node above) (sorted : IsInOrder cmp (flatten leaves)) (from : List (List (K × V))) (is : from ≡ drop (length below) leaves) where
  leaves_parted : flatten leaves ≡ flatten below ++ flatten from
  leaves_parted = ap flatten (front_and_rest least_rows leaves below node above cuts from is) ∙ flatten-append below from

  pub rest_order : IsInOrder cmp (flatten from)
  rest_order = in_order_back cmp (flatten below) (flatten from) (rw leaves_parted at sorted)

  low : IsAround o lo (flatten below) (flatten above)
  low = leaves_around o lo leaves below node above cuts at sorted

  module _ (ends_below : List (List (K × V))) (last : List (K × V)) (ends_above : List (List (K × V))) (ends_cuts : Cuts least_rows from ends_below last ends_above) (ends_at : CutsAt (λ row. is_lt (cmp row.0 hi)) ends_below last ends_above) where
    high : IsAround o hi (flatten ends_below) (flatten ends_above)
    high = leaves_around o hi from ends_below last ends_above ends_cuts ends_at rest_order

    one_leaf : (b : List (List (K × V))) → b ≡ ends_below → length b ≡ 0 → rows_between cmp (flatten leaves) lo hi ≡ rows_between cmp last lo hi
    one_leaf [] same none = ap (λ l. rows_between cmp l lo hi) (leaves_parted ∙ ap (λ l. flatten below ++ l) (ends_cuts.joined ∙ ap (λ l. flatten l ++ (last ++ flatten ends_above)) (sym same))) ∙ between_one o lo hi (flatten below) last (flatten ends_above) low.before high.behind
    one_leaf (p ∷ b) same none = absurd (omega arith)

    pub in_one_leaf : length ends_below ≡ 0 → (found : List (K × V)) → found ≡ rows_between cmp last lo hi → found ++ [] ≡ rows_between cmp (flatten leaves) lo hi
    in_one_leaf none found are = append-nil found ∙ are ∙ sym (one_leaf ends_below refl none)

    pub in_two_leaves : (first : List (K × V)) (between : List (List (K × V))) → ends_below ≡ first ∷ between → (x y : List (K × V)) → x ≡ rows_from cmp node lo → y ≡ rows_below cmp last hi → x ++ (flatten between ++ y) ≡ rows_between cmp (flatten leaves) lo hi
    in_two_leaves first between more x y starts_are ends_are =
        let same : first ≡ node = first_is least_rows leaves below node above cuts from is ends_below last ends_above ends_cuts first between more in
        let parts : flatten above ≡ flatten between ++ (last ++ flatten ends_above) = ap flatten (above_is least_rows leaves below node above cuts from is ends_below last ends_above ends_cuts first between more) ∙ flatten_around between last ends_above in
        let before : flatten ends_below ≡ node ++ flatten between = ap flatten more ∙ ap (λ l. l ++ flatten between) same in
        sym (ap (λ l. rows_between cmp l lo hi) cuts.joined
        ∙ between_two o lo hi (flatten below) node (flatten between) last (flatten ends_above) (flatten above) parts low (rw before at high)
        ∙ ap (λ l. l ++ (flatten between ++ rows_below cmp last hi)) (sym starts_are)
        ∙ ap (λ l. x ++ (flatten between ++ l)) (sym ends_are))

-- ---- between two inner nodes

module _ {K V : Type 0} {cmp : K → K → Ordering} (o : IsTotalOrder cmp) (lo hi : K) (inners below : List (List (List (K × V)))) (leaves : List (List (K × V))) (above : List (List (List (K × V)))) (cuts : Cuts least_leaves inners below leaves above) (at : CutsAt (last_passes (λ row. is_lt (cmp row.0 lo))) below leaves above) (sorted : IsInOrder cmp (flatten (flatten inners))) (nodes : AreNodes least_rows (flatten inners)) (from : List (List (List (K × V)))) (is : from ≡ drop (length below) inners) where
  inners_parted : flatten inners ≡ flatten below ++ flatten from
  inners_parted = ap flatten (front_and_rest least_leaves inners below leaves above cuts from is) ∙ flatten-append below from

  rows_parted : flatten (flatten inners) ≡ flatten (flatten below) ++ flatten (flatten from)
  rows_parted = ap flatten inners_parted ∙ flatten-append (flatten below) (flatten from)

  pub rest_rows_order : IsInOrder cmp (flatten (flatten from))
  rest_rows_order = in_order_back cmp (flatten (flatten below)) (flatten (flatten from)) (rw rows_parted at sorted)

  pub rest_leaves : AreNodes least_rows (flatten from)
  rest_leaves = nodes_back least_rows (flatten below) (flatten from) (rw inners_parted at nodes)

  low_inners : IsAround o lo (flatten (flatten below)) (flatten (flatten above))
  low_inners = inners_around o lo inners below leaves above cuts at sorted nodes

  module _ (ends_below : List (List (List (K × V)))) (last : List (List (K × V))) (ends_above : List (List (List (K × V)))) (ends_cuts : Cuts least_leaves from ends_below last ends_above) (ends_at : CutsAt (last_passes (λ row. is_lt (cmp row.0 hi))) ends_below last ends_above) where
    high_inners : IsAround o hi (flatten (flatten ends_below)) (flatten (flatten ends_above))
    high_inners = inners_around o hi from ends_below last ends_above ends_cuts ends_at rest_rows_order rest_leaves

    one_inner : (b : List (List (List (K × V)))) → b ≡ ends_below → length b ≡ 0 → rows_between cmp (flatten (flatten inners)) lo hi ≡ rows_between cmp (flatten last) lo hi
    one_inner [] same none =
        ap (λ l. rows_between cmp l lo hi) (rows_parted ∙ ap (λ l. flatten (flatten below) ++ l) (ap flatten (ends_cuts.joined ∙ ap (λ l. flatten l ++ (last ++ flatten ends_above)) (sym same)) ∙ flatten-append last (flatten ends_above)))
        ∙ between_one o lo hi (flatten (flatten below)) (flatten last) (flatten (flatten ends_above)) low_inners.before high_inners.behind
    one_inner (p ∷ b) same none = absurd (omega arith)

    pub in_one_inner : length ends_below ≡ 0 → rows_between cmp (flatten last) lo hi ≡ rows_between cmp (flatten (flatten inners)) lo hi
    in_one_inner none = sym (one_inner ends_below refl none)

    module _ (first : List (List (K × V))) (between : List (List (List (K × V)))) (more : ends_below ≡ first ∷ between) where
      pub between_full : AreFullNodes least_leaves between × AreFullNodes least_rows (flatten between)
      between_full =
          let all = rw more at ends_cuts.are_below in
          let leaves_all = full_front least_rows (flatten ends_below) (last ++ flatten ends_above) (others_full from ends_below last ends_above ends_cuts rest_leaves (omega (arith, ap length more))) in
          (all.1, full_back least_rows first (flatten between) (rw more at leaves_all))

      in_two : rows_between cmp (flatten (flatten inners)) lo hi ≡ rows_from cmp (flatten leaves) lo ++ (flatten (flatten between) ++ rows_below cmp (flatten last) hi)
      in_two =
          let same : first ≡ leaves = first_is least_leaves inners below leaves above cuts from is ends_below last ends_above ends_cuts first between more in
          let parts : flatten (flatten above) ≡ flatten (flatten between) ++ (flatten last ++ flatten (flatten ends_above)) = ap flatten (ap flatten (above_is least_leaves inners below leaves above cuts from is ends_below last ends_above ends_cuts first between more) ∙ flatten_around between last ends_above) ∙ flatten-append (flatten between) (last ++ flatten ends_above) ∙ ap (λ l. flatten (flatten between) ++ l) (flatten-append last (flatten ends_above)) in
          let before : flatten (flatten ends_below) ≡ flatten leaves ++ flatten (flatten between) = ap flatten (ap flatten more ∙ ap (λ l. l ++ flatten between) same) ∙ flatten-append leaves (flatten between) in
          ap (λ l. rows_between cmp l lo hi) (ap flatten cuts.joined ∙ flatten-append (flatten below) (leaves ++ flatten above) ∙ ap (λ l. flatten (flatten below) ++ l) (flatten-append leaves (flatten above)))
          ∙ between_two o lo hi (flatten (flatten below)) (flatten leaves) (flatten (flatten between)) (flatten last) (flatten (flatten ends_above)) (flatten (flatten above)) parts low_inners (rw before at high_inners)

      -- the leaves of the first and of the last inner node, cut at the bounds
      pub in_two_inners : (a c : List (K × V)) (b d : List (List (K × V))) → rows_from cmp (flatten leaves) lo ≡ a ++ flatten b → rows_below cmp (flatten last) hi ≡ flatten d ++ c → a ++ (flatten b ++ (flatten (flatten between) ++ (flatten d ++ c))) ≡ rows_between cmp (flatten (flatten inners)) lo hi
      in_two_inners a c b d starts_are ends_are = sym (
          in_two
          ∙ ap (λ l. l ++ (flatten (flatten between) ++ rows_below cmp (flatten last) hi)) starts_are
          ∙ ap (λ l. (a ++ flatten b) ++ (flatten (flatten between) ++ l)) ends_are
          ∙ append_assoc a (flatten b) (flatten (flatten between) ++ (flatten d ++ c)))

-- ---- the leaves of one inner node, cut at a bound

module _ {K V : Type 0} {cmp : K → K → Ordering} (o : IsTotalOrder cmp) (key : K) (leaves below : List (List (K × V))) (rows : List (K × V)) (above : List (List (K × V))) (cuts : Cuts least_rows leaves below rows above) (at : CutsAt (λ row. is_lt (cmp row.0 key)) below rows above) (sorted : IsInOrder cmp (flatten leaves)) where
  pub starts_at : (found : List (K × V)) → found ≡ rows_from cmp rows key → rows_from cmp (flatten leaves) key ≡ found ++ flatten above
  starts_at found are = ap (λ l. rows_from cmp l key) cuts.joined ∙ from_around o key (flatten below) rows (flatten above) (leaves_around o key leaves below rows above cuts at sorted) ∙ ap (λ l. l ++ flatten above) (sym are)

  pub ends_there : (found : List (K × V)) → found ≡ rows_below cmp rows key → rows_below cmp (flatten leaves) key ≡ flatten below ++ found
  ends_there found are = ap (λ l. rows_below cmp l key) cuts.joined ∙ below_around o key (flatten below) rows (flatten above) (leaves_around o key leaves below rows above cuts at sorted) ∙ ap (λ l. flatten below ++ l) (sym are)

-- ---- the inner nodes, cut at a bound

module _ {K V : Type 0} {cmp : K → K → Ordering} (o : IsTotalOrder cmp) (key : K) (inners below : List (List (List (K × V)))) (leaves : List (List (K × V))) (above : List (List (List (K × V)))) (cuts : Cuts least_leaves inners below leaves above) (at : CutsAt (last_passes (λ row. is_lt (cmp row.0 key))) below leaves above) (sorted : IsInOrder cmp (flatten (flatten inners))) (nodes : AreNodes least_rows (flatten inners)) where
  pub inners_start_at : (a : List (K × V)) (b : List (List (K × V))) → rows_from cmp (flatten leaves) key ≡ a ++ flatten b → a ++ (flatten b ++ (flatten (flatten above) ++ [])) ≡ rows_from cmp (flatten (flatten inners)) key
  inners_start_at a b starts_are = sym (
      ap (λ l. rows_from cmp l key) (ap flatten cuts.joined ∙ flatten-append (flatten below) (leaves ++ flatten above) ∙ ap (λ l. flatten (flatten below) ++ l) (flatten-append leaves (flatten above)))
      ∙ from_around o key (flatten (flatten below)) (flatten leaves) (flatten (flatten above)) (inners_around o key inners below leaves above cuts at sorted nodes)
      ∙ ap (λ l. l ++ flatten (flatten above)) starts_are
      ∙ append_assoc a (flatten b) (flatten (flatten above))
      ∙ ap (λ l. a ++ (flatten b ++ l)) (sym (append-nil (flatten (flatten above)))))

  pub above_full : AreFullNodes least_rows (flatten above)
  above_full = full above refl
    where
      full : (x : List (List (List (K × V)))) → x ≡ above → AreFullNodes least_rows (flatten x)
      full [] e = tt
      full (p ∷ ps) e =
          let more : 0 < length above = omega (arith, ap length e) in
          subst (λ x. AreFullNodes least_rows (flatten x)) (sym e) (full_back least_rows leaves (flatten above) (full_back least_rows (flatten below) (leaves ++ flatten above) (others_full inners below leaves above cuts nodes (omega arith))))

-- ---- all nodes

-- all nodes after the first are full
pub later_full : {X : Type 0} (least : ℕ) (node : List X) (nodes : List (List X)) → AreNodes least (node ∷ nodes) → AreFullNodes least nodes
later_full least node [] are = tt
later_full least node (p ∷ ps) are = are.1

-- the leaves of full inner nodes are full
pub full_leaves : {X : Type 0} (inners : List (List (List X))) → AreFullNodes least_leaves inners → AreNodes least_rows (flatten inners) → AreFullNodes least_rows (flatten inners)
full_leaves [] all are = tt
full_leaves (m ∷ ms) all are = full_from_nodes least_rows (m ++ flatten ms) are (omega (arith, all.0, length-append m (flatten ms)))

pub empty : {X : Type 0} (xs : List X) → length xs ≡ 0 → xs ≡ []
empty [] none = refl
empty (x ∷ xs) none = absurd (omega arith)

-- ---- a step of a walk to the next node

module _ {X : Type 0} (leaves : List (List X)) (inners : List (List (List X))) (middle taken : List (List X)) (rest : List (List (List X))) where
  pub full_inner : (last_leaves : List (List X)) → inners ≡ middle ∷ rest → taken ≡ middle → AreWalkNodes leaves inners last_leaves → AreWalkNodes taken rest last_leaves
  full_inner last_leaves is same nodes =
      let full = rw is at nodes.1 in
      let inner = rw is at nodes.2 in
      rw same (full_front least_rows middle (flatten rest) inner, full.1, full_back least_rows middle (flatten rest) inner, nodes.3)

  pub next_inner : (behind : List X) → inners ≡ middle ∷ rest → taken ≡ middle → length leaves ≡ 0 → flatten taken ++ (flatten (flatten rest) ++ behind) ≡ flatten leaves ++ (flatten (flatten inners) ++ behind)
  next_inner behind is same none =
      ap (λ l. flatten l ++ (flatten (flatten rest) ++ behind)) same
      ∙ sym (append_assoc (flatten middle) (flatten (flatten rest)) behind)
      ∙ ap (λ l. l ++ behind) (sym (flatten-append middle (flatten rest)))
      ∙ sym (ap (λ l. flatten (flatten l) ++ behind) is)
      ∙ sym (ap (λ l. flatten l ++ (flatten (flatten inners) ++ behind)) (empty leaves none))

module _ {X : Type 0} (rest : List X) (leaves : List (List X)) (inners : List (List (List X))) (last_leaves : List (List X)) (last : List X) where
  walk_parts : walk_rows rest leaves inners last_leaves last ≡ rest ++ ((flatten leaves ++ (flatten (flatten inners) ++ flatten last_leaves)) ++ last)
  walk_parts = ap (λ l. rest ++ l) (sym (append_assoc (flatten leaves) (flatten (flatten inners) ++ flatten last_leaves) last ∙ ap (λ l. flatten leaves ++ l) (append_assoc (flatten (flatten inners)) (flatten last_leaves) last)))

  -- the same rows, after the walk takes the first leaf
  pub next_leaf : (new_leaves : List (List X)) (new_inners : List (List (List X))) (new_last_leaves : List (List X)) (new_last leaf taken : List X) (more : List (List X)) → length rest ≡ 0 → new_last ≡ last → flatten new_leaves ++ (flatten (flatten new_inners) ++ flatten new_last_leaves) ≡ flatten leaves ++ (flatten (flatten inners) ++ flatten last_leaves) → new_leaves ≡ leaf ∷ more → taken ≡ leaf → walk_rows taken more new_inners new_last_leaves new_last ≡ walk_rows rest leaves inners last_leaves last
  next_leaf new_leaves new_inners new_last_leaves new_last leaf taken more none same_last same is same_leaf =
      ap (λ l. walk_rows l more new_inners new_last_leaves new_last) same_leaf
      ∙ ap (λ l. walk_rows leaf more new_inners new_last_leaves l) same_last
      ∙ sym (append_assoc leaf (flatten more) (flatten (flatten new_inners) ++ (flatten new_last_leaves ++ last)))
      ∙ sym (ap (λ l. flatten l ++ (flatten (flatten new_inners) ++ (flatten new_last_leaves ++ last))) is)
      ∙ sym (append_assoc (flatten new_leaves) (flatten (flatten new_inners) ++ flatten new_last_leaves) last ∙ ap (λ l. flatten new_leaves ++ l) (append_assoc (flatten (flatten new_inners)) (flatten new_last_leaves) last))
      ∙ ap (λ l. l ++ last) same
      ∙ sym (walk_parts ∙ ap (λ l. l ++ ((flatten leaves ++ (flatten (flatten inners) ++ flatten last_leaves)) ++ last)) (empty rest none))
