-- A list of nodes in which one node is taken out, changed, and put back.
use Rattle.std.proofs.Common.{◌≡◌, ◌+◌, ◌<◌, ◌≤◌, ◌/◌, ℕ, suc, zero, true, false, cond, nat_lt, List, [], ◌∷◌, ◌++◌, length, set, take, drop, refl, sym, ap, ◌∙◌, length-append, arith}
use Rattle.std.proofs.lemmas.List.{nil_from_length}
use Rattle.version_shelf.specs.Nodes.{AreFullNodes, IsRebuilt, flatten, in_nodes}
use Rattle.version_shelf.proofs.Flat.{flatten_rebuilt, last_full, left_of_cut, nodes_rebuilt, right_of_cut}

next : (n : ℕ) → n + 1 ≡ suc n
next n = omega arith

module _ {X : Type 0} where
  -- the list with another item between the same items
  pub set_between : (below : List X) (x y : X) (above : List X) (n : ℕ) → length below ≡ n → set (below ++ x ∷ above) n y ≡ below ++ y ∷ above
  set_between [] x y above n e = ap (λ m. set (x ∷ above) m y) (sym e)
  set_between (z ∷ below) x y above zero e = absurd (omega arith)
  set_between (z ∷ below) x y above (suc n) e = ap (λ l. z ∷ l) (set_between below x y above n (omega arith))

  take_below : (below above : List X) (n : ℕ) → length below ≡ n → take n (below ++ above) ≡ below
  take_below [] above n e = ap (λ m. take m above) (sym e)
  take_below (x ∷ below) above zero e = absurd (omega arith)
  take_below (x ∷ below) above (suc n) e = ap (λ l. x ∷ l) (take_below below above n (omega arith))

  drop_past : (below : List X) (x : X) (above : List X) (n : ℕ) → length below ≡ n → drop (suc n) (below ++ x ∷ above) ≡ above
  drop_past [] x above n e = ap (λ m. drop (suc m) (x ∷ above)) (sym e)
  drop_past (y ∷ below) x above zero e = absurd (omega arith)
  drop_past (y ∷ below) x above (suc n) e = drop_past below x above n (omega arith)

  -- the list without the item between these
  pub removed_between : (all new below : List X) (x : X) (above : List X) (n : ℕ) → all ≡ below ++ x ∷ above → length below ≡ n → new ≡ take n all ++ drop (n + 1) all → new ≡ below ++ above
  removed_between all new below x above n is size e =
      let front : take n all ≡ below = ap (take n) is ∙ take_below below (x ∷ above) n size in
      let back : drop (n + 1) all ≡ above = ap (λ m. drop m all) (next n) ∙ ap (drop (suc n)) is ∙ drop_past below x above n size in
      e ∙ (λ i. front i ++ back i)

  pub first_of : (xs : List X) → 0 < length xs → (x : X) × (rest : List X) × (xs ≡ x ∷ rest)
  first_of [] some = absurd (omega arith)
  first_of (x ∷ xs) some = (x, xs, refl)

  pub last_of : (xs : List X) → 0 < length xs → (rest : List X) × (x : X) × (xs ≡ rest ++ x ∷ []) × (length rest + 1 ≡ length xs)
  last_of [] some = absurd (omega arith)
  last_of (x ∷ []) some = ([], x, refl, refl)
  last_of (x ∷ y ∷ xs) some =
      let r = last_of (y ∷ xs) (omega arith) in
      (x ∷ r.0, r.1, ap (λ l. x ∷ l) r.2, omega (arith, r.3))

-- ---- the parts put back, alone or with those of a neighbour

some_nodes : {X : Type 0} (least : ℕ) (parts : List X) → (1 ≤ length (in_nodes least parts)) × (length (in_nodes least parts) ≤ 2)
some_nodes least parts = elim (nat_lt (least + least) (length parts)) as (λ b. (1 ≤ length (cond b (take (length parts / 2) parts ∷ drop (length parts / 2) parts ∷ []) (parts ∷ []))) × (length (cond b (take (length parts / 2) parts ∷ drop (length parts / 2) parts ∷ []) (parts ∷ [])) ≤ 2)) [
  | true ↦ (omega arith, omega arith)
  | false ↦ (omega arith, omega arith)
]

module _ {X : Type 0} (least : ℕ) (below : List (List X)) (parts : List X) (above nodes : List (List X)) (some : 0 < least) (front : AreFullNodes least below) (back : AreFullNodes least above) (most : length parts ≤ least + least + 1) (fewest : 0 < length below + length above → least ≤ length parts + 1) where
  pub rebuilt_alone : nodes ≡ below ++ (in_nodes least parts ++ above) → (0 < length below + length above → least ≤ length parts) → IsRebuilt least below parts above nodes
  rebuilt_alone is enough =
      let size = some_nodes least parts in
      let long = length-append below (in_nodes least parts ++ above) in
      let back_long = length-append (in_nodes least parts) above in
      record {
        flat = ap flatten is ∙ flatten_rebuilt least below parts above;
        are_nodes = rw is (nodes_rebuilt least below parts above some front back (omega arith) enough);
        fewest = omega (arith, ap length is, long, back_long);
        most = omega (arith, ap length is, long, back_long, size.1);
      }

  pub rebuilt_left : (rest : List (List X)) (node : List X) → below ≡ rest ++ node ∷ [] → nodes ≡ rest ++ (in_nodes least (node ++ parts) ++ above) → length parts < least → IsRebuilt least below parts above nodes
  rebuilt_left rest node split is few =
      let full = last_full least below rest node split front in
      let low : least ≤ length node = full.0.0 in
      let high : length node ≤ least + least = full.0.1 in
      let size = length-append node parts in
      let new = some_nodes least (node ++ parts) in
      let old_long = length-append rest (node ∷ []) in
      let long = length-append rest (in_nodes least (node ++ parts) ++ above) in
      let back_long = length-append (in_nodes least (node ++ parts)) above in
      record {
        flat = ap flatten is ∙ flatten_rebuilt least rest (node ++ parts) above ∙ left_of_cut below rest node parts (flatten above) split;
        are_nodes = rw is (nodes_rebuilt least rest (node ++ parts) above some full.1 back (omega (arith, size)) (λ _. omega (arith, size)));
        fewest = omega (arith, ap length is, ap length split, old_long, long, back_long, new.0);
        most = omega (arith, ap length is, ap length split, old_long, long, back_long, new.1);
      }

  pub rebuilt_right : (rest : List (List X)) (node : List X) → length below ≡ 0 → above ≡ node ∷ rest → nodes ≡ in_nodes least (parts ++ node) ++ rest → length parts < least → IsRebuilt least below parts above nodes
  rebuilt_right rest node none split is few =
      let empty : below ≡ [] = nil_from_length below none in
      let full : AreFullNodes least (node ∷ rest) = rw split at back in
      let low : least ≤ length node = full.0.0 in
      let high : length node ≤ least + least = full.0.1 in
      let size = length-append parts node in
      let new = some_nodes least (parts ++ node) in
      let long = length-append (in_nodes least (parts ++ node)) rest in
      record {
        flat = ap flatten is ∙ flatten_rebuilt least [] (parts ++ node) rest ∙ right_of_cut [] above rest node parts split ∙ ap (λ b. flatten b ++ (parts ++ flatten above)) (sym empty);
        are_nodes = rw is (nodes_rebuilt least [] (parts ++ node) rest some tt full.1 (omega (arith, size)) (λ _. omega (arith, size)));
        fewest = omega (arith, none, ap length is, ap length split, long, new.0);
        most = omega (arith, none, ap length is, ap length split, long, new.1);
      }
