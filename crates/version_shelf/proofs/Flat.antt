-- Lists of nodes, and the parts in them.
use Rattle.std.proofs.Common.{◌≡◌, ◌+◌, ◌-◌, ◌*◌, ◌/◌, ◌<◌, ◌≤◌, ℕ, true, false, cond, nat_lt, List, [], ◌∷◌, ◌++◌, length, take, drop, refl, sym, ap, ◌∙◌, append-nil, append_assoc, length-append, length-take-le, length-drop, take-append-drop, Result, Ok, Err, arith}
use Rattle.std.proofs.Math.Nat.{mul-suc}
use Rattle.std.proofs.lemmas.Bool.{ltb-true, ltb-false}
use Rattle.std.specs.Result.{IfOk}
use Rattle.version_shelf.specs.Nodes.{IsFullNode, AreFullNodes, AreNodes, flatten, in_nodes}

pub flatten-append : {X : Type 0} (ps qs : List (List X)) → flatten (ps ++ qs) ≡ flatten ps ++ flatten qs
flatten-append [] qs = refl
flatten-append (p ∷ ps) qs = ap (λ l. p ++ l) (flatten-append ps qs) ∙ sym (append_assoc p (flatten ps) (flatten qs))

pub flatten_one : {X : Type 0} (p : List X) → flatten (p ∷ []) ≡ p
flatten_one p = append-nil p

-- nodes below, a node, and nodes above
pub flatten_around : {X : Type 0} (below : List (List X)) (p : List X) (above : List (List X)) → flatten (below ++ p ∷ above) ≡ flatten below ++ (p ++ flatten above)
flatten_around below p above = flatten-append below (p ∷ above)

-- ---- full nodes

pub full_append : {X : Type 0} (least : ℕ) (ps qs : List (List X)) → AreFullNodes least ps → AreFullNodes least qs → AreFullNodes least (ps ++ qs)
full_append least [] qs front back = back
full_append least (p ∷ ps) qs front back = (front.0, full_append least ps qs front.1 back)

pub full_front : {X : Type 0} (least : ℕ) (ps qs : List (List X)) → AreFullNodes least (ps ++ qs) → AreFullNodes least ps
full_front least [] qs all = tt
full_front least (p ∷ ps) qs all = (all.0, full_front least ps qs all.1)

pub full_back : {X : Type 0} (least : ℕ) (ps qs : List (List X)) → AreFullNodes least (ps ++ qs) → AreFullNodes least qs
full_back least [] qs all = all
full_back least (p ∷ ps) qs all = full_back least ps qs all.1

pub nodes_from_full : {X : Type 0} (least : ℕ) (ps : List (List X)) → AreFullNodes least ps → AreNodes least ps
nodes_from_full least [] all = tt
nodes_from_full least (p ∷ []) all = all.0.1
nodes_from_full least (p ∷ q ∷ ps) all = all

pub full_from_nodes : {X : Type 0} (least : ℕ) (ps : List (List X)) → AreNodes least ps → 1 < length ps → AreFullNodes least ps
full_from_nodes least [] all more = tt
full_from_nodes least (p ∷ []) all more = absurd (omega arith)
full_from_nodes least (p ∷ q ∷ ps) all more = all

-- a suffix, and a prefix, of nodes have the sizes of nodes
pub nodes_back : {X : Type 0} (least : ℕ) (ps qs : List (List X)) → AreNodes least (ps ++ qs) → AreNodes least qs
nodes_back least [] qs all = all
nodes_back least (p ∷ []) [] all = tt
nodes_back least (p ∷ []) (q ∷ qs) all = nodes_from_full least (q ∷ qs) all.1
nodes_back least (p ∷ r ∷ ps) qs all = nodes_from_full least qs (full_back least (p ∷ r ∷ ps) qs all)

pub nodes_front : {X : Type 0} (least : ℕ) (ps qs : List (List X)) → AreNodes least (ps ++ qs) → AreNodes least ps
nodes_front least [] qs all = tt
nodes_front least (p ∷ []) [] all = all
nodes_front least (p ∷ []) (q ∷ qs) all = all.0.1
nodes_front least (p ∷ r ∷ ps) qs all = full_front least (p ∷ r ∷ ps) qs all

-- a lower bound for the number of parts in full nodes
pub full_least : {X : Type 0} (least : ℕ) (ps : List (List X)) → AreFullNodes least ps → least * length ps ≤ length (flatten ps)
full_least least [] all = omega arith
full_least least (p ∷ ps) all = rw (mul-suc least (length ps)) (omega (arith, full_least least ps all.1, length-append p (flatten ps), all.0.0))

-- ---- parts cut into nodes

pub flatten-in_nodes : {X : Type 0} (least : ℕ) (parts : List X) → flatten (in_nodes least parts) ≡ parts
flatten-in_nodes least parts = elim (nat_lt (least + least) (length parts)) as (λ b. flatten (cond b (take (length parts / 2) parts ∷ drop (length parts / 2) parts ∷ []) (parts ∷ [])) ≡ parts) [
  | true ↦ ap (λ l. take (length parts / 2) parts ++ l) (append-nil (drop (length parts / 2) parts)) ∙ take-append-drop (length parts / 2) parts
  | false ↦ append-nil parts
]

module _ {X : Type 0} (least : ℕ) where
  -- a list of at least the least number of parts, and at most three times as many, is cut into full nodes
  full-in_nodes : (parts : List X) → least ≤ length parts → length parts ≤ least + least + least → AreFullNodes least (in_nodes least parts)
  full-in_nodes parts enough most =
      let half : length parts / 2 ≤ length parts = omega arith in
      elim (nat_lt (least + least) (length parts)) as (λ b. nat_lt (least + least) (length parts) ≡ b → AreFullNodes least (cond b (take (length parts / 2) parts ∷ drop (length parts / 2) parts ∷ []) (parts ∷ []))) [
        | true ↦ λ long.
            let many : least + least < length parts = omega (arith, ltb-true (least + least) (length parts) long) in
            let front : length (take (length parts / 2) parts) ≡ length parts / 2 = length-take-le (length parts / 2) parts half in
            let back : length (drop (length parts / 2) parts) ≡ length parts - length parts / 2 = length-drop (length parts / 2) parts in
            ((omega arith, omega arith), ((omega arith, omega arith), tt))
        | false ↦ λ short.
            let few : length parts ≤ least + least = omega (arith, ltb-false (least + least) (length parts) short) in
            ((enough, few), tt)
      ] refl

  -- the nodes below, those of the parts, and the nodes above
  pub flatten_rebuilt : (below : List (List X)) (parts : List X) (above : List (List X)) → flatten (below ++ (in_nodes least parts ++ above)) ≡ flatten below ++ (parts ++ flatten above)
  flatten_rebuilt below parts above = flatten-append below (in_nodes least parts ++ above) ∙ ap (λ l. flatten below ++ l) (flatten-append (in_nodes least parts) above ∙ ap (λ l. l ++ flatten above) (flatten-in_nodes least parts))

  pub nodes_rebuilt : (below : List (List X)) (parts : List X) (above : List (List X)) → 0 < least → AreFullNodes least below → AreFullNodes least above → length parts ≤ least + least + least → (0 < length below + length above → least ≤ length parts) → AreNodes least (below ++ (in_nodes least parts ++ above))
  nodes_rebuilt [] parts [] some front back most enough = rw (append-nil (in_nodes least parts)) (
      elim (nat_lt (least + least) (length parts)) as (λ b. nat_lt (least + least) (length parts) ≡ b → AreNodes least (cond b (take (length parts / 2) parts ∷ drop (length parts / 2) parts ∷ []) (parts ∷ []))) [
        | true ↦ λ long.
            let many : least + least < length parts = omega (arith, ltb-true (least + least) (length parts) long) in
            let all = full-in_nodes parts (omega arith) most in
            rw long at all
        | false ↦ λ short. omega (arith, ltb-false (least + least) (length parts) short)
      ] refl)
  nodes_rebuilt [] parts (q ∷ above) some front back most enough = nodes_from_full least (in_nodes least parts ++ q ∷ above) (full_append least (in_nodes least parts) (q ∷ above) (full-in_nodes parts (enough (omega arith)) most) back)
  nodes_rebuilt (p ∷ below) parts above some front back most enough = nodes_from_full least (p ∷ (below ++ (in_nodes least parts ++ above))) (full_append least (p ∷ below) (in_nodes least parts ++ above) front (full_append least (in_nodes least parts) above (full-in_nodes parts (enough (omega arith)) most) back))

pub last_full : {X : Type 0} (least : ℕ) (all rest : List (List X)) (node : List X) → all ≡ rest ++ node ∷ [] → AreFullNodes least all → IsFullNode least node × AreFullNodes least rest
last_full least all rest node is full =
    let parts = rw is at full in
    ((full_back least rest (node ∷ []) parts).0, full_front least rest (node ∷ []) parts)

-- parts merged with those of the neighbour below, or above
pub left_of_cut : {X : Type 0} (all below : List (List X)) (node parts behind : List X) → all ≡ below ++ node ∷ [] → flatten below ++ ((node ++ parts) ++ behind) ≡ flatten all ++ (parts ++ behind)
left_of_cut all below node parts behind is = sym (ap (λ l. flatten l ++ (parts ++ behind)) is ∙ ap (λ l. l ++ (parts ++ behind)) (flatten-append below (node ∷ []) ∙ ap (λ l. flatten below ++ l) (append-nil node)) ∙ append_assoc (flatten below) node (parts ++ behind) ∙ ap (λ l. flatten below ++ l) (sym (append_assoc node parts behind)))

pub right_of_cut : {X : Type 0} (below all above : List (List X)) (node parts : List X) → all ≡ node ∷ above → flatten below ++ ((parts ++ node) ++ flatten above) ≡ flatten below ++ (parts ++ flatten all)
right_of_cut below all above node parts is = ap (λ l. flatten below ++ l) (append_assoc parts node (flatten above)) ∙ sym (ap (λ l. flatten below ++ (parts ++ flatten l)) is)

module _ {V E X : Type 0} (items : V → List (List X)) (least : ℕ) (below : List (List X)) (parts : List X) (above : List (List X)) where
  pub rebuilt_flat : (all : List X) → flatten below ++ (parts ++ flatten above) ≡ all → (r : Result V E) → IfOk r (λ v. items v ≡ below ++ (in_nodes least parts ++ above)) → IfOk r (λ v. flatten (items v) ≡ all)
  rebuilt_flat all same (Ok v) is = ap flatten is ∙ flatten_rebuilt least below parts above ∙ same
  rebuilt_flat all same (Err e) is = tt

  pub rebuilt_nodes : 0 < least → AreFullNodes least below → AreFullNodes least above → length parts ≤ least + least + least → (0 < length below + length above → least ≤ length parts) → (r : Result V E) → IfOk r (λ v. items v ≡ below ++ (in_nodes least parts ++ above)) → IfOk r (λ v. AreNodes least (items v))
  rebuilt_nodes some front back most enough (Ok v) is = rw is (nodes_rebuilt least below parts above some front back most enough)
  rebuilt_nodes some front back most enough (Err e) is = tt
