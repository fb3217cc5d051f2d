-- How the rows of a shelf are stored in nodes of a B-tree with three levels. A leaf contains rows, an inner node
-- contains leaves, and the root contains inner nodes. For this crate's own contracts.
use Rattle.std.specs.Prelude.{◌≡◌, ◌⊎◌, ℕ, ◌+◌, ◌-◌, ◌/◌, ◌<◌, ◌≤◌, Bool, true, false, if◌then◌else◌, nat_lt, List, [], ◌∷◌, ◌++◌, length, take, drop, Option, Some, None}
use Rattle.std.specs.declared.cmp.Ordering.{Ordering}
use Rattle.std.specs.List.{AllByRecursion}
use Rattle.version_shelf.specs.Shelf.{IsInOrder, most_rows}

-- the concatenation of the nodes
abbrev pub flatten : {X : Type 0} → List (List X) → List X
flatten [] = []
flatten (node ∷ nodes) = node ++ flatten nodes

-- the least number of rows in a leaf, if there are several leaves
abbrev pub least_rows : ℕ
least_rows = 16

-- the least number of leaves in an inner node, if there are several inner nodes
abbrev pub least_leaves : ℕ
least_leaves = 32

-- the largest number of inner nodes in a shelf
abbrev pub most_inners : ℕ
most_inners = 512

-- the node has at least this number of parts, and at most twice as many
abbrev pub IsFullNode : {X : Type 0} → ℕ → List X → Type 0
IsFullNode least node = (least ≤ length node) × (length node ≤ least + least)

-- each of these nodes has at least this number of parts, and at most twice as many
abbrev pub AreFullNodes : {X : Type 0} → ℕ → List (List X) → Type 0
AreFullNodes least nodes = AllByRecursion (IsFullNode least) nodes

-- several nodes are all full; a single node has at most twice the least number of parts, and no minimum
abbrev pub AreNodes : {X : Type 0} → ℕ → List (List X) → Type 0
AreNodes least [] = Unit {0}
AreNodes least (node ∷ []) = length node ≤ least + least
AreNodes least (node ∷ other ∷ nodes) = AreFullNodes least (node ∷ other ∷ nodes)

-- the parts as one node, or as two halves if there are more than twice the least number
abbrev pub in_nodes : {X : Type 0} → ℕ → List X → List (List X)
in_nodes least parts = if nat_lt (least + least) (length parts) then take (length parts / 2) parts ∷ drop (length parts / 2) parts ∷ [] else parts ∷ []

-- the inner nodes in the root of a shelf; none if it has no root
abbrev pub inners_of : {X : Type 0} → Option (List X) → List X
inners_of None = []
inners_of (Some inners) = inners

-- the invariant of a shelf with these inner nodes and this number of rows: the rows are in order, as many as this number, and
-- at most `most_rows`; the leaves and inner nodes have the sizes of nodes, and there are at most `most_inners` inner nodes
pub record IsShelf {K V : Type 0} (cmp : K → K → Ordering) (inners : List (List (List (K × V)))) (count : ℕ) : Type 0 where
  pub order : IsInOrder cmp (flatten (flatten inners))
  pub counted : count ≡ length (flatten (flatten inners))
  pub room : length (flatten (flatten inners)) ≤ most_rows
  pub are_leaves : AreNodes least_rows (flatten inners)
  pub are_inners : AreNodes least_leaves inners
  pub size : length inners ≤ most_inners

-- ---- search

-- whether the last part passes; false if there is none
abbrev pub last_passes : {X : Type 0} → (X → Bool) → List X → Bool
last_passes passes [] = false
last_passes passes (x ∷ []) = passes x
last_passes passes (x ∷ y ∷ xs) = last_passes passes (y ∷ xs)

-- whether the first part passes; false if there is none
abbrev pub first_passes : {X : Type 0} → (X → Bool) → List X → Bool
first_passes passes [] = false
first_passes passes (x ∷ xs) = passes x

-- the part before this index passes, and the part at it doesn't, if there are such parts; the index is at most their number
pub record IsSplitIndex {X : Type 0} (passes : X → Bool) (parts : List X) (position : ℕ) : Type 0 where
  pub inside : position ≤ length parts
  pub before : 0 < position → last_passes passes (take position parts) ≡ true
  pub behind : first_passes passes (drop position parts) ≡ false

-- the nodes are those below, the node with these parts, and those above, or there is no node and no part; the others are
-- full, and so is this one if there are others
pub record Cuts {X : Type 0} (least : ℕ) (nodes below : List (List X)) (parts : List X) (above : List (List X)) : Type 0 where
  pub whole : (nodes ≡ below ++ parts ∷ above) ⊎ ((nodes ≡ []) × (below ≡ []))
  pub joined : flatten nodes ≡ flatten below ++ (parts ++ flatten above)
  pub are_below : AreFullNodes least below
  pub are_above : AreFullNodes least above
  pub most : length parts ≤ least + least
  pub fewest : 0 < length below + length above → least ≤ length parts
  pub fits : length below + length above ≤ length nodes - 1
  pub all : length nodes ≤ length below + length above + 1

-- the last part of the nodes below passes, if there are any; the last of these parts doesn't if there are nodes above
pub record CutsAt {X : Type 0} (passes : X → Bool) (below : List (List X)) (parts : List X) (above : List (List X)) : Type 0 where
  pub before : 0 < length below → last_passes (last_passes passes) below ≡ true
  pub behind : 0 < length above → last_passes passes parts ≡ false

-- the path from the root to a leaf: the inner nodes cut at one, and the leaves of that inner node cut at one; all leaves have the
-- sizes of nodes, and there are at most `most_inners` inner nodes
pub record IsPath {X : Type 0} (inners inners_below : List (List (List X))) (leaves : List (List X)) (inners_above : List (List (List X))) (below : List (List X)) (rows : List X) (above : List (List X)) : Type 0 where
  pub cut_inners : Cuts least_leaves inners inners_below leaves inners_above
  pub cut_leaves : Cuts least_rows leaves below rows above
  pub are_leaves : AreNodes least_rows (flatten inners)
  pub size : length inners ≤ most_inners

-- these parts are cut at a position: between those below and those above is one more part if `is_there`, and otherwise none
abbrev pub IsCutAt : {X : Type 0} → Bool → List X → List X → List X → Type 0
IsCutAt {X} true parts below above = (part : X) × (parts ≡ below ++ part ∷ above)
IsCutAt false parts below above = parts ≡ below ++ above

-- the nodes have the parts of the nodes below, these parts, and those of the nodes above, and the sizes of nodes; there is at
-- most one node less than before the change, and at most one more
pub record IsRebuilt {X : Type 0} (least : ℕ) (below : List (List X)) (parts : List X) (above nodes : List (List X)) : Type 0 where
  pub flat : flatten nodes ≡ flatten below ++ (parts ++ flatten above)
  pub are_nodes : AreNodes least nodes
  pub fewest : length below + length above ≤ length nodes
  pub most : length nodes ≤ length below + length above + 2

-- the inner nodes after the path to a leaf was put back with these rows: the rows on both sides of that leaf are around them, and
-- all nodes have the sizes of nodes
pub record IsPathPutBack {X : Type 0} (inners_below : List (List (List X))) (below : List (List X)) (rows : List X) (above : List (List X)) (inners_above inners : List (List (List X))) : Type 0 where
  pub flat : flatten (flatten inners) ≡ flatten (flatten inners_below) ++ (flatten below ++ (rows ++ (flatten above ++ flatten (flatten inners_above))))
  pub are_inners : AreNodes least_leaves inners
  pub are_leaves : AreNodes least_rows (flatten inners)

-- ---- walks

-- the remaining rows of a walk, in order
abbrev pub walk_rows : {X : Type 0} → List X → List (List X) → List (List (List X)) → List (List X) → List X → List X
walk_rows rest leaves inners last_leaves last = rest ++ (flatten leaves ++ (flatten (flatten inners) ++ (flatten last_leaves ++ last)))

-- the nodes that a walk has yet to visit are full
abbrev pub AreWalkNodes : {X : Type 0} → List (List X) → List (List (List X)) → List (List X) → Type 0
AreWalkNodes leaves inners last_leaves = AreFullNodes least_rows leaves × AreFullNodes least_leaves inners × AreFullNodes least_rows (flatten inners) × AreFullNodes least_rows last_leaves
