-- Are the entries of a range equal if their stamps are?
use Rattle.std.proofs.Common.{◌≡◌, Bool, true, List, [], ◌∷◌, Option, Some, None, refl, sym, ap, subst, ◌∙◌, inl, inr, ⊎_elim, option_map}
use Rattle.std.specs.Prelude.{filter, option_to_list}
use Rattle.std.specs.declared.cmp.Ordering.{Ordering}
use Rattle.std.specs.declared.cmp.Ordering.TheVariants.{Less, Equal, Greater}
use Rattle.std.specs.Ordering.{ordering_reverse, ordering_then}
use Rattle.std.specs.Map.{keys_of}
use Rattle.std.proofs.lemmas.Cmp.{nat_list_cmp_total, nat_cmp_total}
use Rattle.std.proofs.lemmas.Map.Keys.{sorted_head, sorted_tail}
use Rattle.version_shelf.specs.Shelf.{IsInOrder, rows_between}
use Rattle.entry_book.specs.Rows.{Bytes, Entry, entry_key}
use Rattle.entry_book.specs.Order.{Within, Ascending}
use Rattle.entry_book.proofs.Sets.{All-within, ascending_filter, from_within_filter, within_filter, same_sets}
use Rattle.version_book.specs.declared.key.KeyPart.TheVariants.{Start, At, End}
use Rattle.version_book.specs.declared.committed_row.CommittedRow.{CommittedRow}
use Rattle.version_book.specs.Index.{Covers, IsIndex, is_between}
use Rattle.version_book.specs.CommittedRows.{of_row}
use Rattle.version_book.specs.Stores.{IdentifyRows, stamp, stamps}
use Rattle.version_book.proofs.KeyOrders.{bytes_cmp, id_cmp, identity_cmp, group_cmp, user_cmp, expiry_cmp}
use Rattle.version_book.proofs.Mapped.{from_within_map, within_map}

-- ---- orders that are reversed if their arguments are swapped

abbrev Turns : {K : Type 0} → (K → K → Ordering) → Type 0
Turns cmp = (k l : _) → cmp k l ≡ ordering_reverse (cmp l k)

reverse_then : (a b : Ordering) → ordering_reverse (ordering_then a b) ≡ ordering_then (ordering_reverse a) (ordering_reverse b)
reverse_then Less b = refl
reverse_then Equal b = refl
reverse_then Greater b = refl

turns_then : (a b c d : Ordering) → a ≡ ordering_reverse c → b ≡ ordering_reverse d → ordering_then a b ≡ ordering_reverse (ordering_then c d)
turns_then a b c d p q = (λ i. ordering_then (p i) (q i)) ∙ sym (reverse_then c d)

turns_bytes : Turns bytes_cmp
turns_bytes k l = nat_list_cmp_total.antisymm k l

turns_ids : Turns id_cmp
turns_ids Start Start = refl
turns_ids Start (At y) = refl
turns_ids Start End = refl
turns_ids (At x) Start = refl
turns_ids (At x) (At y) = turns_bytes x y
turns_ids (At x) End = refl
turns_ids End Start = refl
turns_ids End (At y) = refl
turns_ids End End = refl

turns_identities : Turns identity_cmp
turns_identities Start Start = refl
turns_identities Start (At y) = refl
turns_identities Start End = refl
turns_identities (At x) Start = refl
turns_identities (At x) (At y) = turns_bytes x y
turns_identities (At x) End = refl
turns_identities End Start = refl
turns_identities End (At y) = refl
turns_identities End End = refl

pub turns_groups : Turns group_cmp
turns_groups k l = turns_then _ _ _ _ (turns_then _ _ _ _ (turns_identities k.0 l.0) (turns_identities k.1 l.1)) (turns_ids k.2 l.2)

pub turns_users : Turns user_cmp
turns_users k l = turns_then _ _ _ _ (turns_bytes k.0 l.0) (turns_ids k.1 l.1)

pub turns_expiries : Turns expiry_cmp
turns_expiries k l = turns_then _ _ _ _ (nat_cmp_total.antisymm k.0 l.0) (turns_ids k.1 l.1)

-- ---- rows in order with the same members are the same list

not_both : {K : Type 0} (cmp : K → K → Ordering) → Turns cmp → (k l : K) → cmp k l ≡ Less → cmp l k ≡ Less → ⊥
not_both cmp turns k l e f = let t = turns k l in let g = ap ordering_reverse f in cc

module _ {K V : Type 0} (cmp : K → K → Ordering) (turns : Turns cmp) where
  below : (x : K × V) (xs : List (K × V)) → IsInOrder cmp (x ∷ xs) → (z : K × V) → Within xs z → cmp x.0 z.0 ≡ Less
  below x xs sorted z w = All-within (λ y. cmp x.0 y ≡ Less) (keys_of xs) z.0 (sorted_head cmp x.0 (keys_of xs) sorted) (within_map (λ (r : K × V). r.0) xs z w)

  same_members : (xs ys : List (K × V)) → IsInOrder cmp xs → IsInOrder cmp ys → ((x : K × V) → Within xs x → Within ys x) → ((x : K × V) → Within ys x → Within xs x) → xs ≡ ys
  same_members [] [] a b f g = refl
  same_members [] (y ∷ ys) a b f g = absurd (g y (inl refl))
  same_members (x ∷ xs) [] a b f g = absurd (f x (inl refl))
  same_members (x ∷ xs) (y ∷ ys) a b f g =
      let head : x ≡ y = ⊎_elim (λ e. sym e) (λ v. ⊎_elim (λ e. e) (λ w. absurd (not_both cmp turns x.0 y.0 (below x xs a y w) (below y ys b x v))) (g y (inl refl))) (f x (inl refl)) in
      let tail : xs ≡ ys = same_members xs ys (sorted_tail cmp x.0 (keys_of xs) a) (sorted_tail cmp y.0 (keys_of ys) b)
      (λ z w. ⊎_elim (λ e. absurd (let itself = below x xs a x (subst (Within xs) (sym (head ∙ e)) w) in not_both cmp turns x.0 x.0 itself itself)) (λ v. v) (f z (inr w)))
      (λ z w. ⊎_elim (λ e. absurd (let itself = below y ys b y (subst (Within ys) (sym (sym head ∙ e)) w) in not_both cmp turns y.0 y.0 itself itself)) (λ v. v) (g z (inr w))) in
      cc

-- ---- the entries of a range and their keys

module _ {K : Type 0} (cmp : K → K → Ordering) (keys : Entry → List K) (lo hi : K) (p : Entry → Bool) (covers : Covers cmp keys lo hi p) where
  in_range : (rows : List (CommittedRow Entry)) (index : List (K × CommittedRow Entry)) → IsIndex keys rows index → (r : CommittedRow Entry) → Within (filter (of_row p) rows) r → (k : K) × Within (rows_between cmp index lo hi) (k, r)
  in_range rows index i r w =
      let f = from_within_filter (of_row p) rows r w in
      let c = covers.complete r.row f.1 in
      (c.0, within_filter (λ row. is_between cmp lo hi row.0) index (c.0, r) (i.complete c.0 r f.0 c.1) c.2)

  from_range : (rows : List (CommittedRow Entry)) (index : List (K × CommittedRow Entry)) → IsIndex keys rows index → (x : K × CommittedRow Entry) → Within (rows_between cmp index lo hi) x → Within (filter (of_row p) rows) x.1 × Within (keys x.1.row) x.0 × (is_between cmp lo hi x.0 ≡ true)
  from_range rows index i x w =
      let f = from_within_filter (λ row. is_between cmp lo hi row.0) index x w in
      let s = i.sound x.0 x.1 f.0 in
      (within_filter (of_row p) rows x.1 s.0 (covers.sound x.1.row x.0 s.1 f.1), s.1, f.1)

  across : (rows others : List (CommittedRow Entry)) (one other : List (K × CommittedRow Entry)) → IsIndex keys rows one → IsIndex keys others other → filter (of_row p) rows ≡ filter (of_row p) others → (x : K × CommittedRow Entry) → Within (rows_between cmp one lo hi) x → Within (rows_between cmp other lo hi) x
  across rows others one other i j e x w =
      let f = from_range rows one i x w in
      let there = from_within_filter (of_row p) others x.1 (subst (λ l. Within l x.1) e f.0) in
      within_filter (λ row. is_between cmp lo hi row.0) other x (j.complete x.0 x.1 there.0 f.1) f.2

  -- equal rows have equal stamps
  pub range_same : Turns cmp → (rows others : List (CommittedRow Entry)) (one other : List (K × CommittedRow Entry)) → IsIndex keys rows one → IsIndex keys others other → IsInOrder cmp (rows_between cmp one lo hi) → IsInOrder cmp (rows_between cmp other lo hi) → filter (of_row p) rows ≡ filter (of_row p) others → stamps (rows_between cmp one lo hi) ≡ stamps (rows_between cmp other lo hi)
  range_same turns rows others one other i j sorted ordered e = ap stamps (same_members cmp turns (rows_between cmp one lo hi) (rows_between cmp other lo hi) sorted ordered (across rows others one other i j e) (across others rows other one j i (sym e)))

  -- a row is among the others if they have its stamp and equal stamps imply equal rows
  found : (rows others : List (CommittedRow Entry)) (one other : List (K × CommittedRow Entry)) → IsIndex keys rows one → IsIndex keys others other → ((r s : CommittedRow Entry) → Within rows r → Within others s → entry_key r.row ≡ entry_key s.row → r.commit ≡ s.commit → r ≡ s) → stamps (rows_between cmp one lo hi) ≡ stamps (rows_between cmp other lo hi) → (r : CommittedRow Entry) → Within (filter (of_row p) rows) r → Within (filter (of_row p) others) r
  found rows others one other i j is_exact e r w =
      let a = in_range rows one i r w in
      let b = from_within_map (stamp {K = K}) (rows_between cmp other lo hi) (stamp (a.0, r)) (subst (λ l. Within l (stamp {K = K} (a.0, r))) e (within_map (stamp {K = K}) (rows_between cmp one lo hi) (a.0, r) a.1)) in
      let s = from_range others other j b.0 b.1 in
      let same : r ≡ b.0.1 = is_exact r b.0.1 (from_within_filter (of_row p) rows r w).0 (from_within_filter (of_row p) others b.0.1 s.0).0 (sym (ap (λ t. t.0) b.2)) (sym (ap (λ t. t.1) b.2)) in
      subst (Within (filter (of_row p) others)) (sym same) s.0

  -- equal stamps imply equal rows
  pub range_identified : (rows others : List (CommittedRow Entry)) (one other : List (K × CommittedRow Entry)) → IsIndex keys rows one → IsIndex keys others other → Ascending (of_row entry_key) rows → Ascending (of_row entry_key) others → IdentifyRows entry_key rows others → stamps (rows_between cmp one lo hi) ≡ stamps (rows_between cmp other lo hi) → filter (of_row p) rows ≡ filter (of_row p) others
  range_identified rows others one other i j a b is_exact e = same_sets (of_row entry_key) (filter (of_row p) rows) (filter (of_row p) others) (ascending_filter (of_row entry_key) (of_row p) rows a) (ascending_filter (of_row entry_key) (of_row p) others b)
      (found rows others one other i j is_exact e)
      (found others rows other one j i (λ s r v w k n. sym (is_exact r s w v (sym k) (sym n))) (sym e))

-- ---- a single row

pub row_same : {X : Type 0} (one other : Option (CommittedRow X)) → option_to_list one ≡ option_to_list other → option_map (λ r. r.commit) one ≡ option_map (λ r. r.commit) other
row_same None None e = refl
row_same None (Some s) e = cc
row_same (Some r) None e = cc
row_same (Some r) (Some s) e = let q : r ≡ s = cc in ap (λ x. Some x.commit) q

pub row_identified : {X : Type 0} (key : X → Bytes) (p : X → Bool) (rows others : List (CommittedRow X)) (one other : Option (CommittedRow X)) → filter (of_row p) rows ≡ option_to_list one → filter (of_row p) others ≡ option_to_list other → ((r s : CommittedRow X) → p r.row ≡ true → p s.row ≡ true → key r.row ≡ key s.row) → IdentifyRows key rows others → option_map (λ r. r.commit) one ≡ option_map (λ r. r.commit) other → filter (of_row p) rows ≡ filter (of_row p) others
row_identified key p rows others None None a b alone is_exact e = a ∙ sym b
row_identified key p rows others None (Some s) a b alone is_exact e = cc
row_identified key p rows others (Some r) None a b alone is_exact e = cc
row_identified key p rows others (Some r) (Some s) a b alone is_exact e =
    let left = from_within_filter (of_row p) rows r (subst (λ l. Within l r) (sym a) (inl refl)) in
    let right = from_within_filter (of_row p) others s (subst (λ l. Within l s) (sym b) (inl refl)) in
    let commit : r.commit ≡ s.commit = cc in
    let same : r ≡ s = is_exact r s left.0 right.0 (alone r s left.1 right.1) commit in
    a ∙ (ap (λ x. x ∷ []) same ∙ sym b)
