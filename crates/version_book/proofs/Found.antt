-- The entries of a range, sorted by their ids.
use Rattle.std.proofs.Common.{◌≡◌, ◌≢◌, ℕ, suc, ◌<◌, ◌≤◌, Bool, true, false, cond, ◌&&◌, List, [], ◌∷◌, length, map, get_or, refl, sym, ap, subst, ◌∙◌, inl, inr, ⊎_elim, arith, add-one}
use Rattle.std.specs.Prelude.{filter, bytes_eq}
use Rattle.std.specs.declared.cmp.Ordering.{Ordering}
use Rattle.std.specs.declared.cmp.Ordering.TheVariants.{Less}
use Rattle.std.specs.Ordering.{is_lt, is_ge, nat_cmp}
use Rattle.std.specs.Cmp.{IsTotalOrder}
use Rattle.std.specs.Cmp.Lexicographic.{slice_cmp}
use Rattle.std.specs.List.{AllByRecursion, Contains, sum_by}
use Rattle.std.specs.List.Sorted.{IsPermutation, IsSortedByKey}
use Rattle.std.specs.Map.{keys_of}
use Rattle.std.proofs.lemmas.Bool.{both_ways}
use Rattle.std.proofs.lemmas.Cmp.{tied_itself}
use Rattle.std.proofs.lemmas.List.Sorted.{Contains-permutation, IsPermutation-sym, sum_by-IsPermutation}
use Rattle.std.proofs.lemmas.List.Sums.{sum_by-cons}
use Rattle.std.proofs.lemmas.Map.Keys.{sorted_head, sorted_tail}
use Rattle.version_shelf.specs.Shelf.{IsInOrder, rows_between}
use Rattle.entry_book.specs.Rows.{Bytes, Entry, entry_key}
use Rattle.entry_book.specs.Order.{Ascending, Within, is_before}
use Rattle.entry_book.proofs.Items.{within_get}
use Rattle.entry_book.proofs.Keys.{same_key}
use Rattle.entry_book.proofs.Sets.{All-within, All-from_within, within_filter, from_within_filter, ascending_filter, same_sets, before-trans, before-total, text_is, text_same}
use Rattle.version_book.specs.declared.committed_row.CommittedRow.{CommittedRow}
use Rattle.version_book.specs.CommittedRows.{of_row, row_of}
use Rattle.version_book.specs.Index.{IsIndex, Covers, is_between}

-- ---- members of a mapped list, and of a list by an index

module _ {X Y : Type 0} (f : X → Y) where
  within_map : (xs : List X) (x : X) → Within xs x → Within (map f xs) (f x)
  within_map [] x w = absurd w
  within_map (y ∷ ys) x w = ⊎_elim (λ e. inl (ap f e)) (λ v. inr (within_map ys x v)) w

  from_within_map : (xs : List X) (y : Y) → Within (map f xs) y → (x : X) × Within xs x × (f x ≡ y)
  from_within_map [] y w = absurd w
  from_within_map (x ∷ xs) y w = ⊎_elim (λ e. (x, inl refl, e)) (λ v. let r = from_within_map xs y v in (r.0, inr r.1, r.2)) w

module _ {X : Type 0} where
  from_contains : (xs : List X) (x : X) → Contains xs x → Within xs x
  from_contains xs x c = within_get xs c.0 x c.1 (sym c.2)

  contains_from : (xs : List X) (x : X) → Within xs x → Contains xs x
  contains_from [] x w = absurd w
  contains_from (y ∷ ys) x w = ⊎_elim (λ e. (0, omega arith, e)) (λ v. let r = contains_from ys x v in (suc r.0, (let h = r.1 in omega arith), r.2)) w

-- ---- no id twice

-- each entry's id differs from those of all later ones
abbrev pub Apart : List Entry → Type 0
Apart [] = Unit {0}
Apart (x ∷ xs) = AllByRecursion (λ y. x.id ≢ y.id) xs × Apart xs

-- 1 if the entry has this id, and otherwise 0
abbrev hit : Bytes → Entry → ℕ
hit id e = cond (bytes_eq e.id id) 1 0

hit_is : (id : Bytes) (e : Entry) → e.id ≡ id → hit id e ≡ 1
hit_is id e q = rw (text_same e.id id q) refl

no_hit : (id : Bytes) (e : Entry) → id ≢ e.id → hit id e ≡ 0
no_hit id e n = elim (bytes_eq e.id id) as (λ b. bytes_eq e.id id ≡ b → ◌≡◌ {A = ℕ} (cond b 1 0) 0) [ true ↦ λ q. absurd (n (sym (text_is e.id id q))) | false ↦ λ q. refl ] refl

no_hits : (id : Bytes) (es : List Entry) → AllByRecursion (λ y. id ≢ y.id) es → sum_by (hit id) es ≡ 0
no_hits id [] all = refl
no_hits id (e ∷ es) all = let a = no_hit id e all.0 in let b = no_hits id es all.1 in sum_by-cons (hit id) e es ∙ omega arith

once_each : (es : List Entry) → Apart es → (id : Bytes) → sum_by (hit id) es ≤ 1
once_each [] apart id = omega arith
once_each (e ∷ es) apart id =
    let parts = sum_by-cons (hit id) e es in
    elim (bytes_eq e.id id) as (λ b. bytes_eq e.id id ≡ b → sum_by (hit id) (e ∷ es) ≤ 1) [
      | true ↦ λ q.
          let here = hit_is id e (text_is e.id id q) in
          let none = no_hits id es (subst (λ k. AllByRecursion (λ y. k ≢ y.id) es) (text_is e.id id q) apart.0) in
          omega arith
      | false ↦ λ q.
          let here : hit id e ≡ 0 = rw q refl in
          let rest = once_each es apart.1 id in
          omega arith
    ] refl

-- ---- sorted entries without a repeated id are in ascending order

ascending_from : (es : List Entry) → ((k : ℕ) (d : Entry) → suc k < length es → is_before (get_or es (suc k) d).id (get_or es k d).id ≡ false) → ((id : Bytes) → sum_by (hit id) es ≤ 1) → Ascending entry_key es
ascending_from [] sorted once = tt
ascending_from (y ∷ []) sorted once = (tt, tt)
ascending_from (y ∷ z ∷ zs) sorted once =
    let rest = ascending_from (z ∷ zs) (λ k d h. sorted (suc k) d (omega arith)) (λ id. let a = once id in let b = sum_by-cons (hit id) y (z ∷ zs) in omega arith) in
    let differ : y.id ≢ z.id = λ e.
    let a = once z.id in
    let b = sum_by-cons (hit z.id) y (z ∷ zs) in
    let c = sum_by-cons (hit z.id) z zs in
    let h = hit_is z.id y e in
    let k = hit_is z.id z refl in
    omega arith in
    let first : is_before y.id z.id ≡ true = ⊎_elim (λ b. b) (λ v. ⊎_elim (λ e. absurd (differ e)) (λ b. absurd (both_ways (is_before z.id y.id) (sorted 0 y (omega arith)) b)) v) (before-total y.id z.id) in
    ((first, All-from_within (λ w. is_before y.id w.id ≡ true) zs (λ w v. before-trans y.id z.id w.id first (All-within (λ w. is_before z.id w.id ≡ true) zs w rest.0 v))), rest)

sorted_is : (es : List Entry) → IsSortedByKey entry_key (slice_cmp nat_cmp) es → (k : ℕ) (d : Entry) → suc k < length es → is_before (get_or es (suc k) d).id (get_or es k d).id ≡ false
unfolding is_before
sorted_is es sorted k d h = subst (λ n. is_lt (slice_cmp nat_cmp (get_or es n d).id (get_or es k d).id) ≡ false) (add-one k) (sorted k d (omega arith) (omega arith))

-- ---- the entries of a range of an index

abbrev pub entry_of : {K : Type 0} → K × CommittedRow Entry → Entry
entry_of x = x.1.row

ascending_rows : (rows : List (CommittedRow Entry)) → Ascending (of_row entry_key) rows → Ascending entry_key (map row_of rows)
ascending_rows [] a = tt
ascending_rows (r ∷ rs) a = (
  All-from_within (λ e. is_before r.row.id e.id ≡ true) (map row_of rs) (λ e w. let s = from_within_map row_of rs e w in subst (λ (x : Entry). is_before r.row.id x.id ≡ true) s.2 (All-within (λ (s : CommittedRow Entry). is_before r.row.id s.row.id ≡ true) rs s.0 a.0 s.1)),
  ascending_rows rs a.1,
)

within_keys : {K V : Type 0} (rows : List (K × V)) (r : K × V) → Within rows r → Within (keys_of rows) r.0
within_keys [] r w = absurd w
within_keys (s ∷ rs) r w = ⊎_elim (λ e. inl (ap (λ x. x.0) e)) (λ v. inr (within_keys rs r v)) w

module _ {K : Type 0} {cmp : K → K → Ordering} (o : IsTotalOrder cmp) (keys : Entry → List K) (rows : List (CommittedRow Entry)) (index : List (K × CommittedRow Entry)) (i : IsIndex keys rows index) (ascending : Ascending (of_row entry_key) rows) (lo hi : K) (p : Entry → Bool) (covers : Covers cmp keys lo hi p) where
  one_key : (k l : K) (r s : CommittedRow Entry) → Within index (k, r) × (is_between cmp lo hi k ≡ true) → Within index (l, s) × (is_between cmp lo hi l ≡ true) → r.row.id ≡ s.row.id → k ≡ l
  one_key k l r s a b e =
      let x = i.sound k r a.0 in
      let y = i.sound l s b.0 in
      let same : r ≡ s = same_key (of_row entry_key) rows ascending r s x.0 y.0 e in
      covers.once r.row k l x.1 (subst (λ (t : CommittedRow Entry). Within (keys t.row) l) (sym same) y.1) a.1 b.1

  apart : (found : List (K × CommittedRow Entry)) → IsInOrder cmp found → ((k : K) (r : CommittedRow Entry) → Within found (k, r) → Within index (k, r) × (is_between cmp lo hi k ≡ true)) → Apart (map entry_of found)
  apart [] sorted all = tt
  apart (x ∷ xs) sorted all = (
    All-from_within (λ y. x.1.row.id ≢ y.id) (map entry_of xs) (λ e w q.
        let y = from_within_map entry_of xs e w in
        let same : x.0 ≡ y.0.0 = one_key x.0 y.0.0 x.1 y.0.1 (all x.0 x.1 (inl refl)) (all y.0.0 y.0.1 (inr y.1)) (q ∙ sym (ap (λ (t : Entry). t.id) y.2)) in
        let less = All-within (λ k. cmp x.0 k ≡ Less) (keys_of xs) y.0.0 (sorted_head cmp x.0 (keys_of xs) sorted) (within_keys xs y.0 y.1) in
        let itself = tied_itself o x.0 in
        let less_itself : cmp x.0 x.0 ≡ Less = subst (λ k. cmp x.0 k ≡ Less) (sym same) less in
        cc),
    apart xs (sorted_tail cmp x.0 (keys_of xs) sorted) (λ k r w. all k r (inr w)),
  )

  all_between : (k : K) (r : CommittedRow Entry) → Within (rows_between cmp index lo hi) (k, r) → Within index (k, r) × (is_between cmp lo hi k ≡ true)
  all_between k r w = from_within_filter (λ row. is_ge (cmp row.0 lo) && is_lt (cmp row.0 hi)) index (k, r) w

  from_found : (e : Entry) → Within (map entry_of (rows_between cmp index lo hi)) e → Within (filter p (map row_of rows)) e
  from_found e w =
      let x = from_within_map entry_of (rows_between cmp index lo hi) e w in
      let b = all_between x.0.0 x.0.1 x.1 in
      let s = i.sound x.0.0 x.0.1 b.0 in
      subst (Within (filter p (map row_of rows))) x.2 (within_filter p (map row_of rows) x.0.1.row (within_map row_of rows x.0.1 s.0) (covers.sound x.0.1.row x.0.0 s.1 b.1))

  within_found : (e : Entry) → Within (filter p (map row_of rows)) e → Within (map entry_of (rows_between cmp index lo hi)) e
  within_found e w =
      let f = from_within_filter p (map row_of rows) e w in
      let r = from_within_map row_of rows e f.0 in
      let k = covers.complete r.0.row (subst (λ (x : Entry). p x ≡ true) (sym r.2) f.1) in
      let there = i.complete k.0 r.0 r.1 k.1 in
      let between = within_filter (λ row. is_ge (cmp row.0 lo) && is_lt (cmp row.0 hi)) index (k.0, r.0) there k.2 in
      subst (Within (map entry_of (rows_between cmp index lo hi))) r.2 (within_map entry_of (rows_between cmp index lo hi) (k.0, r.0) between)

  pub found_is : IsInOrder cmp (rows_between cmp index lo hi) → (read found : List Entry) → read ≡ map entry_of (rows_between cmp index lo hi) → IsPermutation read found → IsSortedByKey entry_key (slice_cmp nat_cmp) found → found ≡ filter p (map row_of rows)
  found_is order read found reads moved sorted =
      let once : (id : Bytes) → sum_by (hit id) found ≤ 1 = λ id.
      let a = once_each (map entry_of (rows_between cmp index lo hi)) (apart (rows_between cmp index lo hi) order all_between) id in
      let b = sum_by-IsPermutation (hit id) read found moved in
      let c = ap (sum_by (hit id)) reads in
      omega arith in
      same_sets entry_key found (filter p (map row_of rows)) (ascending_from found (sorted_is found sorted) once) (ascending_filter entry_key p (map row_of rows) (ascending_rows rows ascending))
      (λ e w. from_found e (subst (λ l. Within l e) reads (from_contains read e (Contains-permutation found read e (IsPermutation-sym read found moved) (contains_from found e w)))))
      (λ e w. from_contains found e (Contains-permutation read found e moved (contains_from read e (subst (λ l. Within l e) (sym reads) (within_found e w)))))
