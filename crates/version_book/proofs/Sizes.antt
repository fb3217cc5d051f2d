-- An index has at most as many rows as its entries have keys.
use Rattle.std.proofs.Common.{◌≡◌, ◌+◌, ◌≤◌, suc, Bool, true, false, List, [], ◌∷◌, ◌++◌, length, map, refl, sym, ap, subst, ◌∙◌, inl, inr, ⊎_elim, arith, length-append}
use Rattle.std.specs.Prelude.{if◌then◌else◌, nat_lt}
use Rattle.std.proofs.lemmas.List.{length-map}
use Rattle.std.specs.declared.cmp.Ordering.{Ordering}
use Rattle.std.specs.declared.cmp.Ordering.TheVariants.{Less, Equal}
use Rattle.std.specs.Ordering.{ordering_then}
use Rattle.std.specs.Cmp.{IsTotalOrder}
use Rattle.std.specs.Map.{keys_of}
use Rattle.std.proofs.lemmas.Cmp.{nat_list_cmp_total, nat_cmp_total, tied_itself}
use Rattle.std.proofs.lemmas.Map.Keys.{sorted_head, sorted_tail}
use Rattle.version_shelf.specs.Shelf.{IsInOrder}
use Rattle.entry_book.specs.Rows.{Bytes, Entry}
use Rattle.entry_book.specs.Order.{Within}
use Rattle.entry_book.proofs.Sets.{All-within, within_left, within_right}
use Rattle.version_book.specs.declared.key.KeyPart.{KeyPart}
use Rattle.version_book.specs.declared.key.KeyPart.TheVariants.{Start, At, End}
use Rattle.version_book.specs.declared.committed_row.CommittedRow.{CommittedRow}
use Rattle.version_book.specs.Index.{GroupKey, UserKey, ExpiryKey, group_keys, user_keys, expiry_keys, IsIndex}
use Rattle.version_book.specs.CommittedRows.{row_of}
use Rattle.version_book.specs.Room.{count_of_names}
use Rattle.version_book.specs.Stores.{count_of_keys}
use Rattle.version_book.proofs.KeyOrders.{bytes_cmp, id_cmp, identity_cmp, group_cmp, user_cmp, expiry_cmp}

-- ---- a list without repeats whose items are in another list isn't longer

module _ {X : Type 0} where
  abbrev Distinct : List X → Type 0
  Distinct [] = Unit {0}
  Distinct (x ∷ xs) = (Within xs x → ⊥) × Distinct xs

  -- the list without this item
  abbrev but_one : (ys : List X) (x : X) → Within ys x → List X
  but_one [] x w = []
  but_one (y ∷ ys) x (inl e) = ys
  but_one (y ∷ ys) x (inr v) = y ∷ but_one ys x v

  length-but_one : (ys : List X) (x : X) (w : Within ys x) → suc (length (but_one ys x w)) ≡ length ys
  length-but_one [] x w = absurd w
  length-but_one (y ∷ ys) x (inl e) = refl
  length-but_one (y ∷ ys) x (inr v) = ap suc (length-but_one ys x v)

  within_but_one : (ys : List X) (x : X) (w : Within ys x) (z : X) → Within ys z → (x ≡ z → ⊥) → Within (but_one ys x w) z
  within_but_one [] x w z v n = absurd v
  within_but_one (y ∷ ys) x (inl e) z v n = ⊎_elim (λ q. absurd (n (sym e ∙ q))) (λ u. u) v
  within_but_one (y ∷ ys) x (inr w) z v n = ⊎_elim (λ q. inl q) (λ u. inr (within_but_one ys x w z u n)) v

  no_longer : (xs ys : List X) → Distinct xs → ((x : X) → Within xs x → Within ys x) → length xs ≤ length ys
  no_longer [] ys d f = omega arith
  no_longer (x ∷ xs) ys d f =
      let w = f x (inl refl) in
      let rest = no_longer xs (but_one ys x w) d.1 (λ z v. within_but_one ys x w z (f z (inr v)) (λ e. d.0 (subst (Within xs) (sym e) v))) in
      let size = length-but_one ys x w in
      omega arith

-- ---- each row under each of its keys

abbrev all_rows : {K : Type 0} → (Entry → List K) → List (CommittedRow Entry) → List (K × CommittedRow Entry)
all_rows keys [] = []
all_rows keys (r ∷ rs) = map (λ k. (k, r)) (keys r.row) ++ all_rows keys rs

length-under : {K V : Type 0} (v : V) (ks : List K) → length (map {B = K × V} (λ k. (k, v)) ks) ≡ length ks
length-under v [] = refl
length-under v (k ∷ ks) = ap suc (length-under v ks)

within_under : {K V : Type 0} (v : V) (ks : List K) (k : K) → Within ks k → Within {X = K × V} (map (λ k. (k, v)) ks) (k, v)
within_under v [] k w = absurd w
within_under {K} v (c ∷ cs) k w = ⊎_elim (λ e. inl (ap (λ (d : K). (d, v)) e)) (λ u. inr (within_under v cs k u)) w

module _ {K : Type 0} (keys : Entry → List K) where
  length-all_rows : (rows : List (CommittedRow Entry)) → length (all_rows keys rows) ≡ count_of_keys keys rows
  length-all_rows [] = refl
  length-all_rows (r ∷ rs) =
      let here = length-under r (keys r.row) in
      let rest = length-all_rows rs in
      length-append (map (λ k. (k, r)) (keys r.row)) (all_rows keys rs) ∙ (λ i. here i + rest i)

  within_all_rows : (rows : List (CommittedRow Entry)) (k : K) (r : CommittedRow Entry) → Within rows r → Within (keys r.row) k → Within (all_rows keys rows) (k, r)
  within_all_rows [] k r w v = absurd w
  within_all_rows (s ∷ rs) k r w v = ⊎_elim
      (λ e. within_left (map (λ k. (k, s)) (keys s.row)) (all_rows keys rs) (k, r) (subst (λ (t : CommittedRow Entry). Within {X = K × CommittedRow Entry} (map (λ k. (k, t)) (keys s.row)) (k, r)) (sym e) (within_under r (keys s.row) k (subst (λ (t : CommittedRow Entry). Within (keys t.row) k) (sym e) v))))
      (λ u. within_right (map (λ k. (k, s)) (keys s.row)) (all_rows keys rs) (k, r) (within_all_rows rs k r u v))
      w

-- ---- rows in strictly ascending order have no repeats

within_keys : {K V : Type 0} (rows : List (K × V)) (r : K × V) → Within rows r → Within (keys_of rows) r.0
within_keys [] r w = absurd w
within_keys (s ∷ rs) r w = ⊎_elim (λ e. inl (ap (λ x. x.0) e)) (λ v. inr (within_keys rs r v)) w

module _ {K : Type 0} (cmp : K → K → Ordering) (itself : (k : K) → cmp k k ≡ Equal) where
  distinct : {V : Type 0} (rows : List (K × V)) → IsInOrder cmp rows → Distinct rows
  distinct [] sorted = tt
  distinct (r ∷ rs) sorted = (
    λ w. let below = All-within (λ y. cmp r.0 y ≡ Less) (keys_of rs) r.0 (sorted_head cmp r.0 (keys_of rs) sorted) (within_keys rs r w) in let same = itself r.0 in cc,
    distinct rs (sorted_tail cmp r.0 (keys_of rs) sorted),
  )

  pub index_size_by : (keys : Entry → List K) (rows : List (CommittedRow Entry)) (index : List (K × CommittedRow Entry)) → IsInOrder cmp index → IsIndex keys rows index → length index ≤ count_of_keys keys rows
  index_size_by keys rows index sorted i =
      let within = no_longer index (all_rows keys rows) (distinct index sorted) (λ x w. let r = i.sound x.0 x.1 w in within_all_rows keys rows x.0 x.1 r.0 r.1) in
      let size = length-all_rows keys rows in
      omega arith

pub index_size : {K : Type 0} {cmp : K → K → Ordering} → IsTotalOrder cmp → (keys : Entry → List K) (rows : List (CommittedRow Entry)) (index : List (K × CommittedRow Entry)) → IsInOrder cmp index → IsIndex keys rows index → length index ≤ count_of_keys keys rows
index_size {K} {cmp} o keys rows index sorted i = index_size_by cmp (tied_itself o) keys rows index sorted i

-- ---- the indexes of a version

then_equal : (a b : Ordering) → a ≡ Equal → b ≡ Equal → ordering_then a b ≡ Equal
then_equal a b p q = rw (p, q) refl

bytes_itself : (x : Bytes) → bytes_cmp x x ≡ Equal
bytes_itself x = tied_itself nat_list_cmp_total x

id_itself : (x : KeyPart Bytes) → id_cmp x x ≡ Equal
id_itself Start = refl
id_itself (At x) = bytes_itself x
id_itself End = refl

identity_itself : (x : KeyPart Bytes) → identity_cmp x x ≡ Equal
identity_itself Start = refl
identity_itself (At x) = bytes_itself x
identity_itself End = refl

pub groups_size : (rows : List (CommittedRow Entry)) (index : List (GroupKey × CommittedRow Entry)) → IsInOrder group_cmp index → IsIndex group_keys rows index → length index ≤ count_of_keys group_keys rows
groups_size rows index sorted i = index_size_by group_cmp (λ k. then_equal _ _ (then_equal _ _ (identity_itself k.0) (identity_itself k.1)) (id_itself k.2)) group_keys rows index sorted i

pub users_size : (rows : List (CommittedRow Entry)) (index : List (UserKey × CommittedRow Entry)) → IsInOrder user_cmp index → IsIndex user_keys rows index → length index ≤ count_of_keys user_keys rows
users_size rows index sorted i = index_size_by user_cmp (λ k. then_equal _ _ (bytes_itself k.0) (id_itself k.1)) user_keys rows index sorted i

pub expiries_size : (rows : List (CommittedRow Entry)) (index : List (ExpiryKey × CommittedRow Entry)) → IsInOrder expiry_cmp index → IsIndex expiry_keys rows index → length index ≤ count_of_keys expiry_keys rows
expiries_size rows index sorted i = index_size_by expiry_cmp (λ k. then_equal _ _ (tied_itself nat_cmp_total k.0) (id_itself k.1)) expiry_keys rows index sorted i

-- ---- the number of keys

pub length-user_keys : (e : Entry) → length (user_keys e) ≡ length e.domains
length-user_keys e = length-map e.domains (λ d. (d, At e.id))

length_if : {X : Type 0} (b : Bool) (x : X) → length (if b then x ∷ [] else []) ≤ 1
length_if true x = omega arith
length_if false x = omega arith

pub length-expiry_keys : (e : Entry) → length (expiry_keys e) ≤ 1
length-expiry_keys e = length_if (nat_lt 0 e.expiry) (e.expiry, At e.id)

pub count_of_groups : (rows : List (CommittedRow Entry)) → count_of_keys group_keys rows ≡ length rows
count_of_groups [] = refl
count_of_groups (r ∷ rs) = let rest = count_of_groups rs in omega arith

pub count_of_users : (rows : List (CommittedRow Entry)) → count_of_keys user_keys rows ≡ count_of_names (map row_of rows)
count_of_users [] = refl
count_of_users (r ∷ rs) =
    let rest = count_of_users rs in
    let here = length-user_keys r.row in
    λ i. here i + rest i

pub count_of_expiries : (rows : List (CommittedRow Entry)) → count_of_keys expiry_keys rows ≤ length rows
count_of_expiries [] = omega arith
count_of_expiries (r ∷ rs) = let rest = count_of_expiries rs in let here = length-expiry_keys r.row in omega arith
