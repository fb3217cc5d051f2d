-- How do keys compare, and which entries have a key? Keys that compare as equal are equal, and a key belongs to one entry's id.
use Rattle.std.proofs.Common.{◌≡◌, Bool, true, false, List, [], ◌∷◌, map, refl, sym, ap, ◌∙◌, inl, inr, ⊎_elim}
use Rattle.std.specs.Prelude.{if◌then◌else◌}
use Rattle.std.specs.declared.cmp.Ordering.{Ordering}
use Rattle.std.specs.declared.cmp.Ordering.TheVariants.{Less, Equal, Greater}
use Rattle.std.specs.Ordering.{is_eq, ordering_then, nat_cmp}
use Rattle.std.specs.Cmp.Lexicographic.{slice_cmp}
use Rattle.std.specs.FinMap.{slice_cmp-IsAntisymmetric, nat_cmp-IsAntisymmetric}
use Rattle.entry_book.specs.Rows.{Bytes}
use Rattle.entry_book.specs.Order.{Within}
use denote.Enum.Compared.{by}
use denote.RattleType.{RattleType}
use Rattle.uuid.specs.contracts.Uuid as uuid
use Rattle.entry_book.specs.contracts.shared.Shared as shared
use Rattle.spiffe_name.specs.contracts.spiffe_id.SpiffeId as spiffe_id
use Rattle.version_book.specs.contracts.key.KeyPart as edge
use Rattle.version_book.specs.declared.key.KeyPart.{KeyPart}
use Rattle.version_book.specs.declared.key.KeyPart.TheVariants.{Start, At, End}
use Rattle.version_book.specs.Index.{GroupKey, UserKey, ExpiryKey, group_keys, user_keys, expiry_keys, IsExactOrder, KeysIdentify}

-- ---- keys that compare as equal are equal

equal_from : (o : Ordering) → is_eq o ≡ true → o ≡ Equal
equal_from Less h = cc
equal_from Equal h = refl
equal_from Greater h = cc

pub exact_bytes : IsExactOrder (slice_cmp nat_cmp)
exact_bytes k l h = slice_cmp-IsAntisymmetric nat_cmp-IsAntisymmetric k l (equal_from _ h)

pub exact_numbers : IsExactOrder nat_cmp
exact_numbers k l h = nat_cmp-IsAntisymmetric k l (equal_from _ h)

-- the results of the derived order of key parts
pub record IsEdgeOrder {T : Type 0} (at : T → T → Ordering) (cmp : KeyPart T → KeyPart T → Ordering) : Type 0 where
  pub start_start : cmp Start Start ≡ Equal
  pub start_at : (y : T) → cmp Start (At y) ≡ Less
  pub start_end : cmp Start End ≡ Less
  pub at_start : (x : T) → cmp (At x) Start ≡ Greater
  pub at_at : (x y : T) → cmp (At x) (At y) ≡ at x y
  pub at_end : (x : T) → cmp (At x) End ≡ Less
  pub end_start : cmp End Start ≡ Greater
  pub end_at : (y : T) → cmp End (At y) ≡ Greater
  pub end_end : cmp End End ≡ Equal

not_less : {G : Type 0} (o : Ordering) → o ≡ Less → is_eq o ≡ true → G
not_less o e h = cc

not_greater : {G : Type 0} (o : Ordering) → o ≡ Greater → is_eq o ≡ true → G
not_greater o e h = cc

pub exact_edges : {T : Type 0} {at : T → T → Ordering} {cmp : KeyPart T → KeyPart T → Ordering} → IsEdgeOrder at cmp → IsExactOrder at → IsExactOrder cmp
exact_edges o is_exact Start Start h = refl
exact_edges o is_exact Start (At y) h = not_less _ (o.start_at y) h
exact_edges o is_exact Start End h = not_less _ o.start_end h
exact_edges o is_exact (At x) Start h = not_greater _ (o.at_start x) h
exact_edges o is_exact (At x) (At y) h = ap At (is_exact x y (ap is_eq (sym (o.at_at x y)) ∙ h))
exact_edges o is_exact (At x) End h = not_less _ (o.at_end x) h
exact_edges o is_exact End Start h = not_greater _ o.end_start h
exact_edges o is_exact End (At y) h = not_greater _ (o.end_at y) h
exact_edges o is_exact End End h = refl

both_equal : (a b : Ordering) → is_eq (ordering_then a b) ≡ true → (is_eq a ≡ true) × (is_eq b ≡ true)
both_equal Less b h = cc
both_equal Equal b h = (refl, h)
both_equal Greater b h = cc

pub exact_pairs : {A B : Type 0} (a : A → A → Ordering) (b : B → B → Ordering) → IsExactOrder a → IsExactOrder b → IsExactOrder {K = A × B} (λ x y. ordering_then (a x.0 y.0) (b x.1 y.1))
exact_pairs a b first second k l h =
    let parts = both_equal _ _ h in
    let left : k.0 ≡ l.0 = first k.0 l.0 parts.0 in
    let right : k.1 ≡ l.1 = second k.1 l.1 parts.1 in
    λ i. (left i, right i)

pub exact_triples : {A B C : Type 0} (a : A → A → Ordering) (b : B → B → Ordering) (c : C → C → Ordering) → IsExactOrder a → IsExactOrder b → IsExactOrder c → IsExactOrder {K = A × B × C} (λ x y. ordering_then (ordering_then (a x.0 y.0) (b x.1 y.1)) (c x.2 y.2))
exact_triples a b c first second third k l h =
    let parts = both_equal _ _ h in
    let fronts = both_equal _ _ parts.0 in
    let left : k.0 ≡ l.0 = first k.0 l.0 fronts.0 in
    let middle : k.1 ≡ l.1 = second k.1 l.1 fronts.1 in
    let right : k.2 ≡ l.2 = third k.2 l.2 parts.1 in
    λ i. (left i, middle i, right i)

-- ---- the derived orders

abbrev pub bytes_cmp : Bytes → Bytes → Ordering
bytes_cmp x y = slice_cmp nat_cmp x y

-- the derived order of the key parts of a type
abbrev pub edges_cmp : (T : RattleType) → (T.Denot → T.Denot → Ordering) → KeyPart T.Denot → KeyPart T.Denot → Ordering
edges_cmp T cmp x y = by Less Greater (edge.enum T).parts (λ _ _. Equal, (λ a b. cmp a.0 b.0, (λ _ _. Equal, tt {0}))) (edge.as_values T x) (edge.as_values T y)

pub edges_order : (T : RattleType) (cmp : T.Denot → T.Denot → Ordering) → IsEdgeOrder cmp (edges_cmp T cmp)
edges_order T cmp = record { start_start = refl; start_at = λ _. refl; start_end = refl; at_start = λ _. refl; at_at = λ _ _. refl; at_end = λ _. refl; end_start = refl; end_at = λ _. refl; end_end = refl }

abbrev pub id_cmp : KeyPart Bytes → KeyPart Bytes → Ordering
id_cmp x y = edges_cmp uuid.the_row bytes_cmp x y

abbrev pub identity_cmp : KeyPart Bytes → KeyPart Bytes → Ordering
identity_cmp x y = edges_cmp (shared.the_row spiffe_id.the_row) bytes_cmp x y

abbrev pub group_cmp : GroupKey → GroupKey → Ordering
group_cmp x y = ordering_then (ordering_then (identity_cmp x.0 y.0) (identity_cmp x.1 y.1)) (id_cmp x.2 y.2)

abbrev pub user_cmp : UserKey → UserKey → Ordering
user_cmp x y = ordering_then (bytes_cmp x.0 y.0) (id_cmp x.1 y.1)

abbrev pub expiry_cmp : ExpiryKey → ExpiryKey → Ordering
expiry_cmp x y = ordering_then (nat_cmp x.0 y.0) (id_cmp x.1 y.1)

pub exact_ids : IsExactOrder id_cmp
exact_ids = exact_edges (edges_order uuid.the_row bytes_cmp) exact_bytes

pub exact_identities : IsExactOrder identity_cmp
exact_identities = exact_edges (edges_order (shared.the_row spiffe_id.the_row) bytes_cmp) exact_bytes

pub exact_groups : IsExactOrder group_cmp
exact_groups = exact_triples identity_cmp identity_cmp id_cmp exact_identities exact_identities exact_ids

pub exact_users : IsExactOrder user_cmp
exact_users = exact_pairs bytes_cmp id_cmp exact_bytes exact_ids

pub exact_expiries : IsExactOrder expiry_cmp
exact_expiries = exact_pairs nat_cmp id_cmp exact_numbers exact_ids

-- ---- keys of entries

same_at : {T : Type 0} (x y : T) → At x ≡ At y → x ≡ y
same_at x y e = cc

pub groups_identify : KeysIdentify group_keys
groups_identify e f k w v = ⊎_elim (λ p. ⊎_elim (λ q. same_at e.id f.id (ap (λ k. k.2) (p ∙ sym q))) (λ n. absurd n) v) (λ n. absurd n) w

-- the keys of an entry with its trust domains
pub from_users : (id : Bytes) (domains : List Bytes) (k : UserKey) → Within (map (λ d. (d, At id)) domains) k → Within domains k.0 × (k.1 ≡ At id)
from_users id [] k w = absurd w
from_users id (d ∷ ds) k w = ⊎_elim (λ e. (inl (ap (λ k. k.0) e), sym (ap (λ k. k.1) e))) (λ v. let r = from_users id ds k v in (inr r.0, r.1)) w

pub within_users : (id : Bytes) (domains : List Bytes) (d : Bytes) → Within domains d → Within {X = UserKey} (map (λ d. (d, At id)) domains) (d, At id)
within_users id [] d w = absurd w
within_users id (c ∷ cs) d w = ⊎_elim (λ e. inl (ap (λ (d : Bytes). (d, At id)) e)) (λ v. inr (within_users id cs d v)) w

pub users_identify : KeysIdentify user_keys
users_identify e f k w v = same_at e.id f.id (sym (from_users e.id e.domains k w).1 ∙ (from_users f.id f.domains k v).1)

-- the key of an entry with its expiry
pub from_expiry : (b : Bool) (one k : ExpiryKey) → Within (if b then one ∷ [] else []) k → (b ≡ true) × (one ≡ k)
from_expiry true one k w = ⊎_elim (λ e. (refl, e)) (λ n. absurd n) w
from_expiry false one k w = absurd w

pub expiries_identify : KeysIdentify expiry_keys
expiries_identify e f k w v = same_at e.id f.id (ap (λ k. k.1) ((from_expiry _ _ k w).1 ∙ sym (from_expiry _ _ k v).1))
