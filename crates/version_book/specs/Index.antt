-- The keys of indexes and the rows of an index, for this crate's own contracts. In each part of a key, the start comes before
-- all values, and the end after them.
use Rattle.std.specs.Prelude.{◌≡◌, ℕ, Bool, true, ◌&&◌, nat_lt, List, [], ◌∷◌, map, if◌then◌else◌}
use Rattle.std.specs.declared.cmp.Ordering.{Ordering}
use Rattle.std.specs.Ordering.{is_eq, is_lt, is_ge}
use Rattle.entry_book.specs.Rows.{Bytes, Entry}
use Rattle.entry_book.specs.Order.{Within}
use Rattle.version_book.specs.declared.key.KeyPart.{KeyPart}
use Rattle.version_book.specs.declared.key.KeyPart.TheVariants.{Start, At, End}
use Rattle.version_book.specs.declared.mark.MarkKind.{MarkKind}
use Rattle.version_book.specs.declared.mark.MarkKind.TheVariants as mark
use Rattle.version_book.specs.declared.mark.IndexRange.{IndexRange}
use Rattle.version_book.specs.declared.mark.IndexRange.TheVariants.{SingleRow, Groups, Users, Expiries}
use Rattle.version_book.specs.declared.committed_row.CommittedRow.{CommittedRow}

-- ---- the keys of an entry

-- parent, identity and id of an entry
abbrev pub GroupKey : Type 0
GroupKey = KeyPart Bytes × KeyPart Bytes × KeyPart Bytes

-- a trust domain, and the id of an entry that names it
abbrev pub UserKey : Type 0
UserKey = Bytes × KeyPart Bytes

-- the expiry and the id of an entry
abbrev pub ExpiryKey : Type 0
ExpiryKey = ℕ × KeyPart Bytes

-- an entry has one key with its parent and identity
abbrev pub group_keys : Entry → List GroupKey
group_keys e = (At e.parent, At e.identity, At e.id) ∷ []

-- one key for each trust domain that it names
abbrev pub user_keys : Entry → List UserKey
user_keys e = map (λ d. (d, At e.id)) e.domains

-- and one with its expiry, if it has one
abbrev pub expiry_keys : Entry → List ExpiryKey
expiry_keys e = if nat_lt 0 e.expiry then (e.expiry, At e.id) ∷ [] else []

-- ---- an index by such keys

-- An index has each row under each of its keys, and nothing else.
pub record IsIndex {K : Type 0} (keys : Entry → List K) (rows : List (CommittedRow Entry)) (index : List (K × CommittedRow Entry)) : Type 0 where
  pub sound : (k : K) (r : CommittedRow Entry) → Within index (k, r) → Within rows r × Within (keys r.row) k
  pub complete : (k : K) (r : CommittedRow Entry) → Within rows r → Within (keys r.row) k → Within index (k, r)

-- lo <= key < hi
abbrev pub is_between : {K : Type 0} → (K → K → Ordering) → K → K → K → Bool
is_between cmp lo hi k = is_ge (cmp k lo) && is_lt (cmp k hi)

-- Each entry that passes the test has exactly one key in the range, and no other entry has one.
pub record Covers {K : Type 0} (cmp : K → K → Ordering) (keys : Entry → List K) (lo hi : K) (p : Entry → Bool) : Type 0 where
  pub sound : (e : Entry) (k : K) → Within (keys e) k → is_between cmp lo hi k ≡ true → p e ≡ true
  pub complete : (e : Entry) → p e ≡ true → (k : K) × Within (keys e) k × (is_between cmp lo hi k ≡ true)
  pub once : (e : Entry) (k l : K) → Within (keys e) k → Within (keys e) l → is_between cmp lo hi k ≡ true → is_between cmp lo hi l ≡ true → k ≡ l

-- ---- the bounds of a mark's range

-- the range of keys of the entries that the mark names, or none if it names a row by its key
abbrev pub index_range_of : MarkKind → IndexRange
index_range_of (mark.Group parent identity) = Groups (At parent, At identity, Start) (At parent, At identity, End)
index_range_of (mark.Children parent) = Groups (At parent, Start, Start) (At parent, End, End)
index_range_of (mark.Users domain) = Users (domain, Start) (domain, End)
index_range_of (mark.Expiring moment) = Expiries (0, Start) (moment, Start)
index_range_of mark.All = Groups (Start, Start, Start) (End, End, End)
index_range_of m = SingleRow

-- ---- properties of the keys of an index

-- keys that compare as equal are equal
abbrev pub IsExactOrder : {K : Type 0} → (K → K → Ordering) → Type 0
IsExactOrder cmp = (k l : _) → is_eq (cmp k l) ≡ true → k ≡ l

-- entries that have a key in common have the same id
abbrev pub KeysIdentify : {K : Type 0} → (Entry → List K) → Type 0
KeysIdentify keys = (e f : Entry) (k : _) → Within (keys e) k → Within (keys f) k → e.id ≡ f.id

-- each of these keys has a row
abbrev pub AreThere : {K V : Type 0} → List K → List (K × V) → Type 0
AreThere {K} {V} keys index = (k : K) → Within keys k → (v : V) × Within index (k, v)

-- two entries have the same keys, in the book and in each index
pub record HaveSameKeys (e f : Entry) : Type 0 where
  pub id : e.id ≡ f.id
  pub parent : e.parent ≡ f.parent
  pub identity : e.identity ≡ f.identity
  pub domains : e.domains ≡ f.domains
  pub expiry : e.expiry ≡ f.expiry
