-- The ranges of keys between two bounds contain exactly the entries that a mark names.
use Rattle.std.proofs.Common.{◌≡◌, ℕ, Bool, true, false, cond, ◌&&◌, List, [], ◌∷◌, refl, sym, ap, subst, ◌∙◌, inl, ⊎_elim, arith}
use Rattle.std.specs.Prelude.{nat_lt, ◌==◌, bytes_eq}
use Rattle.std.specs.declared.cmp.Ordering.{Ordering}
use Rattle.std.specs.declared.cmp.Ordering.TheVariants.{Less, Equal, Greater}
use Rattle.std.specs.Ordering.{is_eq, is_lt, is_ge, ordering_then, nat_cmp}
use Rattle.std.specs.Cmp.Lexicographic.{texts_ties}
use Rattle.std.proofs.lemmas.Cmp.{ranked, by_ranked}
use Rattle.entry_book.specs.Rows.{Bytes, Entry}
use Rattle.entry_book.specs.Book.{in_group, names, expires_before}
use Rattle.entry_book.proofs.Sets.{text_is, within_any, from_any}
use Rattle.version_book.specs.declared.key.KeyPart.{KeyPart}
use Rattle.version_book.specs.declared.key.KeyPart.TheVariants.{Start, At, End}
use Rattle.version_book.specs.declared.mark.MarkKind.{MarkKind}
use Rattle.version_book.specs.declared.mark.MarkKind.TheVariants as mark
use Rattle.version_book.specs.declared.mark.IndexRange.TheVariants.{Groups, Users, Expiries}
use Rattle.version_book.specs.Index.{GroupKey, UserKey, ExpiryKey, group_keys, user_keys, expiry_keys, is_between, Covers, index_range_of}
use Rattle.version_book.specs.Marks.{names_entry}
use Rattle.version_book.proofs.KeyOrders.{bytes_cmp, group_cmp, user_cmp, expiry_cmp, from_users, within_users, from_expiry}

-- ---- keys between a start and an end

both_true : (a b : Bool) → (a && b) ≡ true → (a ≡ true) × (b ≡ true)
both_true true b h = (refl, h)
both_true false b h = cc

around : (o : Ordering) → (is_ge (ordering_then o Greater) && is_lt (ordering_then o Less)) ≡ is_eq o
around Less = refl
around Equal = refl
around Greater = refl

around_both : (o : Ordering) → (is_ge (ordering_then (ordering_then o Greater) Greater) && is_lt (ordering_then (ordering_then o Less) Less)) ≡ is_eq o
around_both Less = refl
around_both Equal = refl
around_both Greater = refl

equal_both : (a b : Ordering) → is_eq (ordering_then a b) ≡ (is_eq a && is_eq b)
equal_both Less b = refl
equal_both Equal b = refl
equal_both Greater b = refl

both_same : (a b : Ordering) (x y : Bool) → x ≡ is_eq a → y ≡ is_eq b → (is_eq a && is_eq b) ≡ (x && y)
both_same a b x y p q = λ i. sym p i && sym q i

-- ---- an entry with one key

module _ {K : Type 0} (cmp : K → K → Ordering) (one : Entry → K) (lo hi : K) (p : Entry → Bool) (test : (e : Entry) → is_between cmp lo hi (one e) ≡ p e) where
  covers_one : Covers cmp (λ e. one e ∷ []) lo hi p
  covers_one = record {
    sound = λ e k w b. ⊎_elim (λ q. sym (test e) ∙ (ap (is_between cmp lo hi) q ∙ b)) (λ n. absurd n) w;
    complete = λ e t. (one e, inl refl, test e ∙ t);
    once = λ e k l w v _ _. ⊎_elim (λ q. ⊎_elim (λ r. sym q ∙ r) (λ n. absurd n) v) (λ n. absurd n) w;
  }

pub covers_group : (parent identity : Bytes) → Covers group_cmp group_keys (At parent, At identity, Start) (At parent, At identity, End) (in_group parent identity)
covers_group parent identity = covers_one group_cmp (λ e. (At e.parent, At e.identity, At e.id)) (At parent, At identity, Start) (At parent, At identity, End) (in_group parent identity)
    (λ e. around (ordering_then (bytes_cmp e.parent parent) (bytes_cmp e.identity identity)) ∙ (equal_both (bytes_cmp e.parent parent) (bytes_cmp e.identity identity) ∙ both_same (bytes_cmp e.parent parent) (bytes_cmp e.identity identity) (bytes_eq e.parent parent) (bytes_eq e.identity identity) (texts_ties e.parent parent) (texts_ties e.identity identity)))

pub covers_children : (parent : Bytes) → Covers group_cmp group_keys (At parent, Start, Start) (At parent, End, End) (λ e. bytes_eq e.parent parent)
covers_children parent = covers_one group_cmp (λ e. (At e.parent, At e.identity, At e.id)) (At parent, Start, Start) (At parent, End, End) (λ e. bytes_eq e.parent parent)
    (λ e. around_both (bytes_cmp e.parent parent) ∙ sym (texts_ties e.parent parent))

pub covers_all : Covers group_cmp group_keys (Start, Start, Start) (End, End, End) (λ e. true)
covers_all = covers_one group_cmp (λ e. (At e.parent, At e.identity, At e.id)) (Start, Start, Start) (End, End, End) (λ e. true) (λ e. refl)

-- ---- an entry with a key for each domain

pub covers_users : (domain : Bytes) → Covers user_cmp user_keys (domain, Start) (domain, End) (names domain)
covers_users domain =
    let test : (d id : Bytes) → is_between user_cmp (domain, Start) (domain, End) (d, At id) ≡ bytes_eq d domain = λ d id. around (bytes_cmp d domain) ∙ sym (texts_ties d domain) in
    let here : (id : Bytes) (k : UserKey) → k.1 ≡ At id → is_between user_cmp (domain, Start) (domain, End) k ≡ true → bytes_eq k.0 domain ≡ true = λ id k q b. sym (test k.0 id) ∙ (ap (λ (x : KeyPart Bytes). is_between user_cmp (domain, Start) (domain, End) (k.0, x)) (sym q) ∙ b) in
    record {
      sound = λ e k w b. let r = from_users e.id e.domains k w in within_any (λ d. bytes_eq d domain) e.domains k.0 r.0 (here e.id k r.1 b);
      complete = λ e t. let r = from_any (λ d. bytes_eq d domain) e.domains t in ((r.0, At e.id), within_users e.id e.domains r.0 r.1, test r.0 e.id ∙ r.2);
      once = λ e k l w v b c.
          let r = from_users e.id e.domains k w in
          let s = from_users e.id e.domains l v in
          let same : k.0 ≡ l.0 = text_is k.0 domain (here e.id k r.1 b) ∙ sym (text_is l.0 domain (here e.id l s.1 c)) in
          let ids : k.1 ≡ l.1 = r.1 ∙ sym s.1 in
          λ i. (same i, ids i);
    }

-- ---- an entry with a key for its expiry

from_zero : (x : ℕ) → is_ge (ordering_then (nat_cmp x 0) Greater) ≡ true
from_zero x = by_ranked _ _ _ (nat_cmp x 0) (ranked x 0 (nat_cmp x 0) refl) (λ e less. absurd (omega arith)) (λ e same. rw e refl) (λ e above. rw e refl)

below : (x m : ℕ) → is_lt (ordering_then (nat_cmp x m) Greater) ≡ nat_lt x m
below x m = elim (nat_lt x m) as (λ b. is_lt (ordering_then (cond b Less (cond (x == m) Equal Greater)) Greater) ≡ b) [
  | true ↦ refl
  | false ↦ elim (x == m) as (λ b. is_lt (ordering_then (cond b Equal Greater) Greater) ≡ false) [ true ↦ refl | false ↦ refl ]
]

pub covers_expiries : (moment : ℕ) → Covers expiry_cmp expiry_keys (0, Start) (moment, Start) (expires_before moment)
covers_expiries moment =
    let test : (x : ℕ) (id : Bytes) → is_between expiry_cmp (0, Start) (moment, Start) (x, At id) ≡ nat_lt x moment = λ x id. rw (from_zero x, below x moment) refl in
    record {
      sound = λ e k w b. let r = from_expiry (nat_lt 0 e.expiry) (e.expiry, At e.id) k w in rw r.0 (sym (test e.expiry e.id) ∙ (ap (is_between expiry_cmp (0, Start) (moment, Start)) r.1 ∙ b));
      complete = λ e t. let r = both_true (nat_lt 0 e.expiry) (nat_lt e.expiry moment) t in ((e.expiry, At e.id), rw r.0 (inl refl), test e.expiry e.id ∙ r.1);
      once = λ e k l w v b c. sym (from_expiry _ _ k w).1 ∙ (from_expiry _ _ l v).1;
    }

-- ---- the ranges of marks

module _ {K : Type 0} (cmp : K → K → Ordering) (keys : Entry → List K) (p : Entry → Bool) where
  -- with equal bounds
  at_bounds : (lo hi low high : K) → lo ≡ low → hi ≡ high → Covers cmp keys lo hi p → Covers cmp keys low high p
  at_bounds lo hi low high l h c = subst (λ k. Covers cmp keys k high p) l (subst (λ k. Covers cmp keys lo k p) h c)

pub covers_groups_of : (m : MarkKind) (lo hi : GroupKey) → index_range_of m ≡ Groups lo hi → Covers group_cmp group_keys lo hi (names_entry m)
covers_groups_of (mark.Group parent identity) lo hi e =
    let low : (At parent, At identity, Start) ≡ lo = cc in
    let high : (At parent, At identity, End) ≡ hi = cc in
    at_bounds group_cmp group_keys (in_group parent identity) (At parent, At identity, Start) (At parent, At identity, End) lo hi low high (covers_group parent identity)
covers_groups_of (mark.Children parent) lo hi e =
    let low : (At parent, Start, Start) ≡ lo = cc in
    let high : (At parent, End, End) ≡ hi = cc in
    at_bounds group_cmp group_keys (λ e. bytes_eq e.parent parent) (At parent, Start, Start) (At parent, End, End) lo hi low high (covers_children parent)
covers_groups_of mark.All lo hi e =
    let low : (Start, Start, Start) ≡ lo = cc in
    let high : (End, End, End) ≡ hi = cc in
    at_bounds group_cmp group_keys (λ e. true) (Start, Start, Start) (End, End, End) lo hi low high covers_all
covers_groups_of m lo hi e = cc

pub covers_users_of : (m : MarkKind) (lo hi : UserKey) → index_range_of m ≡ Users lo hi → Covers user_cmp user_keys lo hi (names_entry m)
covers_users_of (mark.Users domain) lo hi e =
    let low : (domain, Start) ≡ lo = cc in
    let high : (domain, End) ≡ hi = cc in
    at_bounds user_cmp user_keys (names domain) (domain, Start) (domain, End) lo hi low high (covers_users domain)
covers_users_of m lo hi e = cc

pub covers_expiries_of : (m : MarkKind) (lo hi : ExpiryKey) → index_range_of m ≡ Expiries lo hi → Covers expiry_cmp expiry_keys lo hi (names_entry m)
covers_expiries_of (mark.Expiring moment) lo hi e =
    let low : (0, Start) ≡ lo = cc in
    let high : (moment, Start) ≡ hi = cc in
    at_bounds expiry_cmp expiry_keys (expires_before moment) (0, Start) (moment, Start) lo hi low high (covers_expiries moment)
covers_expiries_of m lo hi e = cc
