-- Which key is refused if an object has keys other than those of the format: the least in the order of bytes.
use Rattle.std.proofs.Common.{◌≡◌, ℕ, true, false, cond, List, [], ◌∷◌, Option, None, Some, refl, sym, ap, subst, ◌∙◌, inl, inr, ⊎_elim}
use Rattle.std.specs.Prelude.{String, ⊤, string_bytes}
use Rattle.std.specs.List.{AllByRecursion}
use Rattle.std.specs.List.Sorted.{IsStrictlySortedBy}
use Rattle.std.specs.Ordering.{is_lt, nat_cmp}
use Rattle.std.specs.Cmp.Lexicographic.{slice_cmp}
use Rattle.std.specs.String.{string_cmp}
use Rattle.std.specs.declared.alloc.Global.{Global}
use Rattle.std.specs.declared.cmp.Ordering.TheVariants.{Less}
use Rattle.std.specs.Map.{keys_of}
use Rattle.std.proofs.lemmas.Bool.{both_ways}
use Rattle.entry_book.specs.Order.{is_before}
use Rattle.entry_book.proofs.Sets.{before-irrefl, before-total, before-trans}
use Rattle.serde_json.specs.Data.{Data, Members, no_members, member}
use Rattle.serde_json.specs.View.{members_view}
use Rattle.serde_json.specs.declared.value.Value.{Value}
use Rattle.line_reading.specs.declared.fault.Key.{Key}
use Rattle.line_reading.specs.Fields.{HasKey, HasNoOther, HasOther, IsLeastOther, is_known_key, least_other, lesser}

abbrev Bytes : Type 0
Bytes = List ℕ

-- ---- the order of bytes

not_before : (x y : Bytes) → (is_before x y ≡ true → ⊥) → is_before x y ≡ false
not_before x y h = elim (is_before x y) as (λ b. is_before x y ≡ b → b ≡ false) [
  | true ↦ λ e. absurd (h e)
  | false ↦ λ e. refl
] refl

not_itself : (x : Bytes) → is_before x x ≡ false
not_itself x = not_before x x (before-irrefl x)

not_after : (x y : Bytes) → is_before x y ≡ true → is_before y x ≡ false
not_after x y h = not_before y x (λ k. before-irrefl x (before-trans x y x h k))

none_between : (x m n : Bytes) → is_before x m ≡ false → is_before m n ≡ false → is_before x n ≡ false
none_between x m n h k = not_before x n (λ e. ⊎_elim
    (λ a. both_ways (is_before m n) k (before-trans m x n a e))
    (λ r. ⊎_elim (λ q. both_ways (is_before m n) k (subst (λ y. is_before y n ≡ true) (sym q) e)) (λ b. both_ways (is_before x m) h b) r)
    (before-total m x))

-- ---- if names ascend, the first is the least

-- k is before the name, if there is one
abbrev Before : Bytes → Option Bytes → Type 0
Before k None = ⊤
Before k (Some name) = is_before k name ≡ true

before_lesser : (k name : Bytes) (o : Option Bytes) → is_before k name ≡ true → Before k o → is_before k (lesser name o) ≡ true
before_lesser k name None b h = b
before_lesser k name (Some other) b h = elim (is_before other name) as (λ t. is_before k (cond t other name) ≡ true) [
  | true ↦ h
  | false ↦ b
]

lesser_first : (k : Bytes) (o : Option Bytes) → Before k o → lesser k o ≡ k
lesser_first k None h = refl
lesser_first k (Some other) h = elim (is_before other k) as (λ t. is_before other k ≡ t → cond t other k ≡ k) [
  | true ↦ λ e. absurd (before-irrefl k (before-trans k other k h e))
  | false ↦ λ e. refl
] refl

less_before : (x y : Bytes) → slice_cmp nat_cmp x y ≡ Less → is_before x y ≡ true
unfolding is_before
less_before x y e = ap is_lt e

abbrev Entries : Type 0
Entries = List (String Global × Value)

before_others : (keys : List Key) (k : String Global) (ms : Entries) → AllByRecursion (λ y. string_cmp k y ≡ Less) (keys_of ms) → Before (string_bytes k) (least_other keys (members_view ms))
before_others keys k [] h = tt
before_others keys k (m ∷ ms) h =
    let rest = least_other keys (members_view ms) in
    let after : Before (string_bytes k) rest = before_others keys k ms h.1 in
    elim (is_known_key keys (string_bytes m.0)) as (λ b. Before (string_bytes k) (cond b rest (Some (lesser (string_bytes m.0) rest)))) [
      | true ↦ after
      | false ↦ before_lesser (string_bytes k) (string_bytes m.0) rest (less_before (string_bytes k) (string_bytes m.0) h.0) after
    ]

pub ascending_rest : (m : String Global × Value) (ms : Entries) → IsStrictlySortedBy string_cmp (keys_of (m ∷ ms)) → IsStrictlySortedBy string_cmp (keys_of ms)
unfolding IsStrictlySortedBy
ascending_rest m ms h = h.1

pub first_is_least : (keys : List Key) (m : String Global × Value) (ms : Entries) → IsStrictlySortedBy string_cmp (keys_of (m ∷ ms)) → is_known_key keys (string_bytes m.0) ≡ false
    → least_other keys (members_view (m ∷ ms)) ≡ Some (string_bytes m.0)
unfolding IsStrictlySortedBy
first_is_least keys m ms h e =
    let rest = least_other keys (members_view ms) in
    let least : lesser (string_bytes m.0) rest ≡ string_bytes m.0 = lesser_first (string_bytes m.0) rest (before_others keys m.0 ms h.0) in
    ap (λ b. cond b rest (Some (lesser (string_bytes m.0) rest))) e ∙ ap (λ x. Some x) least

pub known_is_passed : (keys : List Key) (m : String Global × Value) (ms : Entries) → is_known_key keys (string_bytes m.0) ≡ true
    → least_other keys (members_view (m ∷ ms)) ≡ least_other keys (members_view ms)
known_is_passed keys m ms e =
    let rest = least_other keys (members_view ms) in
    ap (λ b. cond b rest (Some (lesser (string_bytes m.0) rest))) e

-- ---- the theorem

abbrev NamesLeastOther : List Key → Members → Option Bytes → Type 0
NamesLeastOther keys ms None = (name : Bytes) → HasKey name ms → is_known_key keys name ≡ true
NamesLeastOther keys ms (Some name) = HasOther keys ms name × ((other : Bytes) → HasOther keys ms other → is_before other name ≡ false)

least_of_others-known : (keys : List Key) (n : Bytes) (d : Data) (ms : Members) (o : Option Bytes) → is_known_key keys n ≡ true → NamesLeastOther keys ms o → NamesLeastOther keys (member n d ms) o
least_of_others-known keys n d ms None e h = λ name w. ⊎_elim (λ q. subst (λ x. is_known_key keys x ≡ true) q e) (λ v. h name v) w
least_of_others-known keys n d ms (Some name) e h = (
  (inr h.0.0, h.0.1),
  λ other w. ⊎_elim (λ q. absurd (both_ways (is_known_key keys n) (ap (is_known_key keys) q ∙ w.1) e)) (λ v. h.1 other (v, w.1)) w.0,
)

least_of_others-other : (keys : List Key) (n : Bytes) (d : Data) (ms : Members) (o : Option Bytes) → is_known_key keys n ≡ false → NamesLeastOther keys ms o → NamesLeastOther keys (member n d ms) (Some (lesser n o))
least_of_others-other keys n d ms None e h = (
  (inl refl, e),
  λ other w. ⊎_elim (λ q. subst (λ x. is_before x n ≡ false) q (not_itself n)) (λ v. absurd (both_ways (is_known_key keys other) w.1 (h other v))) w.0,
)
least_of_others-other keys n d ms (Some name) e h = elim (is_before name n) as (λ t. is_before name n ≡ t → NamesLeastOther keys (member n d ms) (Some (cond t name n))) [
  | true ↦ λ t. (
    (inr h.0.0, h.0.1),
    λ other w. ⊎_elim (λ q. subst (λ x. is_before x name ≡ false) q (not_after name n t)) (λ v. h.1 other (v, w.1)) w.0,
  )
  | false ↦ λ t. (
    (inl refl, e),
    λ other w. ⊎_elim (λ q. subst (λ x. is_before x n ≡ false) q (not_itself n)) (λ v. none_between other name n (h.1 other (v, w.1)) t) w.0,
  )
] refl

least_of_others : (keys : List Key) (ms : Members) → NamesLeastOther keys ms (least_other keys ms)
least_of_others keys no_members = λ name w. absurd w
least_of_others keys (member n d ms) =
    let rest = least_other keys ms in
    elim (is_known_key keys n) as (λ b. is_known_key keys n ≡ b → NamesLeastOther keys (member n d ms) (cond b rest (Some (lesser n rest)))) [
      | true ↦ λ e. least_of_others-known keys n d ms rest e (least_of_others keys ms)
      | false ↦ λ e. least_of_others-other keys n d ms rest e (least_of_others keys ms)
    ] refl

pub is_least_other : IsLeastOther
is_least_other keys ms name e = subst (NamesLeastOther keys ms) e (least_of_others keys ms)

pub has_no_other : HasNoOther
has_no_other keys ms e = subst (NamesLeastOther keys ms) e (least_of_others keys ms)
