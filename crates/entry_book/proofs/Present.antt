-- Which rows a key, an entry and a list of domains find.
use Rattle.std.proofs.Common.{◌≡◌, ℕ, true, false, not, ◌&&◌, cond, List, [], ◌∷◌, ◌++◌, Some, None, refl, sym, ap, subst, ◌∙◌, ⊎_elim}
use Rattle.std.specs.Prelude.{filter, bytes_eq, is_some}
use Rattle.std.specs.List.{AllByRecursion}
use Rattle.std.proofs.lemmas.Bool.{and_parts, and_from, false≢true, cases_Bool}
use lib.Pointwise.{pointwise_decides}
use Rattle.spiffe_name.specs.Selector.{SelectorPair}
use Rattle.spiffe_name.specs.SelectorOrder.{selector_eq}
use Rattle.spiffe_name.specs.SelectorSet.{set_eq}
use Rattle.entry_book.specs.Rows.{Bytes, Entry, bundle_key, entry_key}
use Rattle.entry_book.specs.Order.{Within, first}
use Rattle.entry_book.specs.Book.{Book, HasBundle, bundle_at, in_group, group_of}
use Rattle.entry_book.specs.Ops.{similar, lacking}
use Rattle.entry_book.proofs.Sets.{from_within_filter, within_filter, text_is, text_same}
use Rattle.entry_book.proofs.Keys.{first_none, at_row, first_within}

-- ---- selectors

pair : List ℕ → List ℕ → SelectorPair
pair t v = record { type = t; value = v }

same_pair : (t v u w : List ℕ) → t ≡ u → v ≡ w → pair t v ≡ pair u w
same_pair t v u w p q = ap (λ z. pair z v) p ∙ ap (pair u) q

pub selector_is : (x y : SelectorPair) → selector_eq x y ≡ true → x ≡ y
unfolding pair
selector_is x y h = let k = and_parts _ _ h in same_pair x.type x.value y.type y.value (text_is x.type y.type k.0) (text_is x.value y.value k.1)

pub selector_same : (x y : SelectorPair) → x ≡ y → selector_eq x y ≡ true
selector_same x y h = and_from _ _ (text_same x.type y.type (ap (λ z. z.type) h)) (text_same x.value y.value (ap (λ z. z.value) h))

pub set_is : (xs ys : List SelectorPair) → set_eq xs ys ≡ true → xs ≡ ys
set_is xs ys h = (pointwise_decides (λ x y. (selector_is x y, selector_same x y)) xs ys).0 h

pub set_same : (xs ys : List SelectorPair) → xs ≡ ys → set_eq xs ys ≡ true
set_same xs ys h = (pointwise_decides (λ x y. (selector_is x y, selector_same x y)) xs ys).1 h

-- ---- a row at a key

module _ {X : Type 0} (key : X → Bytes) where
  pub has_row : (k : Bytes) (rows : List X) (x : X) → Within rows x → key x ≡ k → is_some (first (filter (λ x. bytes_eq (key x) k) rows)) ≡ true
  has_row k rows x w e = elim (filter (λ x. bytes_eq (key x) k) rows) as (λ l. Within l x → is_some (first l) ≡ true) [ [] ↦ λ v. absurd v | ◌∷◌ y ys ↦ λ v. refl ] (within_filter (λ x. bytes_eq (key x) k) rows x w (text_same (key x) k e))

  pub row_of : (k : Bytes) (rows : List X) → is_some (first (filter (λ x. bytes_eq (key x) k) rows)) ≡ true → (x : X) × Within rows x × (key x ≡ k)
  row_of k rows h = elim (first (filter (λ x. bytes_eq (key x) k) rows)) as (λ o. first (filter (λ x. bytes_eq (key x) k) rows) ≡ o → is_some o ≡ true → (x : X) × Within rows x × (key x ≡ k)) [
    | None ↦ λ e t. absurd (false≢true t)
    | Some x ↦ λ e t. let r = at_row key k rows x e in (x, r.0, r.1)
  ] refl h

-- ---- a similar entry

-- no other entry has the same parent, identity and selectors
pub not_similar : (e : Entry) (b : Book) → similar e b ≡ None → (f : Entry) → Within b.entries f → e.parent ≡ f.parent → e.identity ≡ f.identity → e.selectors ≡ f.selectors → f.id ≡ e.id
not_similar e b h f w p i s = ⊎_elim
    (λ t. text_is f.id e.id t)
    (λ t. absurd (subst (λ l. Within l f) (first_none entry_key _ h)
    (within_filter (λ o. set_eq o.selectors e.selectors && not (bytes_eq o.id e.id)) (group_of e.parent e.identity b) f
    (within_filter (in_group e.parent e.identity) b.entries f w (and_from _ _ (text_same f.parent e.parent (sym p)) (text_same f.identity e.identity (sym i))))
    (and_from _ _ (set_same f.selectors e.selectors (sym s)) (rw t refl)))))
    (cases_Bool (bytes_eq f.id e.id))

-- another entry has the same parent, identity and selectors
pub is_similar : (e : Entry) (b : Book) (f : Entry) → similar e b ≡ Some f → Within b.entries f × (f.parent ≡ e.parent) × (f.identity ≡ e.identity) × (f.selectors ≡ e.selectors)
is_similar e b f h =
    let r = from_within_filter (λ o. set_eq o.selectors e.selectors && not (bytes_eq o.id e.id)) (group_of e.parent e.identity b) f (first_within entry_key _ f h) in
    let g = from_within_filter (in_group e.parent e.identity) b.entries f r.0 in
    let t = and_parts _ _ g.1 in
    (g.0, text_is f.parent e.parent t.0, text_is f.identity e.identity t.1, set_is f.selectors e.selectors (and_parts _ _ r.1).0)

-- ---- missing bundles

pub all_bundled : (ds : List Bytes) (b : Book) → lacking ds b ≡ None → AllByRecursion (HasBundle b) ds
all_bundled [] b h = tt
all_bundled (x ∷ xs) b h =
    elim (is_some (bundle_at x b)) as (λ t. is_some (bundle_at x b) ≡ t → cond t (lacking xs b) (Some x) ≡ None → HasBundle b x × AllByRecursion (HasBundle b) xs) [
      | true ↦ λ e k. (row_of bundle_key x b.bundles e, all_bundled xs b k)
      | false ↦ λ e k. cc
    ] refl h

-- the first domain with no bundle
abbrev pub FirstLacking : List Bytes → Book → Bytes → Type 0
FirstLacking ds b k = ((before : List Bytes) × (later : List Bytes) × (ds ≡ before ++ k ∷ later) × AllByRecursion (HasBundle b) before) × (HasBundle b k → ⊥)

some_is : {X : Type 0} (x y : X) → Some x ≡ Some y → x ≡ y
some_is x y e = cc

pub first_lacking : (ds : List Bytes) (b : Book) (k : Bytes) → lacking ds b ≡ Some k → FirstLacking ds b k
first_lacking [] b k h = cc
first_lacking (x ∷ xs) b k h =
    elim (is_some (bundle_at x b)) as (λ t. is_some (bundle_at x b) ≡ t → cond t (lacking xs b) (Some x) ≡ Some k → FirstLacking (x ∷ xs) b k) [
      | true ↦ λ e q. let r = first_lacking xs b k q in ((x ∷ r.0.0, r.0.1, ap (λ l. x ∷ l) r.0.2, (row_of bundle_key x b.bundles e, r.0.3)), r.1)
      | false ↦ λ e q. let i = some_is x k q in (([], xs, ap (λ z. z ∷ xs) i, tt), λ v. absurd (false≢true (sym e ∙ has_row bundle_key x b.bundles v.0 v.1 (v.2 ∙ sym i))))
    ] refl h
