-- The effect of drop_bundle, in each mode.
use Rattle.std.proofs.Common.{◌≡◌, ◌≢◌, ◌↔◌, ◌+◌, false, not, ◌⊎◌, List, [], ◌∷◌, Option, Some, None, refl, sym, ap, subst, ◌∙◌, inl, inr, ⊎_elim}
use Rattle.std.specs.Prelude.{MatchResult, filter, map, bytes_eq}
use Rattle.std.proofs.lemmas.Bool.{both_ways, cases_Bool}
use Rattle.entry_book.specs.declared.bundle.Bundle.{Bundle}
use Rattle.entry_book.specs.declared.mode.DropMode.{DropMode}
use Rattle.entry_book.specs.declared.mode.DropMode.TheVariants as mode
use Rattle.entry_book.specs.declared.op.Op.TheVariants.{DropBundle}
use Rattle.entry_book.specs.Rows.{Bytes, Entry, entry_key, bundle_key}
use Rattle.entry_book.specs.Order.{Within, with_row}
use Rattle.entry_book.specs.Book.{Book, AscendingBook, bundle_at, names, users_of}
use Rattle.entry_book.specs.Ops.{dissociated, drop_in, drop_over, op_of}
use Rattle.entry_book.specs.Effects.{IsListOf, Names, DropsOne, IsFreed, AreUsers, DropsBundle, DropBundleRefused}
use Rattle.entry_book.proofs.Changed.{not_is, ascending_map, within_map, from_within_map, freed_if, freed_if-true, freed_if-false, freed_if_keyed, after_removed_then, after_freed_then}
use Rattle.entry_book.proofs.EffectsOfQuestions.{names_is}
use Rattle.entry_book.proofs.Keys.{at_row, no_row}
use Rattle.entry_book.proofs.Listed.{listed_filter, listed_others, listed_gone}
use Rattle.entry_book.proofs.Sets.{within_filter, from_within_filter, ascending_filter, text_is, text_same}

users_are : (b : Book) (domain : Bytes) → AscendingBook b → AreUsers domain b (users_of domain b)
users_are b domain s = listed_filter entry_key (names domain) (Names domain) b.entries (names_is domain) s.entries

-- the book with the entries in `rows`, and without the bundle
abbrev dropped : Bytes → List Entry → Book → Book
dropped domain rows b = record b { entries = rows; bundles = with_row bundle_key domain None b.bundles }

drops_one : (d : Bundle) (b : Book) → AscendingBook b → Within b.bundles d → (rows : List Entry) → DropsOne d.domain b (dropped d.domain rows b)
drops_one d b s w rows = record { there = (d, w, refl); bundles = listed_gone bundle_key d.domain b.bundles s.bundles; others = refl }

-- ---- restrict

unused : (domain : Bytes) (b : Book) → users_of domain b ≡ [] → (x : Entry) → Within b.entries x → Names domain x → ⊥
unused domain b h x w n = subst (λ l. Within l x) h (within_filter (names domain) b.entries x w ((names_is domain x).1 n))

used : (domain : Bytes) (b : Book) (e : Entry) (es : List Entry) → users_of domain b ≡ e ∷ es → (x : Entry) × Within b.entries x × Names domain x
used domain b e es h =
    let r = from_within_filter (names domain) b.entries e (subst (λ l. Within l e) (sym h) (inl refl)) in
    (e, r.0, (names_is domain e).0 r.1)

restricted : (d : Bundle) (b : Book) → AscendingBook b → Within b.bundles d → (us : List Entry) → users_of d.domain b ≡ us → MatchResult (drop_in mode.Restrict us d) (DropsBundle d.domain mode.Restrict b) (DropBundleRefused d.domain mode.Restrict b)
restricted d b s w [] h = record { unused = unused d.domain b h; reply = refl; entries = refl; bundle = drops_one d b s w b.entries }
restricted d b s w (e ∷ es) h = (tt, (d, w, refl), used d.domain b e es h)

-- ---- delete

deleted : (d : Bundle) (b : Book) → AscendingBook b → Within b.bundles d → MatchResult (drop_in mode.Delete (users_of d.domain b) d) (DropsBundle d.domain mode.Delete b) (DropBundleRefused d.domain mode.Delete b)
deleted d b s w =
    let left = filter (λ e. not (names d.domain e)) b.entries in
    let is = sym (after_removed_then (names d.domain) d b s) in
    record {
      users = users_of d.domain b;
      are_users = users_are b d.domain s;
      reply = refl;
      entries = subst (λ c. IsListOf entry_key (λ x. Within b.entries x × (Names d.domain x → ⊥)) c.entries) is (listed_others entry_key (names d.domain) (Names d.domain) b.entries (names_is d.domain) s.entries);
      bundle = subst (DropsOne d.domain b) is (drops_one d b s w left);
    }

-- ---- dissociate

others_of : (domain : Bytes) (ds : List Bytes) (d : Bytes) → Within (filter (λ d. not (bytes_eq d domain)) ds) d ↔ (Within ds d × (d ≢ domain))
others_of domain ds d = (
  λ w. let r = from_within_filter (λ d. not (bytes_eq d domain)) ds d w in (r.0, λ e. both_ways (bytes_eq d domain) (not_is (bytes_eq d domain) r.1) (text_same d domain e)),
  λ v. within_filter (λ d. not (bytes_eq d domain)) ds d v.0 (⊎_elim (λ t. absurd (v.1 (text_is d domain t))) (λ t. rw t refl) (cases_Bool (bytes_eq d domain))),
)

is_freed : (domain : Bytes) (x : Entry) → IsFreed domain x (dissociated domain x)
is_freed domain x = record {
  domains = others_of domain x.domains;
  kept = refl;
  order = λ a. ascending_filter (λ d. d) (λ d. not (bytes_eq d domain)) x.domains a;
  others = refl;
}

freed_is : (domain : Bytes) (x y : Entry) → IsFreed domain x y → dissociated domain x ≡ y
freed_is domain x y f = ap (λ (ds : List Bytes). record x { domains = ds; revision = x.revision + 1 }) (sym f.kept) ∙ sym f.others

-- an entry after: one that doesn't name the domain, or one that did and is freed
abbrev FreedOrOther : Bytes → Book → Entry → Type 0
FreedOrOther domain b y = (Within b.entries y × (Names domain y → ⊥)) ⊎ ((x : Entry) × Within b.entries x × Names domain x × IsFreed domain x y)

not_named : (domain : Bytes) (x : Entry) → (Names domain x → ⊥) → names domain x ≡ false
not_named domain x n = ⊎_elim (λ t. absurd (n ((names_is domain x).0 t))) (λ t. t) (cases_Bool (names domain x))

from_freed : (domain : Bytes) (b : Book) (x : Entry) → Within b.entries x → FreedOrOther domain b (freed_if domain (names domain) x)
from_freed domain b x w = ⊎_elim
    (λ t. inr (x, w, (names_is domain x).0 t, subst (IsFreed domain x) (sym (freed_if-true domain (names domain) x t)) (is_freed domain x)))
    (λ t. inl (subst (λ y. Within b.entries y × (Names domain y → ⊥)) (sym (freed_if-false domain (names domain) x t)) (w, λ n. both_ways (names domain x) t ((names_is domain x).1 n))))
    (cases_Bool (names domain x))

to_freed : (domain : Bytes) (b : Book) (y : Entry) → FreedOrOther domain b y → Within (map (freed_if domain (names domain)) b.entries) y
to_freed domain b y v = ⊎_elim
    (λ r. subst (Within (map (freed_if domain (names domain)) b.entries)) (freed_if-false domain (names domain) y (not_named domain y r.1)) (within_map entry_key (freed_if domain (names domain)) b.entries y r.0))
    (λ r. subst (Within (map (freed_if domain (names domain)) b.entries)) (freed_if-true domain (names domain) r.0 ((names_is domain r.0).1 r.2) ∙ freed_is domain r.0 y r.3) (within_map entry_key (freed_if domain (names domain)) b.entries r.0 r.1))
    v

listed_freed : (domain : Bytes) (b : Book) → AscendingBook b → IsListOf entry_key (FreedOrOther domain b) (map (freed_if domain (names domain)) b.entries)
listed_freed domain b s = record {
  members = λ y. (
    λ w. let r = from_within_map entry_key (freed_if domain (names domain)) b.entries y w in subst (FreedOrOther domain b) r.2 (from_freed domain b r.0 r.1),
    to_freed domain b y,
  );
  order = ascending_map entry_key (freed_if domain (names domain)) (freed_if_keyed domain (names domain)) b.entries s.entries;
}

freed_from : (d : Bundle) (b : Book) → AscendingBook b → Within b.bundles d → MatchResult (drop_in mode.Dissociate (users_of d.domain b) d) (DropsBundle d.domain mode.Dissociate b) (DropBundleRefused d.domain mode.Dissociate b)
freed_from d b s w =
    let is = sym (after_freed_then d.domain (names d.domain) d b s) in
    record {
      users = users_of d.domain b;
      are_users = users_are b d.domain s;
      reply = refl;
      entries = subst (λ c. IsListOf entry_key (FreedOrOther d.domain b) c.entries) is (listed_freed d.domain b s);
      bundle = subst (DropsOne d.domain b) is (drops_one d b s w (map (freed_if d.domain (names d.domain)) b.entries));
    }

-- ---- the bundle, or a missing one

by_mode : (m : DropMode) (d : Bundle) (b : Book) → AscendingBook b → Within b.bundles d → MatchResult (drop_in m (users_of d.domain b) d) (DropsBundle d.domain m b) (DropBundleRefused d.domain m b)
by_mode mode.Restrict d b s w = restricted d b s w (users_of d.domain b) refl
by_mode mode.Delete d b s w = deleted d b s w
by_mode mode.Dissociate d b s w = freed_from d b s w

drop_at : (domain : Bytes) (m : DropMode) (b : Book) → AscendingBook b → (o : Option Bundle) → bundle_at domain b ≡ o → MatchResult (drop_over o domain m b) (DropsBundle domain m b) (DropBundleRefused domain m b)
drop_at domain m b s None h = (refl, λ v. no_row bundle_key domain b.bundles h v.0 v.1 v.2)
drop_at domain m b s (Some d) h =
    let r = at_row bundle_key domain b.bundles d h in
    subst (λ k. MatchResult (drop_in m (users_of d.domain b) d) (DropsBundle k m b) (DropBundleRefused k m b)) r.1 (by_mode m d b s r.0)

pub drop_bundle_effect : (own_domain : Bytes) (domain : Bytes) (m : DropMode) (b : Book) → AscendingBook b → MatchResult (op_of own_domain (DropBundle domain m) b) (DropsBundle domain m b) (DropBundleRefused domain m b)
drop_bundle_effect own_domain domain m b s = drop_at domain m b s (bundle_at domain b) refl
