-- The bundles that entries name, one domain after another.
use Rattle.std.proofs.Common.{◌≡◌, true, List, [], ◌∷◌, ◌++◌, refl, sym, subst, inl, inr, ⊎_elim}
use Rattle.std.specs.Prelude.{filter, bytes_eq, flat_map}
use Rattle.entry_book.specs.declared.bundle.Bundle.{Bundle}
use Rattle.entry_book.specs.Rows.{Bytes, Entry, bundle_key}
use Rattle.entry_book.specs.Order.{Within, Ascending, is_before}
use Rattle.entry_book.specs.Book.{Book, names}
use Rattle.entry_book.specs.Ops.{is_named, bundles_of}
use Rattle.entry_book.proofs.Sets.{All-within, All-from_within, within_filter, from_within_filter, within_any, from_any, same_sets, ascending_filter, text_is, text_same, from_within_append}
use Rattle.batch_work.specs.Reads.{domains_of}
use Rattle.batch_work.proofs.TextSets.{text_set-ascending, from_text_set, within_text_set, within_flat, from_within_flat}

abbrev pub of_domain : Book → Bytes → List Bundle
of_domain b d = filter (λ x. bytes_eq x.domain d) b.bundles

joined : (xs ys : List Bundle) → Ascending bundle_key xs → Ascending bundle_key ys → ((x y : Bundle) → Within xs x → Within ys y → is_before x.domain y.domain ≡ true) → Ascending bundle_key (xs ++ ys)
joined [] ys a c h = c
joined (x ∷ xs) ys a c h = (
  All-from_within (λ y. is_before x.domain y.domain ≡ true) (xs ++ ys) (λ y w. ⊎_elim (λ v. All-within (λ y. is_before x.domain y.domain ≡ true) xs y a.0 v) (λ v. h x y (inl refl) v) (from_within_append xs ys y w)),
  joined xs ys a.1 c (λ y z v w. h y z (inr v) w),
)

ascending_by : (b : Book) → Ascending bundle_key b.bundles → (ds : List Bytes) → Ascending (λ t. t) ds → Ascending bundle_key (flat_map (of_domain b) ds)
ascending_by b a [] c = tt
ascending_by b a (d ∷ ds) c = joined (of_domain b d) (flat_map (of_domain b) ds) (ascending_filter bundle_key (λ x. bytes_eq x.domain d) b.bundles a) (ascending_by b a ds c.1)
    (λ x y v w.
    let p = from_within_filter (λ x. bytes_eq x.domain d) b.bundles x v in
    let r = from_within_flat (of_domain b) ds y w in
    let q = from_within_filter (λ x. bytes_eq x.domain r.0) b.bundles y r.2 in
    subst (λ t. is_before x.domain t ≡ true) (sym (text_is y.domain r.0 q.1)) (subst (λ t. is_before t r.0 ≡ true) (sym (text_is x.domain d p.1)) (All-within (λ y. is_before d y ≡ true) ds r.0 c.0 r.1)))

-- the bundles that these entries name are those of their domains, one after another
pub named_bundles : (es : List Entry) (b : Book) → Ascending bundle_key b.bundles → flat_map (of_domain b) (domains_of es) ≡ bundles_of es b
named_bundles es b a = same_sets bundle_key (flat_map (of_domain b) (domains_of es)) (bundles_of es b) (ascending_by b a (domains_of es) (text_set-ascending _)) (ascending_filter bundle_key (is_named es) b.bundles a)
    (λ x w.
    let r = from_within_flat (of_domain b) (domains_of es) x w in
    let q = from_within_filter (λ x. bytes_eq x.domain r.0) b.bundles x r.2 in
    let d : x.domain ≡ r.0 = text_is x.domain r.0 q.1 in
    let e = from_within_flat (λ e. e.domains) es r.0 (from_text_set _ r.0 r.1) in
    within_filter (is_named es) b.bundles x q.0 (within_any (names x.domain) es e.0 e.1 (within_any (λ t. bytes_eq t x.domain) (e.0).domains r.0 e.2 (text_same r.0 x.domain (sym d)))))
    (λ x w.
    let r = from_within_filter (is_named es) b.bundles x w in
    let e = from_any (names x.domain) es r.1 in
    let d = from_any (λ t. bytes_eq t x.domain) (e.0).domains e.2 in
    let same : d.0 ≡ x.domain = text_is d.0 x.domain d.2 in
    within_flat (of_domain b) (domains_of es) x.domain x (within_text_set _ x.domain (within_flat (λ e. e.domains) es e.0 x.domain e.1 (subst (Within (e.0).domains) same d.1))) (within_filter (λ y. bytes_eq y.domain x.domain) b.bundles x r.0 (text_same x.domain x.domain refl)))
