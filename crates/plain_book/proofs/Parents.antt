-- The list of all parents, and the effect of a change of one entry on it.
use Rattle.std.proofs.Common.{◌≡◌, ◌<◌, Bool, true, false, cond, List, [], ◌∷◌, length, Some, None, refl, sym, ap, subst, ◌∙◌, ⊎_elim}
use Rattle.std.specs.Prelude.{filter, bytes_eq}
use Rattle.std.proofs.lemmas.Bool.{and_parts, both_ways, cases_Bool}
use Rattle.plain_book.specs.declared.siblings.Siblings.{Siblings}
use Rattle.entry_book.specs.Rows.{Bytes, Entry, entry_key}
use Rattle.entry_book.specs.Order.{Within, Ascending, first, with_row}
use Rattle.entry_book.specs.Book.{in_group}
use Rattle.entry_book.proofs.Filters.{kept, filter-with_row}
use Rattle.entry_book.proofs.InOrder.{ascending-with_row}
use Rattle.entry_book.proofs.Keys.{from_with_row, new_with_row, no_row, row_alone, same_key, within_with_row, without_none}
use Rattle.entry_book.proofs.Once.{rows_elsewhere}
use Rattle.entry_book.proofs.Sets.{ascending_filter, from_within_filter, same_sets, text_is, text_same}
use Rattle.plain_book.specs.Siblings.{ChangesAt, IsByParent, entries_of, parent_key, siblings_at}
use Rattle.plain_book.proofs.Ranks.{none_within}

-- ---- the row of a parent

abbrev pub children : Bytes → List Entry → List Entry
children p es = filter (λ e. bytes_eq e.parent p) es

pub at_parent : (k p : Bytes) (es : List Entry) (all : List Siblings) (s : Siblings) → k ≡ p → IsByParent es all → Some s ≡ first (filter (λ s. bytes_eq s.parent k) all) → s.entries ≡ children p es
at_parent k p es all s q b h = ap entries_of h ∙ (ap (λ k. siblings_at k all) q ∙ b.each p)

pub at_no_parent : (k p : Bytes) (es : List Entry) (all : List Siblings) → k ≡ p → IsByParent es all → None ≡ first (filter (λ s. bytes_eq s.parent k) all) → [] ≡ children p es
at_no_parent k p es all q b h = ap entries_of h ∙ (ap (λ k. siblings_at k all) q ∙ b.each p)

pub siblings_ascend : (p : Bytes) (es : List Entry) (all : List Siblings) → Ascending entry_key es → IsByParent es all → Ascending entry_key (siblings_at p all)
siblings_ascend p es all a b = subst (Ascending entry_key) (sym (b.each p)) (ascending_filter entry_key (λ e. bytes_eq e.parent p) es a)

filter_wider : {X : Type 0} (q r : X → Bool) → ((x : X) → r x ≡ true → q x ≡ true) → (xs : List X) → filter r (filter q xs) ≡ filter r xs
filter_wider q r h [] = refl
filter_wider q r h (x ∷ xs) =
    let rest = filter_wider q r h xs in
    elim (q x) as (λ b. q x ≡ b → filter r (cond b (x ∷ filter q xs) (filter q xs)) ≡ filter r (x ∷ xs)) [
      | true ↦ λ e. ap (λ l. cond (r x) (x ∷ l) l) rest
      | false ↦ λ e.
          let fails : r x ≡ false = ⊎_elim (λ t. absurd (both_ways (q x) e (h x t))) (λ f. f) (cases_Bool (r x)) in
          rw fails rest
    ] refl

-- the entries of a group are among those of its parent
pub group_among : (p i : Bytes) (es : List Entry) → filter (in_group p i) (children p es) ≡ filter (in_group p i) es
group_among p i es = filter_wider (λ e. bytes_eq e.parent p) (in_group p i) (λ e t. (and_parts (bytes_eq e.parent p) (bytes_eq e.identity i) t).0) es

-- ---- a change at one parent

put_siblings : (all : List Siblings) (s : Siblings) → Ascending parent_key all → 0 < length s.entries → ChangesAt s.parent s.entries all (with_row parent_key s.parent (Some s) all)
put_siblings all s a some =
    let order = ascending-with_row parent_key s.parent (Some s) all a refl in
    record {
      order = order;
      here = ap (λ l. entries_of (first l)) (row_alone parent_key s.parent (with_row parent_key s.parent (Some s) all) s order (new_with_row parent_key s.parent s all) refl);
      others = λ p n. ap (λ l. entries_of (first l)) (rows_elsewhere parent_key s.parent p (Some s) all (λ e. n (sym e)) refl a);
      filled = λ old t w. ⊎_elim (λ v. ⊎_elim (λ e. subst (λ t. 0 < length t.entries) e some) (λ n. absurd n) v) (λ r. old t r.0) (from_with_row parent_key s.parent (Some s) all t w);
    }

no_siblings : (all : List Siblings) (k : Bytes) → Ascending parent_key all → ChangesAt k [] all (with_row parent_key k None all)
no_siblings all k a = record {
  order = ascending-with_row parent_key k None all a tt;
  here = ap (λ l. entries_of (first l)) (none_within (λ s. bytes_eq s.parent k) (with_row parent_key k None all) (λ s w t. ⊎_elim (λ v. absurd v) (λ r. r.1 (text_is s.parent k t)) (from_with_row parent_key k None all s w)));
  others = λ p n. ap (λ l. entries_of (first l)) (rows_elsewhere parent_key k p None all (λ e. n (sym e)) tt a);
  filled = λ old t w. ⊎_elim (λ n. absurd n) (λ r. old t r.0) (from_with_row parent_key k None all t w);
}

pub siblings_put : (all new : List Siblings) (s : Siblings) (p : Bytes) (es : List Entry) → Ascending parent_key all → s.parent ≡ p → s.entries ≡ es → 0 < length es → new ≡ with_row parent_key s.parent (Some s) all → ChangesAt p es all new
siblings_put all new s p es a q r some e = subst (λ l. ChangesAt p es all l) (sym e) (subst (λ l. ChangesAt p l all (with_row parent_key s.parent (Some s) all)) r (subst (λ k. ChangesAt k s.entries all (with_row parent_key s.parent (Some s) all)) q (put_siblings all s a (subst (λ l. 0 < length l) (sym r) some))))

pub siblings_gone : (all new : List Siblings) (k p : Bytes) (es : List Entry) → Ascending parent_key all → k ≡ p → es ≡ [] → new ≡ with_row parent_key k None all → ChangesAt p es all new
siblings_gone all new k p es a q r e = subst (λ l. ChangesAt p es all l) (sym e) (subst (λ l. ChangesAt p l all (with_row parent_key k None all)) (sym r) (subst (λ t. ChangesAt t [] all (with_row parent_key k None all)) q (no_siblings all k a)))

-- removing an entry of a parent that has none changes nothing
pub siblings_same : (all new : List Siblings) (p id : Bytes) → Ascending parent_key all → siblings_at p all ≡ [] → new ≡ all → ChangesAt p (with_row entry_key id None (siblings_at p all)) all new
unfolding with_row
siblings_same all new p id a n e = subst (λ l. ChangesAt p (with_row entry_key id None (siblings_at p all)) all l) (sym e) (record {
  order = a;
  here = n ∙ sym (ap (with_row entry_key id None) n);
  others = λ q d. refl;
  filled = λ old. old;
})

-- ---- the entry of an id is removed, or put

elsewhere : (id p : Bytes) (es : List Entry) → Ascending entry_key es → ((x : Entry) → Within es x → x.id ≡ id → x.parent ≡ p → ⊥) → children p es ≡ with_row entry_key id None (children p es)
elsewhere id p es a n = sym (without_none entry_key id (children p es) (ascending_filter entry_key (λ e. bytes_eq e.parent p) es a) (λ x w e.
    let r = from_within_filter (λ e. bytes_eq e.parent p) es x w in
    n x r.0 e (text_is x.parent p r.1)))

pub removed : (es : List Entry) (all new : List Siblings) (old : Entry) (k : Bytes) → Ascending entry_key es → IsByParent es all → Within es old → old.id ≡ k → ChangesAt old.parent (with_row entry_key old.id None (siblings_at old.parent all)) all new → IsByParent (with_row entry_key k None es) new
removed es all new old k a b w q c = subst (λ t. IsByParent (with_row entry_key t None es) new) q (record {
  order = c.order;
  each = λ p. ⊎_elim
      (λ t. let e : p ≡ old.parent = text_is p old.parent t in
      ap (λ r. siblings_at r new) e ∙ (c.here ∙ (ap (with_row entry_key old.id None) (b.each old.parent) ∙ (sym (filter-with_row entry_key (λ x. bytes_eq x.parent old.parent) old.id None es) ∙ ap (λ r. children r (with_row entry_key old.id None es)) (sym e)))))
      (λ f. let apart : p ≡ old.parent → ⊥ = λ e. both_ways (bytes_eq p old.parent) f (text_same p old.parent e) in
      c.others p apart ∙ (b.each p ∙ (elsewhere old.id p es a (λ x v i j. apart (sym j ∙ ap (λ e. e.parent) (same_key entry_key es a x old v w i))) ∙ sym (filter-with_row entry_key (λ x. bytes_eq x.parent p) old.id None es))))
      (cases_Bool (bytes_eq p old.parent));
  filled = c.filled b.filled;
})

pub added : (es : List Entry) (all new : List Siblings) (e : Entry) → Ascending entry_key es → IsByParent es all → ((x : Entry) → Within es x → x.id ≡ e.id → ⊥) → ChangesAt e.parent (with_row entry_key e.id (Some e) (siblings_at e.parent all)) all new → IsByParent (with_row entry_key e.id (Some e) es) new
added es all new e a b n c = record {
  order = c.order;
  each = λ p. ⊎_elim
      (λ t. let q : p ≡ e.parent = text_is p e.parent t in
      let passes : kept (λ x. bytes_eq x.parent e.parent) (Some e) ≡ Some e = rw (text_same e.parent e.parent refl) refl in
      ap (λ r. siblings_at r new) q ∙ (c.here ∙ (ap (with_row entry_key e.id (Some e)) (b.each e.parent) ∙ (sym (filter-with_row entry_key (λ x. bytes_eq x.parent e.parent) e.id (Some e) es ∙ ap (λ o. with_row entry_key e.id o (children e.parent es)) passes) ∙ ap (λ r. children r (with_row entry_key e.id (Some e) es)) (sym q)))))
      (λ f. let apart : p ≡ e.parent → ⊥ = λ q. both_ways (bytes_eq p e.parent) f (text_same p e.parent q) in
      let fails : bytes_eq e.parent p ≡ false = ⊎_elim (λ t. absurd (apart (sym (text_is e.parent p t)))) (λ f. f) (cases_Bool (bytes_eq e.parent p)) in
      let dropped : kept (λ x. bytes_eq x.parent p) (Some e) ≡ None = rw fails refl in
      c.others p apart ∙ (b.each p ∙ (elsewhere e.id p es a (λ x v i j. n x v i) ∙ sym (filter-with_row entry_key (λ x. bytes_eq x.parent p) e.id (Some e) es ∙ ap (λ o. with_row entry_key e.id o (children p es)) dropped))))
      (cases_Bool (bytes_eq p e.parent));
  filled = c.filled b.filled;
}

-- removing the row of a key before putting another makes no difference
pub put_twice : (k : Bytes) (e : Entry) (es : List Entry) → Ascending entry_key es → e.id ≡ k → with_row entry_key k (Some e) (with_row entry_key k None es) ≡ with_row entry_key k (Some e) es
put_twice k e es a q =
    let rest = with_row entry_key k None es in
    same_sets entry_key (with_row entry_key k (Some e) rest) (with_row entry_key k (Some e) es)
    (ascending-with_row entry_key k (Some e) rest (ascending-with_row entry_key k None es a tt) q)
    (ascending-with_row entry_key k (Some e) es a q)
    (λ x w. ⊎_elim
    (λ v. ⊎_elim (λ i. subst (Within (with_row entry_key k (Some e) es)) i (new_with_row entry_key k e es)) (λ n. absurd n) v)
    (λ r. ⊎_elim (λ n. absurd n) (λ s. within_with_row entry_key k (Some e) es x s.0 s.1) (from_with_row entry_key k None es x r.0))
    (from_with_row entry_key k (Some e) rest x w))
    (λ x w. ⊎_elim
    (λ v. ⊎_elim (λ i. subst (Within (with_row entry_key k (Some e) rest)) i (new_with_row entry_key k e rest)) (λ n. absurd n) v)
    (λ r. within_with_row entry_key k (Some e) rest x (within_with_row entry_key k None es x r.0 r.1) r.1)
    (from_with_row entry_key k (Some e) es x w))

-- after the row of a key is removed, no row has the key
pub none_left : (k : Bytes) (es : List Entry) (x : Entry) → Within (with_row entry_key k None es) x → x.id ≡ k → ⊥
none_left k es x w q = ⊎_elim (λ n. absurd n) (λ r. r.1 q) (from_with_row entry_key k None es x w)

-- removing an id that no entry has changes nothing
pub none_gone : (k : Bytes) (es : List Entry) (all new : List Siblings) → Ascending entry_key es → IsByParent es all → None ≡ first (filter (λ e. bytes_eq e.id k) es) → new ≡ all → IsByParent (with_row entry_key k None es) new
none_gone k es all new a b h e = subst (IsByParent (with_row entry_key k None es)) (sym e) (subst (λ l. IsByParent l all) (sym (without_none entry_key k es a (no_row entry_key k es (sym h)))) b)
