-- An index after a row is put, and after a row is removed.
use Rattle.std.proofs.Common.{◌≡◌, ◌≢◌, ◌⊎◌, List, [], ◌∷◌, ◌++◌, Some, None, refl, sym, ap, subst, ◌∙◌, inl, inr, ⊎_elim}
use Rattle.std.specs.declared.cmp.Ordering.{Ordering}
use Rattle.std.specs.declared.cmp.Ordering.TheVariants.{Less, Equal, Greater}
use Rattle.std.specs.Ordering.{is_eq, is_lt, is_gt}
use Rattle.version_shelf.specs.Shelf.{rows_below, rows_above, with_key, without_key}
use Rattle.entry_book.specs.Rows.{Entry, entry_key}
use Rattle.entry_book.specs.Order.{Ascending, Within, with_row}
use Rattle.entry_book.proofs.Keys.{same_key, from_with_row, within_with_row, new_with_row}
use Rattle.entry_book.proofs.Sets.{All-within, within_filter, from_within_filter, within_left, within_right, from_within_append}
use Rattle.version_book.specs.declared.committed_row.CommittedRow.{CommittedRow}
use Rattle.version_book.specs.CommittedRows.{of_row}
use Rattle.version_book.specs.Index.{IsIndex, KeysIdentify, IsExactOrder}
use Rattle.version_book.specs.Stores.{IsAbsent}

-- ---- the list with the value under these keys, and the list without them

pub record Puts {K V : Type 0} (done : List K) (value : V) (old new : List (K × V)) : Type 0 where
  pub sound : (k : K) (v : V) → Within new (k, v) → (Within done k × (v ≡ value)) ⊎ (Within old (k, v) × (Within done k → ⊥))
  pub kept : (k : K) (v : V) → Within old (k, v) → (Within done k → ⊥) → Within new (k, v)
  pub put : (k : K) → Within done k → Within new (k, value)
  pub still : (k : K) (v : V) → Within old (k, v) → (u : V) × Within new (k, u)

pub puts_none : {K V : Type 0} (value : V) (old : List (K × V)) → Puts [] value old old
puts_none value old = record {
  sound = λ k v w. inr (w, λ n. n);
  kept = λ k v w n. w;
  put = λ k w. absurd w;
  still = λ k v w. (v, w);
}

pub record Takes {K V : Type 0} (done : List K) (old new : List (K × V)) : Type 0 where
  pub sound : (k : K) (v : V) → Within new (k, v) → Within old (k, v) × (Within done k → ⊥)
  pub kept : (k : K) (v : V) → Within old (k, v) → (Within done k → ⊥) → Within new (k, v)

by_order : {G : Type 0} (a : Ordering) → (a ≡ Less → G) → (a ≡ Equal → G) → (a ≡ Greater → G) → G
by_order Less below same above = below refl
by_order Equal below same above = same refl
by_order Greater below same above = above refl

module _ {K V : Type 0} (cmp : K → K → Ordering) (key : K) where
  -- a row with another key remains
  within_below : (rows : List (K × V)) (k : K) (v : V) → Within rows (k, v) → cmp k key ≡ Less → Within (rows_below cmp rows key) (k, v)
  within_below rows k v w e = within_filter (λ row. is_lt (cmp row.0 key)) rows (k, v) w (ap is_lt e)

  within_above : (rows : List (K × V)) (k : K) (v : V) → Within rows (k, v) → cmp k key ≡ Greater → Within (rows_above cmp rows key) (k, v)
  within_above rows k v w e = within_filter (λ row. is_gt (cmp row.0 key)) rows (k, v) w (ap is_gt e)

  below_apart : (rows : List (K × V)) (k : K) (v : V) → Within (rows_below cmp rows key) (k, v) → Within rows (k, v) × (cmp k key ≢ Equal)
  below_apart rows k v w = let r = from_within_filter (λ row. is_lt (cmp row.0 key)) rows (k, v) w in (r.0, λ e. let f = ap is_lt e in cc (r.1, f))

  above_apart : (rows : List (K × V)) (k : K) (v : V) → Within (rows_above cmp rows key) (k, v) → Within rows (k, v) × (cmp k key ≢ Equal)
  above_apart rows k v w = let r = from_within_filter (λ row. is_gt (cmp row.0 key)) rows (k, v) w in (r.0, λ e. let f = ap is_gt e in cc (r.1, f))

module _ {K V : Type 0} (cmp : K → K → Ordering) (is_exact : IsExactOrder cmp) where
  -- with one more key
  pub puts_one : ((k : K) → cmp k k ≡ Equal) → (done : List K) (key : K) (value : V) (old new : List (K × V)) → Puts done value old new → Puts (done ++ key ∷ []) value old (with_key cmp new key value)
  puts_one itself done key value old new p =
      let here : Within (with_key cmp new key value) (key, value) = within_right (rows_below cmp new key) ((key, value) ∷ rows_above cmp new key) (key, value) (inl refl) in
      let is_unchanged : (k : K) (v : V) → Within new (k, v) → (key ≢ k) → Within (with_key cmp new key value) (k, v) = λ k v w n. by_order (cmp k key)
      (λ e. within_left (rows_below cmp new key) ((key, value) ∷ rows_above cmp new key) (k, v) (within_below cmp key new k v w e))
      (λ e. absurd (n (sym (is_exact k key (ap is_eq e)))))
      (λ e. within_right (rows_below cmp new key) ((key, value) ∷ rows_above cmp new key) (k, v) (inr (within_above cmp key new k v w e))) in
      let from_new : (k : K) (v : V) → Within new (k, v) × (cmp k key ≢ Equal) → (Within (done ++ key ∷ []) k × (v ≡ value)) ⊎ (Within old (k, v) × (Within (done ++ key ∷ []) k → ⊥)) = λ k v w. ⊎_elim
      (λ r. inl (within_left done (key ∷ []) k r.0, r.1))
      (λ o. inr (o.0, λ d. ⊎_elim (λ n. o.1 n) (λ l. ⊎_elim (λ e. w.1 (subst (λ x. cmp k x ≡ Equal) (sym e) (itself k))) (λ n. n) l) (from_within_append done (key ∷ []) k d)))
      (p.sound k v w.0) in
      record {
        sound = λ k v w. ⊎_elim
            (λ l. from_new k v (below_apart cmp key new k v l))
            (λ r. ⊎_elim (λ e. inl (within_right done (key ∷ []) k (inl (ap (λ x. x.0) e)), sym (ap (λ x. x.1) e))) (λ u. from_new k v (above_apart cmp key new k v u)) r)
            (from_within_append (rows_below cmp new key) ((key, value) ∷ rows_above cmp new key) (k, v) w);
        kept = λ k v w n. is_unchanged k v (p.kept k v w (λ d. n (within_left done (key ∷ []) k d))) (λ e. n (within_right done (key ∷ []) k (inl e)));
        put = λ k w. by_order (cmp k key)
            (λ e. ⊎_elim (λ d. within_left (rows_below cmp new key) ((key, value) ∷ rows_above cmp new key) (k, value) (within_below cmp key new k value (p.put k d) e)) (λ s. ⊎_elim (λ q. subst (λ x. Within (with_key cmp new key value) (x, value)) q here) (λ n. absurd n) s) (from_within_append done (key ∷ []) k w))
            (λ e. subst (λ x. Within (with_key cmp new key value) (x, value)) (sym (is_exact k key (ap is_eq e))) here)
            (λ e. ⊎_elim (λ d. within_right (rows_below cmp new key) ((key, value) ∷ rows_above cmp new key) (k, value) (inr (within_above cmp key new k value (p.put k d) e))) (λ s. ⊎_elim (λ q. subst (λ x. Within (with_key cmp new key value) (x, value)) q here) (λ n. absurd n) s) (from_within_append done (key ∷ []) k w));
        still = λ k v w.
            let s = p.still k v w in
            by_order (cmp k key)
            (λ e. (s.0, within_left (rows_below cmp new key) ((key, value) ∷ rows_above cmp new key) (k, s.0) (within_below cmp key new k s.0 s.1 e)))
            (λ e. (value, subst (λ x. Within (with_key cmp new key value) (x, value)) (sym (is_exact k key (ap is_eq e))) here))
            (λ e. (s.0, within_right (rows_below cmp new key) ((key, value) ∷ rows_above cmp new key) (k, s.0) (inr (within_above cmp key new k s.0 s.1 e))));
      }

  -- without one more key
  pub takes_one : ((k : K) → cmp k k ≡ Equal) → (done : List K) (key : K) (old new : List (K × V)) → Takes done old new → Takes (done ++ key ∷ []) old (without_key cmp new key)
  takes_one itself done key old new p =
      let apart : (k : K) (v : V) → Within (without_key cmp new key) (k, v) → Within new (k, v) × (cmp k key ≢ Equal) = λ k v w. ⊎_elim (below_apart cmp key new k v) (above_apart cmp key new k v) (from_within_append (rows_below cmp new key) (rows_above cmp new key) (k, v) w) in
      record {
        sound = λ k v w.
            let r = apart k v w in
            let s = p.sound k v r.0 in
            (s.0, λ d. ⊎_elim (λ n. s.1 n) (λ l. ⊎_elim (λ e. r.1 (subst (λ x. cmp k x ≡ Equal) (sym e) (itself k))) (λ n. n) l) (from_within_append done (key ∷ []) k d));
        kept = λ k v w n.
            let u = p.kept k v w (λ d. n (within_left done (key ∷ []) k d)) in
            by_order (cmp k key)
            (λ e. within_left (rows_below cmp new key) (rows_above cmp new key) (k, v) (within_below cmp key new k v u e))
            (λ e. absurd (n (within_right done (key ∷ []) k (inl (sym (is_exact k key (ap is_eq e)))))))
            (λ e. within_right (rows_below cmp new key) (rows_above cmp new key) (k, v) (within_above cmp key new k v u e));
      }

-- ---- an index with all keys of a row, and without them

module _ {K : Type 0} (keys : Entry → List K) (identify : KeysIdentify keys) (rows : List (CommittedRow Entry)) (old new : List (K × CommittedRow Entry)) (i : IsIndex keys rows old) where
  pub index_with : (row : CommittedRow Entry) → IsAbsent entry_key row.row.id rows → Puts (keys row.row) row old new → IsIndex keys (with_row (of_row entry_key) row.row.id (Some row) rows) new
  index_with row absent p =
      let other : (r : CommittedRow Entry) → Within rows r → r.row.id ≢ row.row.id = λ r w. All-within (λ r. r.row.id ≡ row.row.id → ⊥) rows r absent w in
      record {
        sound = λ k r w. ⊎_elim
            (λ n. (subst (Within (with_row (of_row entry_key) row.row.id (Some row) rows)) (sym n.1) (new_with_row (of_row entry_key) row.row.id row rows), subst (λ s. Within (keys s.row) k) (sym n.1) n.0))
            (λ o. let s = i.sound k r o.0 in (within_with_row (of_row entry_key) row.row.id (Some row) rows r s.0 (other r s.0), s.1))
            (p.sound k r w);
        complete = λ k r w v. ⊎_elim
            (λ n. ⊎_elim (λ e. subst (λ s. Within new (k, s)) e (p.put k (subst (λ s. Within (keys s.row) k) (sym e) v))) (λ n. absurd n) n)
            (λ o. p.kept k r (i.complete k r o.0 v) (λ d. o.1 (identify r.row row.row k v d)))
            (from_with_row (of_row entry_key) row.row.id (Some row) rows r w);
      }

  -- a row in place of the previous one with its id, which has the same keys
  pub index_replaced : (row previous : CommittedRow Entry) → Ascending (of_row entry_key) rows → Within rows previous → previous.row.id ≡ row.row.id → keys previous.row ≡ keys row.row → Puts (keys row.row) row old new → IsIndex keys (with_row (of_row entry_key) row.row.id (Some row) rows) new
  index_replaced row previous sorted there id same p =
      let its : (k : K) (r : CommittedRow Entry) → Within rows r → Within (keys r.row) k → r.row.id ≡ row.row.id → Within (keys row.row) k = λ k r w v e.
      subst (λ ks. Within ks k) same (subst (λ t. Within (keys t.row) k) (same_key (of_row entry_key) rows sorted r previous w there (e ∙ sym id)) v) in
      record {
        sound = λ k r w. ⊎_elim
            (λ n. (subst (Within (with_row (of_row entry_key) row.row.id (Some row) rows)) (sym n.1) (new_with_row (of_row entry_key) row.row.id row rows), subst (λ s. Within (keys s.row) k) (sym n.1) n.0))
            (λ o. let s = i.sound k r o.0 in (within_with_row (of_row entry_key) row.row.id (Some row) rows r s.0 (λ e. o.1 (its k r s.0 s.1 e)), s.1))
            (p.sound k r w);
        complete = λ k r w v. ⊎_elim
            (λ n. ⊎_elim (λ e. subst (λ s. Within new (k, s)) e (p.put k (subst (λ s. Within (keys s.row) k) (sym e) v))) (λ n. absurd n) n)
            (λ o. p.kept k r (i.complete k r o.0 v) (λ d. o.1 (identify r.row row.row k v d)))
            (from_with_row (of_row entry_key) row.row.id (Some row) rows r w);
      }

  pub index_without : (row : CommittedRow Entry) → Ascending (of_row entry_key) rows → Within rows row → Takes (keys row.row) old new → IsIndex keys (with_row (of_row entry_key) row.row.id None rows) new
  index_without row sorted there p = record {
    sound = λ k r w.
        let o = p.sound k r w in
        let s = i.sound k r o.0 in
        (within_with_row (of_row entry_key) row.row.id None rows r s.0 (λ e. o.1 (subst (λ t. Within (keys t.row) k) (same_key (of_row entry_key) rows sorted r row s.0 there e) s.1)), s.1);
    complete = λ k r w v. ⊎_elim
        (λ n. absurd n)
        (λ o. p.kept k r (i.complete k r o.0 v) (λ d. o.1 (identify r.row row.row k v d)))
        (from_with_row (of_row entry_key) row.row.id None rows r w);
  }
