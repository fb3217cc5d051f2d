-- The effect of a list of writes of entries: each entry of the list is replaced by another of its id, or removed.
use Rattle.std.proofs.Common.{◌≡◌, Bool, true, false, not, ◌⊎◌, List, [], ◌∷◌, ◌++◌, Option, Some, None, refl, sym, ap, subst, ◌∙◌, inl, inr, ⊎_elim, IfSome}
use Rattle.std.specs.Prelude.{filter, map, option_to_list, if◌then◌else◌}
use Rattle.std.proofs.lemmas.Bool.{both_ways, cases_Bool}
use Rattle.entry_book.specs.declared.bundle.Bundle.{Bundle}
use Rattle.entry_book.specs.Rows.{Bytes, Entry, entry_key, bundle_key}
use Rattle.entry_book.specs.Order.{Within, Ascending, is_before, with_row}
use Rattle.entry_book.specs.Book.{Book, AscendingBook}
use Rattle.entry_book.specs.Writes.{RowWrite, wrote_entry, after, after_write, FitAll}
use Rattle.entry_book.specs.Ops.{removed, dissociated, freed, bundle_removed}
use Rattle.entry_book.proofs.InOrder.{ascending-with_row}
use Rattle.entry_book.proofs.Keys.{same_key, row_alone, from_with_row, within_with_row, new_with_row}
use Rattle.entry_book.proofs.Sets.{All-within, All-from_within, within_filter, from_within_filter, same_sets, ascending_filter, before-irrefl}

-- ---- lists of writes

pub after-append : (vs ws : List RowWrite) (b : Book) → after (vs ++ ws) b ≡ after ws (after vs b)
after-append [] ws b = refl
after-append (v ∷ vs) ws b = after-append vs ws (after_write v b)

pub fit-append : (vs ws : List RowWrite) (b : Book) → FitAll vs b → FitAll ws (after vs b) → FitAll (vs ++ ws) b
fit-append [] ws b f g = g
fit-append (v ∷ vs) ws b f g = (f.0, fit-append vs ws (after_write v b) f.1 g)

-- ---- keys

module _ {X : Type 0} (key : X → Bytes) where
  -- no later row has the key of the first
  pub apart : (x : X) (xs : List X) → Ascending key (x ∷ xs) → (y : X) → Within xs y → key y ≡ key x → ⊥
  apart x xs a y w e = before-irrefl (key x) (subst (λ k. is_before (key x) k ≡ true) e (All-within (λ y. is_before (key x) (key y) ≡ true) xs y a.0 w))

  pub within_map : (f : X → X) (xs : List X) (x : X) → Within xs x → Within (map f xs) (f x)
  within_map f [] x w = absurd w
  within_map f (y ∷ ys) x w = ⊎_elim (λ e. inl (ap f e)) (λ v. inr (within_map f ys x v)) w

  pub from_within_map : (f : X → X) (xs : List X) (y : X) → Within (map f xs) y → (x : X) × Within xs x × (f x ≡ y)
  from_within_map f [] y w = absurd w
  from_within_map f (x ∷ xs) y w = ⊎_elim (λ e. (x, inl refl, e)) (λ v. let r = from_within_map f xs y v in (r.0, inr r.1, r.2)) w

  pub ascending_map : (f : X → X) → ((x : X) → key (f x) ≡ key x) → (xs : List X) → Ascending key xs → Ascending key (map f xs)
  ascending_map f k [] a = tt
  ascending_map f k (x ∷ xs) a = (
    All-from_within (λ z. is_before (key (f x)) (key z) ≡ true) (map f xs) (λ z w.
        let r = from_within_map f xs z w in
        let b : is_before (key x) (key r.0) ≡ true = All-within (λ z. is_before (key x) (key z) ≡ true) xs r.0 a.0 r.1 in
        subst (λ t. is_before (key (f x)) (key t) ≡ true) r.2 (rw (k x, k r.0) b)),
    ascending_map f k xs a.1,
  )

-- ---- each entry of a list is replaced by the result of f

abbrev pub rewritten : (Entry → Option Entry) → Entry → RowWrite
rewritten f e = wrote_entry (record { key = e.id; old = Some e; new = f e })

-- the entries after
abbrev pub changed : (Entry → Option Entry) → List Entry → List Entry → List Entry
changed f [] rows = rows
changed f (e ∷ es) rows = changed f es (with_row entry_key e.id (f e) rows)

pub after-rewritten : (f : Entry → Option Entry) (es : List Entry) (b : Book) → after (map (rewritten f) es) b ≡ record b { entries = changed f es b.entries }
after-rewritten f [] b = refl
after-rewritten f (e ∷ es) b = after-rewritten f es (record b { entries = with_row entry_key e.id (f e) b.entries })

new_is : (o : Option Entry) (x : Entry) → Within (option_to_list o) x → o ≡ Some x
new_is None x w = absurd w
new_is (Some y) x w = ⊎_elim (λ e. ap Some e) (λ n. absurd n) w

some_is : (x y : Entry) → Some x ≡ Some y → x ≡ y
some_is x y e = cc

-- none of these entries has the id of x
abbrev pub Untouched : List Entry → Entry → Type 0
Untouched es x = (e : Entry) → Within es e → x.id ≡ e.id → ⊥

module _ (f : Entry → Option Entry) (keyed : (e : Entry) → IfSome (f e) (λ x. x.id ≡ e.id)) where
  keyed_is : (e x : Entry) → f e ≡ Some x → x.id ≡ e.id
  keyed_is e x h = let k : IfSome (Some x) (λ x. x.id ≡ e.id) = subst (λ o. IfSome o (λ x. x.id ≡ e.id)) h (keyed e) in k

  pub changed_ascending : (es rows : List Entry) → Ascending entry_key rows → Ascending entry_key (changed f es rows)
  changed_ascending [] rows a = a
  changed_ascending (e ∷ es) rows a = changed_ascending es (with_row entry_key e.id (f e) rows) (ascending-with_row entry_key e.id (f e) rows a (keyed e))

  pub from_changed : (es rows : List Entry) (x : Entry) → Within (changed f es rows) x → ((e : Entry) × Within es e × (f e ≡ Some x)) ⊎ (Within rows x × Untouched es x)
  from_changed [] rows x w = inr (w, λ e v. absurd v)
  from_changed (e ∷ es) rows x w = ⊎_elim
      (λ r. inl (r.0, inr r.1, r.2))
      (λ r. ⊎_elim
      (λ n. inl (e, inl refl, new_is (f e) x n))
      (λ k. inr (k.0, λ d v q. ⊎_elim (λ i. k.1 (q ∙ ap entry_key (sym i))) (λ u. r.1 d u q) v))
      (from_with_row entry_key e.id (f e) rows x r.0))
      (from_changed es (with_row entry_key e.id (f e) rows) x w)

  pub kept_in_changed : (es rows : List Entry) (x : Entry) → Within rows x → Untouched es x → Within (changed f es rows) x
  kept_in_changed [] rows x w n = w
  kept_in_changed (e ∷ es) rows x w n = kept_in_changed es (with_row entry_key e.id (f e) rows) x (within_with_row entry_key e.id (f e) rows x w (n e (inl refl))) (λ d v. n d (inr v))

  pub new_in_changed : (es rows : List Entry) → Ascending entry_key es → (e x : Entry) → Within es e → f e ≡ Some x → Within (changed f es rows) x
  new_in_changed [] rows a e x w h = absurd w
  new_in_changed (d ∷ ds) rows a e x w h = ⊎_elim
      (λ q.
      let i : f d ≡ Some x = ap f q ∙ h in
      kept_in_changed ds (with_row entry_key d.id (f d) rows) x
      (rw i (new_with_row entry_key d.id x rows))
      (λ c v t. apart entry_key d ds a c v (sym t ∙ keyed_is d x i)))
      (λ v. new_in_changed ds (with_row entry_key d.id (f d) rows) a.1 e x v h)
      w

  pub rewritten_fits : (es : List Entry) (b : Book) → Ascending entry_key b.entries → Ascending entry_key es → ((e : Entry) → Within es e → Within b.entries e) → FitAll (map (rewritten f) es) b
  rewritten_fits [] b a s h = tt
  rewritten_fits (e ∷ es) b a s h = (
    record { found = row_alone entry_key e.id b.entries e a (h e (inl refl)) refl; keyed = keyed e },
    rewritten_fits es (record b { entries = with_row entry_key e.id (f e) b.entries }) (ascending-with_row entry_key e.id (f e) b.entries a (keyed e)) s.1
        (λ d v. within_with_row entry_key e.id (f e) b.entries d (h d (inr v)) (apart entry_key e es s d v)),
  )

  -- and then a bundle is removed
  pub rewritten_then_fits : (es : List Entry) (d : Bundle) (b : Book) → AscendingBook b → Ascending entry_key es → ((e : Entry) → Within es e → Within b.entries e) → Within b.bundles d → FitAll (map (rewritten f) es ++ bundle_removed d ∷ []) b
  rewritten_then_fits es d b a s h w = fit-append (map (rewritten f) es) (bundle_removed d ∷ []) b
      (rewritten_fits es b a.entries s h)
      (subst (FitAll (bundle_removed d ∷ [])) (sym (after-rewritten f es b)) (record { found = row_alone bundle_key d.domain b.bundles d a.bundles w refl; keyed = tt }, tt))

-- ---- the entries that pass a test, in one book

abbrev gone : Entry → Option Entry
gone e = None

gone_keyed : (e : Entry) → IfSome (gone e) (λ x. x.id ≡ e.id)
gone_keyed e = tt

freed_keyed : (domain : Bytes) (e : Entry) → IfSome (Some (dissociated domain e)) (λ x. x.id ≡ e.id)
freed_keyed domain e = refl

-- an entry doesn't pass exactly if none of those that pass has its id
fails : (p : Entry → Bool) (b : Book) (x : Entry) → Within b.entries x → Untouched (filter p b.entries) x → p x ≡ false
fails p b x w n = ⊎_elim (λ t. absurd (n x (within_filter p b.entries x w t) refl)) (λ t. t) (cases_Bool (p x))

untouched : (p : Entry → Bool) (b : Book) → AscendingBook b → (x : Entry) → Within b.entries x → p x ≡ false → Untouched (filter p b.entries) x
untouched p b a x w n e v q =
    let r = from_within_filter p b.entries e v in
    let i : x ≡ e = same_key entry_key b.entries a.entries x e w r.0 q in
    both_ways (p x) n (ap p i ∙ r.1)

pub not_is : (c : Bool) → not c ≡ true → c ≡ false
not_is true h = sym h
not_is false h = refl

pub after_removed : (p : Entry → Bool) (b : Book) → AscendingBook b → after (map removed (filter p b.entries)) b ≡ record b { entries = filter (λ e. not (p e)) b.entries }
after_removed p b a =
    let es = filter p b.entries in
    let same : changed gone es b.entries ≡ filter (λ e. not (p e)) b.entries = same_sets entry_key (changed gone es b.entries) (filter (λ e. not (p e)) b.entries)
    (changed_ascending gone gone_keyed es b.entries a.entries)
    (ascending_filter entry_key (λ e. not (p e)) b.entries a.entries)
    (λ x w. ⊎_elim
    (λ r. let q : None ≡ Some x = r.2 in cc)
    (λ r. within_filter (λ e. not (p e)) b.entries x r.0 (rw (fails p b x r.0 r.1) refl))
    (from_changed gone gone_keyed es b.entries x w))
    (λ x w. let r = from_within_filter (λ e. not (p e)) b.entries x w in
    kept_in_changed gone gone_keyed es b.entries x r.0 (untouched p b a x r.0 (not_is (p x) r.1))) in
    after-rewritten gone es b ∙ ap (λ rows. record b { entries = rows }) same

-- an entry that passes the test is freed
abbrev pub freed_if : Bytes → (Entry → Bool) → Entry → Entry
freed_if domain p e = if p e then dissociated domain e else e

pub freed_if-true : (domain : Bytes) (p : Entry → Bool) (e : Entry) → p e ≡ true → freed_if domain p e ≡ dissociated domain e
freed_if-true domain p e h = rw h refl

pub freed_if-false : (domain : Bytes) (p : Entry → Bool) (e : Entry) → p e ≡ false → freed_if domain p e ≡ e
freed_if-false domain p e h = rw h refl

pub freed_if_keyed : (domain : Bytes) (p : Entry → Bool) (e : Entry) → entry_key (freed_if domain p e) ≡ entry_key e
freed_if_keyed domain p e = ⊎_elim (λ t. ap entry_key (freed_if-true domain p e t)) (λ t. ap entry_key (freed_if-false domain p e t)) (cases_Bool (p e))

pub after_freed : (domain : Bytes) (p : Entry → Bool) (b : Book) → AscendingBook b → after (map (freed domain) (filter p b.entries)) b ≡ record b { entries = map (λ e. if p e then dissociated domain e else e) b.entries }
after_freed domain p b a =
    let es = filter p b.entries in
    let new : Entry → Option Entry = λ e. Some (dissociated domain e) in
    let f = freed_if domain p in
    let same : changed new es b.entries ≡ map f b.entries = same_sets entry_key (changed new es b.entries) (map f b.entries)
    (changed_ascending new (freed_keyed domain) es b.entries a.entries)
    (ascending_map entry_key f (freed_if_keyed domain p) b.entries a.entries)
    (λ x w. ⊎_elim
    (λ r.
    let g = from_within_filter p b.entries r.0 r.1 in
    let i : dissociated domain r.0 ≡ x = some_is (dissociated domain r.0) x r.2 in
    subst (Within (map f b.entries)) (freed_if-true domain p r.0 g.1 ∙ i) (within_map entry_key f b.entries r.0 g.0))
    (λ r. subst (Within (map f b.entries)) (freed_if-false domain p x (fails p b x r.0 r.1)) (within_map entry_key f b.entries x r.0))
    (from_changed new (freed_keyed domain) es b.entries x w))
    (λ y w. let r = from_within_map entry_key f b.entries y w in
    ⊎_elim
    (λ t. new_in_changed new (freed_keyed domain) es b.entries (ascending_filter entry_key p b.entries a.entries) r.0 y (within_filter p b.entries r.0 r.1 t) (ap Some (sym (freed_if-true domain p r.0 t) ∙ r.2)))
    (λ t.
    let i : r.0 ≡ y = sym (freed_if-false domain p r.0 t) ∙ r.2 in
    subst (Within (changed new es b.entries)) i (kept_in_changed new (freed_keyed domain) es b.entries r.0 r.1 (untouched p b a r.0 r.1 t)))
    (cases_Bool (p r.0))) in
    after-rewritten new es b ∙ ap (λ rows. record b { entries = rows }) same

-- ---- and then a bundle is removed

pub after_removed_then : (p : Entry → Bool) (d : Bundle) (b : Book) → AscendingBook b → after (map removed (filter p b.entries) ++ bundle_removed d ∷ []) b ≡ record b { entries = filter (λ e. not (p e)) b.entries; bundles = with_row bundle_key d.domain None b.bundles }
after_removed_then p d b a = after-append (map removed (filter p b.entries)) (bundle_removed d ∷ []) b ∙ ap (after (bundle_removed d ∷ [])) (after_removed p b a)

pub after_freed_then : (domain : Bytes) (p : Entry → Bool) (d : Bundle) (b : Book) → AscendingBook b → after (map (freed domain) (filter p b.entries) ++ bundle_removed d ∷ []) b ≡ record b { entries = map (λ e. if p e then dissociated domain e else e) b.entries; bundles = with_row bundle_key d.domain None b.bundles }
after_freed_then domain p d b a = after-append (map (freed domain) (filter p b.entries)) (bundle_removed d ∷ []) b ∙ ap (after (bundle_removed d ∷ [])) (after_freed domain p b a)
