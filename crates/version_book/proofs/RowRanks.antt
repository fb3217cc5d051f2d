-- What a search finds in rows in order, what is put at its index or removed there, and which keys no row has.
use Rattle.std.proofs.Common.{◌≡◌, ℕ, zero, suc, ◌+◌, ◌<◌, ◌≤◌, true, false, List, [], ◌∷◌, ◌++◌, length, get_or, set, take, drop, Some, None, Result, Ok, Err, refl, sym, ap, subst, ◌∙◌, inl, inr, ⊎_elim, arith}
use Rattle.std.specs.Prelude.{filter, bytes_eq, is_err, not, Bool}
use Rattle.std.specs.List.{AllByRecursion, HoldsAt, list_any, insert}
use Rattle.std.specs.List.Sorted.{IsBinarySearchResult, IsSearchInRange, IsNonDecreasingBy}
use Rattle.std.specs.declared.cmp.Ordering.TheVariants.{Less, Equal, Greater}
use Rattle.std.specs.Ordering.{is_lt, nat_cmp, ordering_index, ordering_reverse}
use Rattle.std.specs.Cmp.Lexicographic.{slice_cmp, nat_list_cmp_total}
use Rattle.std.specs.FinMap.{slice_cmp-IsAntisymmetric, nat_cmp-IsAntisymmetric}
use Rattle.std.proofs.lemmas.Bool.{cases_Bool, false≢true}
use Rattle.std.proofs.lemmas.List.{take-append-drop, set_split}
use Rattle.std.proofs.lemmas.List.Sorted.{searchable_from_sorted}
use Rattle.entry_book.specs.Rows.{Bytes}
use Rattle.entry_book.specs.Order.{Within, Ascending, is_before, with_row}
use Rattle.entry_book.proofs.Sets.{All-within, before-irrefl, before-total, before-trans, from_any, within_any, from_within_append, from_within_filter, text_is, text_same}
use Rattle.version_book.specs.RowRanks.{IsRowRank}

-- ---- the items before the first that fails a test, and those after

none_pass : {X : Type 0} (p : X → Bool) (xs : List X) → AllByRecursion (λ x. p x ≡ false) xs → filter p xs ≡ []
none_pass p [] h = refl
none_pass p (x ∷ xs) h = rw h.0 (none_pass p xs h.1)

all_pass : {X : Type 0} (p : X → Bool) (xs : List X) → AllByRecursion (λ x. p x ≡ true) xs → filter p xs ≡ xs
all_pass p [] h = refl
all_pass p (x ∷ xs) h = rw h.0 (ap (λ l. x ∷ l) (all_pass p xs h.1))

within_at : {X : Type 0} (xs : List X) (n : ℕ) (d : X) → n < length xs → Within xs (get_or xs n d)
within_at [] n d h = absurd (omega arith)
within_at (x ∷ xs) zero d h = inl refl
within_at (x ∷ xs) (suc n) d h = inr (within_at xs n d (omega arith))

not_before : (x y : Bytes) → is_before x y ≡ true → is_before y x ≡ false
not_before x y h = ⊎_elim (λ t. absurd (before-irrefl x (before-trans x y x h t))) (λ f. f) (cases_Bool (is_before y x))

not_true : (b : Bool) → not b ≡ true → b ≡ false
not_true true h = absurd (false≢true h)
not_true false h = refl

not_itself : (x : Bytes) → is_before x x ≡ false
not_itself x = ⊎_elim (λ t. absurd (before-irrefl x t)) (λ f. f) (cases_Bool (is_before x x))

-- ---- the order of a search's results

less : (x y : Bytes) → slice_cmp nat_cmp x y ≡ Less → is_before x y ≡ true
unfolding is_before
less x y h = ap is_lt h

greater : (x y : Bytes) → slice_cmp nat_cmp x y ≡ Greater → is_before y x ≡ true
unfolding is_before
greater x y h = ap is_lt (nat_list_cmp_total.antisymm y x ∙ ap ordering_reverse h)

pub equal : (x y : Bytes) → slice_cmp nat_cmp x y ≡ Equal → x ≡ y
equal x y h = slice_cmp-IsAntisymmetric nat_cmp-IsAntisymmetric x y h

module _ {X : Type 0} (key : X → Bytes) where
  -- no later row is less than an earlier one
  adjacent : (xs : List X) → Ascending key xs → (n : ℕ) (d : X) → suc n < length xs → is_before (key (get_or xs (suc n) d)) (key (get_or xs n d)) ≡ false
  adjacent [] a n d h = absurd (omega arith)
  adjacent (x ∷ []) a n d h = absurd (omega arith)
  adjacent (x ∷ y ∷ xs) a zero d h = not_before (key x) (key y) a.0.0
  adjacent (x ∷ y ∷ xs) a (suc n) d h = adjacent (y ∷ xs) a.1 n d (omega arith)

  next : (n : ℕ) → n + 1 ≡ suc n
  next n = omega arith

  rises : (xs : List X) (k : Bytes) → Ascending key xs → IsNonDecreasingBy (λ y. ordering_index (slice_cmp nat_cmp (key y) k)) xs
  unfolding is_before
  rises xs k a = searchable_from_sorted nat_list_cmp_total key xs k (λ n d l h. rw (ap (λ m. is_lt (slice_cmp nat_cmp (key (get_or xs m d)) (key (get_or xs n d)))) (next n)) (adjacent xs a n d (omega arith)))

  module _ (k : Bytes) where
    -- the rows below the key, and those above it, by their indexes
    abbrev LowBelow : List X → ℕ → Type 0
    LowBelow xs n = (i : ℕ) (d : X) → i < n → is_before (key (get_or xs i d)) k ≡ true

    abbrev HighFrom : List X → ℕ → Type 0
    HighFrom xs n = (i : ℕ) (d : X) → n ≤ i → i < length xs → is_before k (key (get_or xs i d)) ≡ true

    all_above : (xs : List X) → HighFrom xs 0 → AllByRecursion (λ x. is_before k (key x) ≡ true) xs
    all_above [] h = tt
    all_above (x ∷ xs) h = (h 0 x (omega arith) (omega arith), all_above xs (λ i d l m. h (suc i) d (omega arith) (omega arith)))

    none_below : (xs : List X) → AllByRecursion (λ x. is_before k (key x) ≡ true) xs → AllByRecursion (λ x. is_before (key x) k ≡ false) xs
    none_below [] h = tt
    none_below (x ∷ xs) h = (not_before k (key x) h.0, none_below xs h.1)

    gap : (xs : List X) (n : ℕ) → n ≤ length xs → LowBelow xs n → HighFrom xs n → (take n xs ≡ filter (λ x. is_before (key x) k) xs) × (drop n xs ≡ filter (λ x. is_before k (key x)) xs)
    gap xs zero h low high =
        let above = all_above xs high in
        (sym (none_pass (λ x. is_before (key x) k) xs (none_below xs above)), sym (all_pass (λ x. is_before k (key x)) xs above))
    gap [] (suc n) h low high = absurd (omega arith)
    gap (x ∷ xs) (suc n) h low high =
        let r = gap xs n (omega arith) (λ i d l. low (suc i) d (omega arith)) (λ i d l m. high (suc i) d (omega arith) (omega arith)) in
        let b : is_before (key x) k ≡ true = low 0 x (omega arith) in
        let f : is_before k (key x) ≡ false = not_before (key x) k b in
        (rw b (ap (λ l. x ∷ l) r.0), rw f r.1)

    there : (xs : List X) (n : ℕ) → Ascending key xs → n < length xs → HoldsAt (λ x. key x ≡ k) xs n → (take n xs ≡ filter (λ x. is_before (key x) k) xs) × (drop (suc n) xs ≡ filter (λ x. is_before k (key x)) xs)
    there [] n a h e = absurd (omega arith)
    there (x ∷ xs) zero a h e =
        let q : key x ≡ k = e x in
        let above : AllByRecursion (λ y. is_before k (key y) ≡ true) xs = subst (λ t. AllByRecursion (λ y. is_before t (key y) ≡ true) xs) q a.0 in
        let f : is_before (key x) k ≡ false = subst (λ t. is_before t k ≡ false) (sym q) (not_itself k) in
        let g : is_before k (key x) ≡ false = subst (λ t. is_before k t ≡ false) (sym q) (not_itself k) in
        (rw f (sym (none_pass (λ x. is_before (key x) k) xs (none_below xs above))), rw g (sym (all_pass (λ x. is_before k (key x)) xs above)))
    there (x ∷ xs) (suc n) a h e =
        let r = there xs n a.1 (omega arith) (λ d. e d) in
        let w : Within xs (get_or xs n x) = within_at xs n x (omega arith) in
        let b : is_before (key x) k ≡ true = subst (λ t. is_before (key x) t ≡ true) (e x) (All-within (λ y. is_before (key x) (key y) ≡ true) xs (get_or xs n x) a.0 w) in
        let f : is_before k (key x) ≡ false = not_before (key x) k b in
        (rw b (ap (λ l. x ∷ l) r.0), rw f r.1)

    -- the result of a binary search is the key's index
    pub searched : (xs : List X) (r : Result ℕ ℕ) → Ascending key xs → IsSearchInRange r (length xs) → IsBinarySearchResult (λ y. slice_cmp nat_cmp (key y) k) xs r → IsRowRank key xs k r
    searched xs (Ok n) a h p =
        let e : HoldsAt (λ x. key x ≡ k) xs n = λ d. equal (key (get_or xs n d)) k (p d) in
        let r = there xs n a h e in
        (h, e, r.0, r.1)
    searched xs (Err n) a h p =
        let q = p (rises xs k a) in
        let r = gap xs n h (λ i d l. less (key (get_or xs i d)) k (q.0 i d (omega arith) l)) (λ i d l m. greater (key (get_or xs i d)) k (q.1 i d l m)) in
        (h, r.0, r.1)

    -- ---- whether the key is there

    pub is_there : (xs : List X) (n : ℕ) → IsRowRank key xs k (Ok n) → list_any (λ y. bytes_eq (key y) k) xs ≡ true
    is_there [] n p = let h = p.0 in absurd (omega arith)
    is_there (x ∷ xs) n p =
        let y = get_or (x ∷ xs) n x in
        within_any (λ y. bytes_eq (key y) k) (x ∷ xs) y (within_at (x ∷ xs) n x p.0) (text_same (key y) k (p.1 x))

    pub is_missing : (xs : List X) (n : ℕ) → IsRowRank key xs k (Err n) → list_any (λ y. bytes_eq (key y) k) xs ≡ false
    is_missing xs n p = ⊎_elim
        (λ t.
        let v = from_any (λ y. bytes_eq (key y) k) xs t in
        let e : key v.0 ≡ k = text_is (key v.0) k v.2 in
        let w : Within (take n xs ++ drop n xs) v.0 = subst (λ l. Within l v.0) (sym (take-append-drop n xs)) v.1 in
        absurd (⊎_elim
        (λ l. before-irrefl k (subst (λ t. is_before t k ≡ true) e (from_within_filter (λ x. is_before (key x) k) xs v.0 (subst (λ l. Within l v.0) p.1 l)).1))
        (λ r. before-irrefl k (subst (λ t. is_before k t ≡ true) e (from_within_filter (λ x. is_before k (key x)) xs v.0 (subst (λ l. Within l v.0) p.2 r)).1))
        (from_within_append (take n xs) (drop n xs) v.0 w)))
        (λ f. f)
        (cases_Bool (list_any (λ y. bytes_eq (key y) k) xs))

    -- ---- a row that is put at the index

    pub put_at : (xs : List X) (n : ℕ) (x : X) → IsRowRank key xs k (Ok n) → set xs n x ≡ with_row key k (Some x) xs
    unfolding with_row
    put_at xs n x p = set_split xs n x p.0 ∙ (ap (λ l. l ++ x ∷ drop (suc n) xs) p.2 ∙ ap (λ l. filter (λ x. is_before (key x) k) xs ++ x ∷ l) p.3)

    pub put_in : (xs : List X) (n : ℕ) (x : X) → IsRowRank key xs k (Err n) → insert xs n x ≡ with_row key k (Some x) xs
    unfolding with_row
    put_in xs n x p = ap (λ l. l ++ x ∷ drop n xs) p.1 ∙ ap (λ l. filter (λ x. is_before (key x) k) xs ++ x ∷ l) p.2

    -- ---- the row at the index that is removed, and a row that isn't there

    pub taken_out : (xs : List X) (n : ℕ) → IsRowRank key xs k (Ok n) → take n xs ++ drop (n + 1) xs ≡ with_row key k None xs
    unfolding with_row
    taken_out xs n p =
        let below = p.2 in
        let above = ap (λ m. drop m xs) (next n) ∙ p.3 in
        λ i. below i ++ above i

    pub not_there : (xs : List X) (n : ℕ) → IsRowRank key xs k (Err n) → xs ≡ with_row key k None xs
    unfolding with_row
    not_there xs n p =
        let below = p.1 in
        let above = p.2 in
        sym (take-append-drop n xs) ∙ (λ i. below i ++ above i)

    -- ---- rows without a row of the key stay: none, a single row of another key, and rows in which a search finds none

    pub none_left : (xs : List X) → length xs < 1 → xs ≡ with_row key k None xs
    unfolding with_row
    none_left [] below = refl
    none_left (x ∷ xs) below = absurd (omega (arith, below))

    -- the row is below the key or above it
    single : (x : X) → bytes_eq (key x) k ≡ false → x ∷ [] ≡ with_row key k None (x ∷ [])
    unfolding with_row
    single x other = ⊎_elim
        (λ less.
        let below = sym (all_pass (λ x. is_before (key x) k) (x ∷ []) (less, tt)) in
        let above = sym (none_pass (λ x. is_before k (key x)) (x ∷ []) (not_before (key x) k less, tt)) in
        λ i. below i ++ above i)
        (λ rest. ⊎_elim
        (λ same. absurd (false≢true (sym other ∙ text_same (key x) k same)))
        (λ more.
        let below = sym (none_pass (λ x. is_before (key x) k) (x ∷ []) (not_before k (key x) more, tt)) in
        let above = sym (all_pass (λ x. is_before k (key x)) (x ∷ []) (more, tt)) in
        λ i. below i ++ above i)
        rest)
        (before-total (key x) k)

    pub other_left : (xs : List X) (x : X) → 1 ≤ length xs → length xs < 2 → x ≡ get_or xs 0 x → not (bytes_eq (key x) k) ≡ true → xs ≡ with_row key k None xs
    other_left [] x from below at other = absurd (omega (arith, from))
    other_left (y ∷ []) x from below at other = single y (subst (λ z. bytes_eq (key z) k ≡ false) at (not_true (bytes_eq (key x) k) other))
    other_left (y ∷ z ∷ xs) x from below at other = absurd (omega (arith, below))

    pub missing_left : (xs : List X) (r : Result ℕ ℕ) → IsRowRank key xs k r → is_err r ≡ true → xs ≡ with_row key k None xs
    missing_left xs (Ok n) place err = absurd (false≢true err)
    missing_left xs (Err n) place err = not_there xs n place
