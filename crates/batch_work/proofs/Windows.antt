-- How a window represents the list of all books: the difference to the newest number finds a version, and the books of the
-- versions are the last 64.
use Rattle.std.proofs.Common.{◌≡◌, ℕ, zero, suc, ◌+◌, ◌-◌, ◌<◌, ◌≤◌, Bool, true, false, cond, List, [], ◌∷◌, ◌++◌, length, drop, take, Option, Some, None, IfSome, Bor, refl, sym, ap, subst, ◌∙◌, arith, append_assoc, inl, ⊎_elim, length-append, length-drop, drop-drop, nat_eq}
use Rattle.std.specs.Prelude.{filter, map, nat_lt, option_map, slice_get}
use Rattle.std.specs.Option.{option_copied}
use Rattle.std.proofs.lemmas.Bool.Decides.{nat_tests}
use Rattle.std.proofs.lemmas.List.{drop-append-le, drop-map, length-map, map-append, take-append-drop}
use Rattle.std.proofs.lemmas.Option.{slice_get-map, slice_get_past}
use Rattle.entry_book.specs.Book.{Book, empty_book}
use Rattle.entry_book.specs.Order.{Within, first}
use Rattle.entry_book.proofs.Keys.{first_within}
use Rattle.entry_book.proofs.Sets.{from_within_filter}
use Rattle.entry_book.specs.Batches.{past_place}
use Rattle.entry_book.specs.History.{among_last, book_for, last_book, last_of, place_of, reply_with, verdict}
use Rattle.entry_book.proofs.Histories.{last-snoc}
use Rattle.version_book.specs.CommittedRows.{VersionState}
use Rattle.batch_work.specs.Laws.{WindowBegins, WindowExtends, WindowLast, WindowRepresentsBooks}
use Rattle.batch_work.specs.Reads.{case_at, footprint_in, awaits_in}
use Rattle.batch_work.specs.Windows.{Counted, IsNextVersion, WindowRepresents, Window, back_from, book_in, ending, pushed, version_at, versions}
use Rattle.batch_work.specs.Working.{earlier_in, version_read}

-- ---- lists

slice_get-drop : {X : Type 0} (d : ℕ) (xs : List X) (n : ℕ) → slice_get (drop d xs) n ≡ slice_get xs (d + n)
slice_get-drop zero xs n = let q : n ≡ 0 + n = omega arith in ap (slice_get xs) q
slice_get-drop (suc d) [] n = refl
slice_get-drop (suc d) (x ∷ xs) n = let q : suc (d + n) ≡ suc d + n = omega arith in slice_get-drop d xs n ∙ ap (slice_get (x ∷ xs)) q

pub slice_get-snoc : {X : Type 0} (xs : List X) (x : X) (n : ℕ) → n < length xs → slice_get (xs ++ x ∷ []) n ≡ slice_get xs n
slice_get-snoc [] x n l = absurd (omega arith)
slice_get-snoc (y ∷ ys) x zero l = refl
slice_get-snoc (y ∷ ys) x (suc n) l = slice_get-snoc ys x n (omega arith)

pub slice_get-last : {X : Type 0} (xs : List X) (x : X) → slice_get (xs ++ x ∷ []) (length xs) ≡ Some x
slice_get-last [] x = refl
slice_get-last (y ∷ ys) x = slice_get-last ys x

-- ---- versions whose numbers follow one another

pub counted_drop : (n : ℕ) (ss : List VersionState) → Counted ss → Counted (drop n ss)
counted_drop zero ss c = c
counted_drop (suc n) [] c = c
counted_drop (suc n) (s ∷ ss) c = counted_drop n ss c.1

pub counted_more : (ss : List VersionState) (s t : VersionState) → Counted (ss ++ s ∷ []) → IsNextVersion s t → Counted ((ss ++ s ∷ []) ++ t ∷ [])
counted_more [] s t c e = (e, (tt, tt))
counted_more (r ∷ []) s t c e = (c.0, counted_more [] s t c.1 e)
counted_more (r ∷ q ∷ ss) s t c e = (c.0, counted_more (q ∷ ss) s t c.1 e)

-- the numbers of the oldest and the newest version differ by the number of steps between them
last_number : (r : VersionState) (ss : List VersionState) (s : VersionState) → Counted (r ∷ (ss ++ s ∷ [])) → r.number + suc (length ss) ≡ s.number
last_number r [] s c = let e = c.0.number in omega arith
last_number r (q ∷ ss) s c = let e = c.0.number in let i = last_number q ss s c.1 in omega arith

is_other : (n : ℕ) (s : VersionState) → (s.number < n → nat_eq s.number n ≡ false) × (n < s.number → nat_eq s.number n ≡ false)
is_other n s = (λ l. grind (arith, nat_tests, l), λ l. grind (arith, nat_tests, l))

-- no version below the oldest is found
found_below : (n : ℕ) (s : VersionState) (ss : List VersionState) → Counted (s ∷ ss) → n < s.number → first (filter (λ t. nat_eq t.number n) (s ∷ ss)) ≡ None
found_below n s [] c l = rw ((is_other n s).1 l) refl
found_below n s (t ∷ ts) c l = let e = c.0.number in rw ((is_other n s).1 l) (found_below n t ts c.1 (omega arith))

-- and from there on, each is found by its index
found_from : (n i : ℕ) (s : VersionState) (ss : List VersionState) → Counted (s ∷ ss) → n ≡ s.number + i → first (filter (λ t. nat_eq t.number n) (s ∷ ss)) ≡ slice_get (s ∷ ss) i
found_from n zero s ss c e = let q : nat_eq s.number n ≡ true = grind (arith, nat_tests, e) in rw q refl
found_from n (suc i) s [] c e = rw ((is_other n s).0 (omega arith)) refl
found_from n (suc i) s (t ∷ ts) c e = let k = c.0.number in rw ((is_other n s).0 (omega arith)) (found_from n i t ts c.1 (omega arith))

found_at : (n i : ℕ) (older : List VersionState) (s : VersionState) → Counted (older ++ s ∷ []) → n + length older ≡ s.number + i → first (filter (λ t. nat_eq t.number n) (older ++ s ∷ [])) ≡ slice_get (older ++ s ∷ []) i
found_at n i [] s c e = found_from n i s [] c (omega arith)
found_at n i (r ∷ rs) s c e = let k = last_number r rs s c in found_from n i r (rs ++ s ∷ []) c (omega arith)

found_gone : (n : ℕ) (older : List VersionState) (s : VersionState) → Counted (older ++ s ∷ []) → n + length older < s.number → first (filter (λ t. nat_eq t.number n) (older ++ s ∷ [])) ≡ None
found_gone n [] s c l = found_below n s [] c (omega arith)
found_gone n (r ∷ rs) s c l = let k = last_number r rs s c in found_below n r (rs ++ s ∷ []) c (omega arith)

-- ---- the version with a number, by the difference to the newest number

module _ (n : ℕ) (w : Window) (c : Counted (versions w)) where
  pub at_newest : n ≡ w.newest.number → Some w.newest ≡ version_at n w
  at_newest e = sym (found_at n (length w.older) w.older w.newest c (omega arith) ∙ slice_get-last w.older w.newest)

  pub at_later : w.newest.number < n → None ≡ version_at n w
  at_later l =
      let k = length-append w.older (w.newest ∷ []) in
      sym (found_at n (n + length w.older - w.newest.number) w.older w.newest c (omega arith) ∙ slice_get_past (versions w) (n + length w.older - w.newest.number) (omega arith))

  pub at_gone : n + length w.older < w.newest.number → None ≡ version_at n w
  at_gone l = sym (found_gone n w.older w.newest c l)

  pub at_older : (i : ℕ) → n < w.newest.number → n + length w.older ≡ w.newest.number + i → slice_get w.older i ≡ version_at n w
  at_older i l e = sym (found_at n i w.older w.newest c e ∙ slice_get-snoc w.older w.newest i (omega arith))

-- ---- a version by its distance from the newest one

pub gone : (n : ℕ) (ss : List VersionState) → length ss < n → None ≡ back_from n ss
gone n ss l = let t : nat_lt (length ss) n ≡ true = grind (arith, nat_tests, l) in sym (ap (λ b. cond b None (slice_get ss (length ss - n))) t)

pub there : (n : ℕ) (ss : List VersionState) → n ≤ length ss → slice_get ss (length ss - n) ≡ back_from n ss
there n ss l = let t : nat_lt (length ss) n ≡ false = grind (arith, nat_tests, l) in sym (ap (λ b. cond b None (slice_get ss (length ss - n))) t)

-- the version with a number, by the difference to the newest number
pub found_back : (n back : ℕ) (w : Window) → Counted (versions w) → n + back ≡ w.newest.number → 0 < back → back_from back w.older ≡ version_at n w
found_back n back w c e p = found (nat_lt (length w.older) back) refl
  where
    found : (few : Bool) → nat_lt (length w.older) back ≡ few → back_from back w.older ≡ version_at n w
    found true t = let l : length w.older < back = grind (arith, nat_tests, t) in sym (gone back w.older l) ∙ at_gone n w c (omega arith)
    found false t = let l : back ≤ length w.older = grind (arith, nat_tests, t) in sym (there back w.older l) ∙ at_older n w c (length w.older - back) (omega arith) (omega arith)

-- ---- the same on each list of books that the window represents

under : {X : Type 0} (a b : ℕ) (x y : X) → a < b → cond (nat_lt a b) x y ≡ x
under a b x y l = grind (arith, nat_tests, l)

not_under : {X : Type 0} (a b : ℕ) (x y : X) → b ≤ a → cond (nat_lt a b) x y ≡ y
not_under a b x y l = grind (arith, nat_tests, l)

module _ (w : Window) (books : List Book) (s : WindowRepresents w books) where
  place_is : w.newest.number ≡ place_of books
  place_is = let k = s.count in omega arith

  books_are : map book_in w.older ++ book_in w.newest ∷ [] ≡ last_of 64 books
  books_are = sym (map-append book_in w.older (w.newest ∷ [])) ∙ s.kept

  last_is : book_in w.newest ≡ last_book books
  last_is =
      let n = length books - 64 in
      sym (ap last_book (sym (take-append-drop n books) ∙ (ap (λ l. take n books ++ l) (sym books_are) ∙ sym (append_assoc (take n books) (map book_in w.older) (book_in w.newest ∷ []))))
      ∙ last-snoc empty_book (take n books ++ map book_in w.older) (book_in w.newest))

  count_is : length w.older + 1 ≡ length books - (length books - 64)
  count_is =
      let a = length-drop (length books - 64) books in
      let b = ap length s.kept in
      let c = length-append w.older (w.newest ∷ []) in
      let d = length-map (versions w) book_in in
      omega arith

  near_is : (n : ℕ) → place_of books < n + 64 → option_map book_in (version_at n w) ≡ among_last n books
  near_is n l =
      let i = n + length w.older - w.newest.number in
      let k = s.count in
      let c = count_is in
      let back : length books - 64 + i ≡ n = omega arith in
      ap (option_map book_in) (found_at n i w.older w.newest s.counted (omega arith))
      ∙ (sym (slice_get-map book_in (versions w) i)
      ∙ (ap (λ l. slice_get l i) s.kept
      ∙ (slice_get-drop (length books - 64) books i
      ∙ (ap (slice_get books) back ∙ sym (under (place_of books) (n + 64) _ _ l)))))

  far_is : (n : ℕ) → n + 64 ≤ place_of books → option_map book_in (version_at n w) ≡ among_last n books
  far_is n l =
      let k = s.count in
      let c = count_is in
      ap (option_map book_in) (found_gone n w.older w.newest s.counted (omega arith)) ∙ sym (not_under (place_of books) (n + 64) _ _ l)

  among_is : (n : ℕ) (near : Bool) → nat_lt (place_of books) (n + 64) ≡ near → option_map book_in (version_at n w) ≡ among_last n books
  among_is n true e = near_is n (grind (arith, nat_tests, e))
  among_is n false e = far_is n (grind (arith, nat_tests, e))

  -- the book that a batch reads
  pub book_is : (asked : Option ℕ) → option_map book_in (version_read asked (record { newest = w.newest; earlier = earlier_in asked w })) ≡ book_for asked books
  book_is None = ap Some last_is
  book_is (Some n) = among_is n (nat_lt (place_of books) (n + 64)) refl

  -- one more book
  kept_more : (t : VersionState) → map book_in (versions (pushed t w)) ≡ last_of 64 (books ++ book_in t ∷ [])
  kept_more t =
      let d = length books - 64 in
      let n = length (versions w) - 63 in
      let a = length-append books (book_in t ∷ []) in
      let b = length-append w.older (w.newest ∷ []) in
      let k = count_is in
      let all : length (books ++ book_in t ∷ []) - 64 ≡ d + n = omega arith in
      map-append book_in (ending 63 (versions w)) (t ∷ [])
      ∙ (ap (λ l. l ++ book_in t ∷ []) (sym (drop-map book_in n (versions w)) ∙ (ap (drop n) s.kept ∙ drop-drop n d books))
      ∙ sym (ap (λ m. drop m (books ++ book_in t ∷ [])) all ∙ drop-append-le (d + n) books (book_in t ∷ []) (omega arith)))

pub counted_pushed : (w : Window) (s : VersionState) → Counted (versions w) → IsNextVersion w.newest s → Counted (versions (pushed s w))
counted_pushed w s c e =
    let n = length (versions w) - 63 in
    subst Counted (drop-append-le n (versions w) (s ∷ []) (omega arith)) (counted_drop n (versions w ++ s ∷ []) (counted_more w.older w.newest s c e))

-- ---- the theorems

pub window_begins : WindowBegins
window_begins s e = record { count = omega arith; kept = refl; counted = (tt, tt) }

pub window_extends : WindowExtends
window_extends w s books h e =
    let k = h.count in
    let a = length-append books (book_in s ∷ []) in
    let n = e.number in
    record { count = omega arith; kept = kept_more w books h s; counted = counted_pushed w s h.counted e }

pub window_last : WindowLast
window_last w books h = record { book = sym (last_is w books h); place = sym (place_is w books h) }

pub window_represents : WindowRepresentsBooks
window_represents batch w books h =
    let book = book_is w books h (past_place batch.ops) in
    let place = place_is w books h in
    let meets = ap (case_at batch w.newest.number) book ∙ ap (λ n. case_at batch n (book_for (past_place batch.ops) books)) place in
    record {
      reads = ap (footprint_in batch) meets;
      wait = ap (awaits_in batch) meets;
      reply = ap (λ b. reply_with w.newest.number (verdict batch w.newest.number b)) book ∙ ap (λ n. reply_with n (verdict batch n (book_for (past_place batch.ops) books))) place;
    }

-- ---- the versions of a window are of one server, and none is newer than the newest

module _ (s : VersionState) where
  abbrev IsBefore : VersionState → Type 0
  IsBefore t = (t.domain ≡ s.domain) × (t.number ≤ s.number)

  not_newer : (ss : List VersionState) → Counted (ss ++ s ∷ []) → (t : VersionState) → Within (ss ++ s ∷ []) t → IsBefore t
  not_newer [] c t w = ⊎_elim (λ q. subst IsBefore q (refl, omega arith)) (λ n. absurd n) w
  not_newer (r ∷ []) c t w =
      let n = (c.0).number in
      ⊎_elim (λ q. subst IsBefore q (sym (c.0).domain, omega arith)) (λ v. not_newer [] c.1 t v) w
  not_newer (r ∷ q ∷ ss) c t w =
      let k = not_newer (q ∷ ss) c.1 q (inl refl) in
      let n = (c.0).number in
      let l = k.1 in
      ⊎_elim (λ e. subst IsBefore e (sym (c.0).domain ∙ k.0, omega arith)) (λ v. not_newer (q ∷ ss) c.1 t v) w

pub found_before : (n : ℕ) (w : Window) (t : VersionState) → Counted (versions w) → version_at n w ≡ Some t → (t.domain ≡ w.newest.domain) × (t.number ≤ w.newest.number)
found_before n w t c e = not_newer w.newest w.older c t (from_within_filter (λ s. nat_eq s.number n) (versions w) t (first_within (λ s. s.domain) _ t e)).0

pub is_before_newest : (n : ℕ) (w : Window) → Counted (versions w) → (found : Option (Bor VersionState)) → option_copied found ≡ version_at n w → IfSome found (λ t. (t.now.domain ≡ w.newest.domain) × (t.now.number ≤ w.newest.number))
is_before_newest n w c None e = tt
is_before_newest n w c (Some t) e = found_before n w t.now c (sym e)

pub earlier_domain : (s : VersionState) (found : Option (Bor VersionState)) → IfSome found (λ t. (t.now.domain ≡ s.domain) × (t.now.number ≤ s.number)) → IfSome (option_copied found) (λ t. t.domain ≡ s.domain)
earlier_domain s None h = tt
earlier_domain s (Some t) h = h.0
