-- The books that a plain book stores, and the one that a batch reads.
use Rattle.std.proofs.Common.{◌≡◌, ℕ, zero, suc, ◌+◌, ◌-◌, ◌*◌, ◌<◌, ◌≤◌, Bool, true, false, cond, List, [], ◌∷◌, ◌++◌, length, drop, take, Option, Some, None, refl, sym, ap, subst, ◌∙◌, arith, append_assoc, length-append, length-drop, drop-drop}
use Rattle.std.specs.Prelude.{◌^◌, nat_lt, slice_get}
use Rattle.std.specs.List.{AllByRecursion}
use Rattle.std.proofs.lemmas.Bool.Decides.{nat_tests}
use Rattle.std.proofs.lemmas.List.{drop-append-le, take-append-drop}
use Rattle.entry_book.specs.Rows.{Bytes}
use Rattle.entry_book.specs.Book.{Book, empty_book}
use Rattle.entry_book.specs.History.{PlainState, RepresentsFrom, among_kept, book_for, first_books, kept_books, kept_for, last_book, last_of, place_of}
use Rattle.entry_book.specs.Lawful.{Lawful}
use Rattle.plain_book.specs.Keeps.{IsSound}
use Rattle.entry_book.proofs.Items.{slice_get-drop}
use Rattle.entry_book.proofs.Histories.{empty_is_first, last-snoc}
use Rattle.entry_book.proofs.LawfulRows.{wider}
use Rattle.entry_book.proofs.Sets.{All-more}

-- ---- lists

slice_get-snoc : {X : Type 0} (xs : List X) (x : X) (n : ℕ) → n < length xs → slice_get (xs ++ x ∷ []) n ≡ slice_get xs n
slice_get-snoc [] x n l = absurd (omega arith)
slice_get-snoc (y ∷ ys) x zero l = refl
slice_get-snoc (y ∷ ys) x (suc n) l = slice_get-snoc ys x n (omega arith)

slice_get-last : {X : Type 0} (xs : List X) (x : X) → slice_get (xs ++ x ∷ []) (length xs) ≡ Some x
slice_get-last [] x = refl
slice_get-last (y ∷ ys) x = slice_get-last ys x

slice_get-none : {X : Type 0} (xs : List X) (n : ℕ) → length xs ≤ n → slice_get xs n ≡ None
slice_get-none [] n l = refl
slice_get-none (y ∷ ys) zero l = absurd (omega arith)
slice_get-none (y ∷ ys) (suc n) l = slice_get-none ys n (omega arith)

all_get : {X : Type 0} (P : X → Type 0) (xs : List X) (n : ℕ) (x : X) → AllByRecursion P xs → slice_get xs n ≡ Some x → P x
all_get P [] n x h e = cc
all_get P (y ∷ ys) zero x h e = let q : y ≡ x = cc in subst P q h.0
all_get P (y ∷ ys) (suc n) x h e = all_get P ys n x h.1 e

all_drop : {X : Type 0} (P : X → Type 0) (n : ℕ) (xs : List X) → AllByRecursion P xs → AllByRecursion P (drop n xs)
all_drop P zero xs h = h
all_drop P (suc n) [] h = h
all_drop P (suc n) (x ∷ xs) h = all_drop P n xs h.1

all_last : {X : Type 0} (P : X → Type 0) (xs : List X) (x : X) → AllByRecursion P (xs ++ x ∷ []) → P x
all_last P [] x h = h.0
all_last P (y ∷ ys) x h = all_last P ys x h.1

all_wider : (own_domain : Bytes) (m n : ℕ) (bs : List Book) → m ≤ n → AllByRecursion (Lawful own_domain m) bs → AllByRecursion (Lawful own_domain n) bs
all_wider own_domain m n [] l h = tt
all_wider own_domain m n (b ∷ bs) l h = (wider n l h.0, all_wider own_domain m n bs l h.1)

under : {X : Type 0} (a b : ℕ) (x y : X) → a < b → cond (nat_lt a b) x y ≡ x
under a b x y l = grind (arith, nat_tests, l)

not_under : {X : Type 0} (a b : ℕ) (x y : X) → b ≤ a → cond (nat_lt a b) x y ≡ y
not_under a b x y l = grind (arith, nat_tests, l)

-- ---- the book of a number, by its distance from the newest

module _ (n : ℕ) (state : PlainState) where
  pub kept_later : state.place < n → None ≡ among_kept n state
  kept_later l =
      let k = length-append state.older (state.newest ∷ []) in
      sym (not_under (n + length state.older) state.place _ _ (omega arith) ∙ slice_get-none (kept_books state) (n + length state.older - state.place) (omega arith))

  pub kept_newest : n ≡ state.place → Some state.newest ≡ among_kept n state
  kept_newest e =
      let q : n + length state.older - state.place ≡ length state.older = omega arith in
      sym (not_under (n + length state.older) state.place _ _ (omega arith) ∙ (ap (slice_get (kept_books state)) q ∙ slice_get-last state.older state.newest))

  pub kept_gone : n + length state.older < state.place → None ≡ among_kept n state
  kept_gone l = sym (under (n + length state.older) state.place _ _ l)

  pub kept_older : (i : ℕ) → n < state.place → state.place ≤ n + length state.older → i + state.place ≡ n + length state.older → slice_get state.older i ≡ among_kept n state
  kept_older i l m e =
      let q : n + length state.older - state.place ≡ i = omega arith in
      sym (not_under (n + length state.older) state.place _ _ m ∙ (ap (slice_get (kept_books state)) q ∙ slice_get-snoc state.older state.newest i (omega arith)))

-- ---- stored books are lawful

newest_lawful : (state : PlainState) → IsSound state → Lawful state.domain (64 * state.place) state.newest
newest_lawful state s = all_last (Lawful state.domain (64 * state.place)) state.older state.newest s.lawful

among_lawful : (state : PlainState) (b : Book) (gone : Bool) (n : ℕ) → IsSound state → cond gone None (slice_get (kept_books state) n) ≡ Some b → Lawful state.domain (64 * state.place) b
among_lawful state b true n s e = cc
among_lawful state b false n s e = all_get (Lawful state.domain (64 * state.place)) (kept_books state) n b s.lawful e

pub kept_lawful : (state : PlainState) (asked : Option ℕ) (b : Book) → IsSound state → kept_for asked state ≡ Some b → Lawful state.domain (64 * state.place) b
kept_lawful state None b s e = let q : state.newest ≡ b = cc in subst (Lawful state.domain (64 * state.place)) q (newest_lawful state s)
kept_lawful state (Some n) b s e = among_lawful state b (nat_lt (n + length state.older) state.place) (n + length state.older - state.place) s e

-- lawful with room for a batch
pub read_lawful : (own_domain : Bytes) (state : PlainState) (asked : Option ℕ) (b : Book) → own_domain ≡ state.domain → IsSound state → Some b ≡ kept_for asked state → Lawful own_domain (2 ^ 62) b
read_lawful own_domain state asked b q s e =
    let room = s.room in
    subst (λ d. Lawful d (2 ^ 62) b) (sym q) (wider (2 ^ 62) (omega arith) (kept_lawful state asked b s (sym e)))

-- the state with one more book satisfies the invariant
pub sound_more : (state : PlainState) (c : Book) → IsSound state → Lawful state.domain (64 * (state.place + 1)) c → state.place < 2 ^ 48 → IsSound (record state { older = last_of 63 (kept_books state); newest = c; place = state.place + 1 })
sound_more state c s h l =
    let n = length (kept_books state) - 63 in
    let lawful = all_wider state.domain (64 * state.place) (64 * (state.place + 1)) (drop n (kept_books state)) (omega arith) (all_drop (Lawful state.domain (64 * state.place)) n (kept_books state) s.lawful) in
    let k = length-drop n (kept_books state) in
    record {
      lawful = All-more (Lawful state.domain (64 * (state.place + 1))) (drop n (kept_books state)) c lawful h;
      few = omega arith;
      room = omega arith;
    }

-- ---- place and books agree with each list of books that the state represents

module _ (first : List Book) (state : PlainState) (books : List Book) (s : RepresentsFrom first state books) where
  pub place_is : place_of books ≡ state.place
  place_is = let k = s.count in omega arith

  last_is : last_book books ≡ state.newest
  last_is =
      let n = length books - 64 in
      ap last_book (sym (take-append-drop n books) ∙ (ap (λ l. take n books ++ l) s.kept ∙ sym (append_assoc (take n books) state.older (state.newest ∷ []))))
      ∙ last-snoc empty_book (take n books ++ state.older) state.newest

  count_is : length state.older + 1 ≡ length books - (length books - 64)
  count_is =
      let a = length-drop (length books - 64) books in
      let b = ap length s.kept in
      let c = length-append state.older (state.newest ∷ []) in
      omega arith

  among_same : (n : ℕ) (near : Bool) → nat_lt (place_of books) (n + 64) ≡ near → cond near (slice_get books n) None ≡ among_kept n state
  among_same n true e =
      let near : place_of books < n + 64 = grind (arith, nat_tests, e) in
      let k = s.count in
      let c = count_is in
      let back : length books - 64 + (n + length state.older - state.place) ≡ n = omega arith in
      sym (not_under (n + length state.older) state.place _ _ (omega arith)
      ∙ (ap (λ l. slice_get l (n + length state.older - state.place)) (sym s.kept)
      ∙ (slice_get-drop (length books - 64) books (n + length state.older - state.place) ∙ ap (slice_get books) back)))
  among_same n false e =
      let far : n + 64 ≤ place_of books = grind (arith, nat_tests, e) in
      let k = s.count in
      let c = count_is in
      kept_gone n state (omega arith)

  pub same_book : (asked : Option ℕ) → book_for asked books ≡ kept_for asked state
  same_book None = ap Some last_is
  same_book (Some n) = among_same n (nat_lt (place_of books) (n + 64)) refl

  -- the last 64 books after one more
  pub kept_more : (c : Book) → last_of 64 (books ++ c ∷ []) ≡ last_of 63 (kept_books state) ++ c ∷ []
  kept_more c =
      let d = length books - 64 in
      let n = length (kept_books state) - 63 in
      let a = length-append books (c ∷ []) in
      let b = length-append state.older (state.newest ∷ []) in
      let k = count_is in
      let all : length (books ++ c ∷ []) - 64 ≡ d + n = omega arith in
      ap (λ m. drop m (books ++ c ∷ [])) all
      ∙ (drop-append-le (d + n) books (c ∷ []) (omega arith)
      ∙ ap (λ l. l ++ c ∷ []) (sym (drop-drop n d books) ∙ ap (drop n) s.kept))

-- ---- a new plain book

-- it represents the list with the empty book alone
pub represents_first : (own_domain : Bytes) (older : List Book) (b : Book) → older ≡ [] → b ≡ empty_book → RepresentsFrom first_books (record { domain = own_domain; older = older; newest = b; place = 0 }) first_books
represents_first own_domain older b o e = record {
  count = refl;
  kept = λ i. sym o i ++ sym e i ∷ [];
  history = ([], record { is_first = empty_is_first own_domain; made = tt; committed = tt; books_are = refl });
}
