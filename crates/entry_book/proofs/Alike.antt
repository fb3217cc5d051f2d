-- Lists that have the same length and the same last 64 books give the same replies.
use Rattle.std.proofs.Common.{◌≡◌, ℕ, zero, suc, ◌+◌, ◌-◌, ◌<◌, ◌≤◌, Bool, true, false, cond, List, [], ◌∷◌, ◌++◌, length, drop, Option, Some, None, refl, sym, ap, subst, ◌∙◌, arith, length-append, drop-drop}
use Rattle.std.specs.Prelude.{nat_lt, slice_get}
use Rattle.std.proofs.lemmas.Bool.Decides.{nat_tests}
use Rattle.std.proofs.lemmas.List.{drop-append-le}
use Rattle.entry_book.specs.declared.reply.Reply.{Reply}
use Rattle.entry_book.specs.Book.{Book, empty_book}
use Rattle.entry_book.specs.Batches.{Batch, past_place}
use Rattle.entry_book.specs.Laws.{LastIsThere}
use Rattle.entry_book.proofs.Items.{slice_get-drop}
use Rattle.entry_book.specs.History.{IsAlike, Verdict, refuses, answers, adds, repeats, among_last, book_for, books_after, books_from, books_with, last_book, last_of, last_or, place_of, replies_from, reply_to, reply_with, verdict}

-- ---- what the last books of a list say of it

-- the book of the last number
pub last_there : LastIsThere
last_there [] h = absurd (omega arith)
last_there (b ∷ books) h = let n : place_of (b ∷ books) ≡ length books = omega arith in ap (λ k. slice_get (b ∷ books) k) n ∙ last_at b books
  where
    last_at : (b : Book) (bs : List Book) → slice_get (b ∷ bs) (length bs) ≡ Some (last_or b bs)
    last_at b [] = refl
    last_at b (c ∷ cs) = last_at c cs

last_drop : (b : Book) (n : ℕ) (books : List Book) → n < length books → last_or b (drop n books) ≡ last_or b books
last_drop b zero books h = refl
last_drop b (suc n) [] h = absurd (omega arith)
last_drop b (suc n) (c ∷ []) h = absurd (omega arith)
last_drop b (suc n) (c ∷ d ∷ books) h = last_drop b n (d ∷ books) (omega arith)

last_kept : (books : List Book) → last_book (last_of 64 books) ≡ last_book books
last_kept [] = refl
last_kept (b ∷ books) = last_drop empty_book (length (b ∷ books) - 64) (b ∷ books) (omega arith)

-- the last 64 books after one more
last_more : (books : List Book) (c : Book) → last_of 64 (books ++ c ∷ []) ≡ drop (length books - 63 - (length books - 64)) (last_of 64 books) ++ c ∷ []
last_more books c =
    let a = length-append books (c ∷ []) in
    let all : length (books ++ c ∷ []) - 64 ≡ length books - 64 + (length books - 63 - (length books - 64)) = omega arith in
    ap (λ m. drop m (books ++ c ∷ [])) all
    ∙ (drop-append-le (length books - 64 + (length books - 63 - (length books - 64))) books (c ∷ []) (omega arith)
    ∙ ap (λ l. l ++ c ∷ []) (sym (drop-drop (length books - 63 - (length books - 64)) (length books - 64) books)))

-- ---- two lists

place_alike : (books others : List Book) → IsAlike books others → place_of books ≡ place_of others
place_alike books others a = ap (λ n. n - 1) a.count

get_alike : (books others : List Book) (n : ℕ) → IsAlike books others → length books - 64 ≤ n → slice_get books n ≡ slice_get others n
get_alike books others n a l =
    let here : length books - 64 + (n - (length books - 64)) ≡ n = omega arith in
    let count = a.count in
    let there : length others - 64 + (n - (length books - 64)) ≡ n = omega arith in
    sym (slice_get-drop (length books - 64) books (n - (length books - 64)) ∙ ap (slice_get books) here)
    ∙ (ap (λ l. slice_get l (n - (length books - 64))) a.kept
    ∙ (slice_get-drop (length others - 64) others (n - (length books - 64)) ∙ ap (slice_get others) there))

among_when : (books others : List Book) (n : ℕ) (near : Bool) → IsAlike books others → nat_lt (place_of books) (n + 64) ≡ near → cond near (slice_get books n) None ≡ cond near (slice_get others n) None
among_when books others n true a e = let near : place_of books < n + 64 = grind (arith, nat_tests, e) in get_alike books others n a (omega arith)
among_when books others n false a e = refl

among_alike : (books others : List Book) (n : ℕ) → IsAlike books others → among_last n books ≡ among_last n others
among_alike books others n a =
    among_when books others n (nat_lt (place_of books) (n + 64)) a refl
    ∙ ap (λ p. cond (nat_lt p (n + 64)) (slice_get others n) None) (place_alike books others a)

book_alike : (books others : List Book) (asked : Option ℕ) → IsAlike books others → book_for asked books ≡ book_for asked others
book_alike books others None a = ap Some (sym (last_kept books) ∙ (ap last_book a.kept ∙ last_kept others))
book_alike books others (Some n) a = among_alike books others n a

verdict_alike : (batch : Batch) (books others : List Book) → IsAlike books others → verdict batch (place_of books) (book_for (past_place batch.ops) books) ≡ verdict batch (place_of others) (book_for (past_place batch.ops) others)
verdict_alike batch books others a =
    ap (λ n. verdict batch n (book_for (past_place batch.ops) books)) (place_alike books others a)
    ∙ ap (verdict batch (place_of others)) (book_alike books others (past_place batch.ops) a)

reply_alike : (batch : Batch) (books others : List Book) → IsAlike books others → reply_to batch books ≡ reply_to batch others
reply_alike batch books others a =
    ap (λ n. reply_with n (verdict batch (place_of books) (book_for (past_place batch.ops) books))) (place_alike books others a)
    ∙ ap (reply_with (place_of others)) (verdict_alike batch books others a)

alike_with : (books others : List Book) (v : Verdict) → IsAlike books others → IsAlike (books_with books v) (books_with others v)
alike_with books others (refuses r) a = a
alike_with books others (answers replies) a = a
alike_with books others (adds replies c) a = record {
  count = length-append books (c ∷ []) ∙ (ap (λ n. n + 1) a.count ∙ sym (length-append others (c ∷ [])));
  kept =
      last_more books c
      ∙ (ap (λ n. drop (n - 63 - (n - 64)) (last_of 64 books) ++ c ∷ []) a.count
      ∙ (ap (λ l. drop (length others - 63 - (length others - 64)) l ++ c ∷ []) a.kept ∙ sym (last_more others c)));
}
alike_with books others (repeats n replies) a = a

alike_after : (batch : Batch) (books others : List Book) → IsAlike books others → IsAlike (books_after batch books) (books_after batch others)
alike_after batch books others a = subst (λ v. IsAlike (books_after batch books) (books_with others v)) (verdict_alike batch books others a) (alike_with books others (verdict batch (place_of books) (book_for (past_place batch.ops) books)) a)

pub alike_answer : (books others : List Book) (batches : List Batch) → IsAlike books others → (replies_from books batches ≡ replies_from others batches) × IsAlike (books_from books batches) (books_from others batches)
alike_answer books others [] a = (refl, a)
alike_answer books others (x ∷ xs) a =
    let rest = alike_answer (books_after x books) (books_after x others) xs (alike_after x books others a) in
    (ap (λ r. r ∷ replies_from (books_after x books) xs) (reply_alike x books others a) ∙ ap (λ l. reply_to x others ∷ l) rest.0, rest.1)
