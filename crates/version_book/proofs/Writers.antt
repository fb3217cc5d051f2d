-- Which batches of a history wrote what?
use Rattle.std.proofs.Common.{◌≡◌, ◌+◌, ◌<◌, Bool, true, false, List, [], ◌∷◌, ◌++◌, length, sym, ap, subst, ◌∙◌, refl, ⊎_elim}
use Rattle.std.specs.Prelude.{◌||◌}
use Rattle.std.specs.List.{list_any}
use Rattle.std.proofs.lemmas.Bool.{or_cases}
use Rattle.entry_book.proofs.Sets.{from_any, within_any}
use Rattle.entry_book.specs.Order.{Within}
use Rattle.entry_book.specs.Book.{Book}
use Rattle.entry_book.specs.Writes.{RowWrite}
use Rattle.entry_book.specs.Batches.{Batch}
use Rattle.entry_book.specs.History.{last_book, place_of, books_after, books_from}
use Rattle.version_book.specs.declared.mark.MarkKind.{MarkKind}
use Rattle.version_book.specs.Marks.{hits}
use Rattle.version_book.specs.CommittedRows.{VersionState}
use Rattle.version_book.specs.History.{Follows, IsLast, SomeHit, any_hits, version_with, writes_at, writes_of}
use Rattle.version_book.specs.Laws.{HitsInBooks}
use Rattle.version_book.proofs.Batches.{represents_next}

-- ---- tests

left_is : (a b : Bool) → a ≡ true → (a || b) ≡ true
left_is true b h = refl
left_is false b h = cc

right_is : (a b : Bool) → b ≡ true → (a || b) ≡ true
right_is true b h = refl
right_is false b h = h

-- ---- hits, in terms of the list of all books

-- the writes of a batch on the last of these books, which is the version's
writes_there : (batch : Batch) (s : VersionState) (books : List Book) → IsLast s books → writes_of batch (place_of books + 1) (last_book books) ≡ writes_at batch s
writes_there batch s books k = ap (λ n. writes_of batch (n + 1) (last_book books)) k.place ∙ ap (writes_of batch (s.number + 1)) k.book

found_in_books : (m : MarkKind) (batches : List Batch) (older newer : VersionState) (books : List Book) → 0 < length books → IsLast older books → Follows older batches newer → any_hits m older batches ≡ true → SomeHit m books batches
found_in_books m [] older newer books l k f h = cc
found_in_books m (batch ∷ batches) older newer books l k f h = ⊎_elim
    (λ here.
    let w = from_any (λ w. hits w m) (writes_at batch older) here in
    record { before = []; batch = batch; later = batches; split = refl; write = w.0; is_made = subst (λ ws. Within ws w.0) (sym (writes_there batch older books k)) w.1; hit = w.2 })
    (λ there.
    let n = represents_next batch older books l k f.0 in
    let r = found_in_books m batches (version_with batch older) newer (books_after batch books) n.1 n.0 f.1 there in
    record { before = batch ∷ r.before; batch = r.batch; later = r.later; split = ap (λ bs. batch ∷ bs) r.split; write = r.write; is_made = r.is_made; hit = r.hit })
    (or_cases (list_any (λ w. hits w m) (writes_at batch older)) (any_hits m (version_with batch older) batches) h)

from_books : (m : MarkKind) (before : List Batch) (batch : Batch) (later : List Batch) (older newer : VersionState) (books : List Book) → 0 < length books → IsLast older books → Follows older (before ++ batch ∷ later) newer → (w : RowWrite) → Within (writes_of batch (place_of (books_from books before) + 1) (last_book (books_from books before))) w → hits w m ≡ true → any_hits m older (before ++ batch ∷ later) ≡ true
from_books m [] batch later older newer books l k f w i h = left_is (list_any (λ w. hits w m) (writes_at batch older)) (any_hits m (version_with batch older) later) (within_any (λ w. hits w m) (writes_at batch older) w (subst (λ ws. Within ws w) (writes_there batch older books k) i) h)
from_books m (first ∷ before) batch later older newer books l k f w i h =
    let n = represents_next first older books l k f.0 in
    right_is (list_any (λ w. hits w m) (writes_at first older)) (any_hits m (version_with first older) (before ++ batch ∷ later)) (from_books m before batch later (version_with first older) newer (books_after first books) n.1 n.0 f.1 w i h)

pub hits_in_books : HitsInBooks
hits_in_books m batches older newer books l k f = (
  found_in_books m batches older newer books l k f,
  λ s. subst (λ bs. any_hits m older bs ≡ true) (sym s.split) (from_books m s.before s.batch s.later older newer books l k (subst (λ bs. Follows older bs newer) s.split f) s.write s.is_made s.hit),
)
