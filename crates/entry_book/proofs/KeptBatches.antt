-- What a commit with a token adds to the tokens, and that each stored batch was committed.
use Rattle.std.proofs.Common.{◌≡◌, ◌⊎◌, ℕ, ◌+◌, ◌<◌, Bool, true, false, List, [], ◌∷◌, ◌++◌, length, Option, Some, None, Ok, Err, refl, sym, ap, subst, ◌∙◌, inl, inr, ⊎_elim, IfOk, arith}
use Rattle.std.specs.Prelude.{map, option_to_list}
use Rattle.std.specs.List.{AllByRecursion}
use Rattle.entry_book.specs.declared.kept.KeptBatch.{KeptBatch}
use Rattle.entry_book.specs.declared.limit.Limit.{Limit}
use Rattle.entry_book.specs.declared.op.Op.{Op}
use Rattle.entry_book.specs.declared.reply.OpReply.{OpReply}
use Rattle.entry_book.specs.declared.reply.ReplyOutcome.TheVariants.{Committed}
use Rattle.entry_book.specs.Rows.{Bytes}
use Rattle.entry_book.specs.Tokens.{token_key}
use Rattle.entry_book.specs.Order.{Within}
use Rattle.entry_book.specs.Book.{Book, empty_book}
use Rattle.entry_book.specs.Writes.{after}
use Rattle.entry_book.specs.NamedRows.{row_written, token_of}
use Rattle.entry_book.specs.Runs.{RunEffect, RunResult, run}
use Rattle.entry_book.specs.Limits.{limit_passed}
use Rattle.entry_book.specs.Batches.{Batch, IsMadeFor, is_query, past_place}
use Rattle.entry_book.specs.History.{last_book, place_of, batch_writes, token_writes, book_for, adds_within, Verdict, verdict, verdict_when, verdict_run, reply_with, reply_to, books_with, books_after, books_from, CommitAll, IsFirst, LeadToBooks, first_books}
use Rattle.entry_book.specs.Laws.{AllCommitted, IsTokenFree, TokenWritten, WasCommitted}
use Rattle.entry_book.proofs.Changed.{after-append}
use Rattle.entry_book.proofs.Histories.{count_of_books, last-snoc}
use Rattle.entry_book.proofs.Keys.{from_with_row, new_with_row, within_with_row}
use Rattle.entry_book.proofs.OfVerdict.{of_verdict}
use Rattle.entry_book.proofs.PastPages.{past_asks}
use Rattle.entry_book.proofs.TokenRows.{run_leaves}

abbrev row : Bytes → List Op → ℕ → List OpReply → KeptBatch
row k ops n replies = record { token = k; ops = ops; place = n; replies = replies }

-- the row that a commit stores
abbrev IsNew : Option Bytes → List Op → ℕ → List OpReply → KeptBatch → Type 0
IsNew token ops n replies k = (token ≡ Some k.token) × (k.ops ≡ ops) × (k.place ≡ n) × (k.replies ≡ replies)

of_row : (t : Bytes) (ops : List Op) (n : ℕ) (replies : List OpReply) (k : KeptBatch) → row t ops n replies ≡ k → IsNew (Some t) ops n replies k
of_row t ops n replies k e = (ap (λ x. Some x.token) e, sym (ap (λ x. x.ops) e), sym (ap (λ x. x.place) e), sym (ap (λ x. x.replies) e))

some_is : (x y : Bytes) → Some x ≡ Some y → x ≡ y
some_is x y e = cc

is_row : (t : Bytes) (ops : List Op) (n : ℕ) (replies : List OpReply) (k : KeptBatch) → IsNew (Some t) ops n replies k → row t ops n replies ≡ k
is_row t ops n replies k h =
    ap (λ x. row x ops n replies) (some_is t k.token h.0)
    ∙ (ap (λ x. row k.token x n replies) (sym h.1)
    ∙ (ap (λ x. row k.token k.ops x replies) (sym h.2)
    ∙ ap (λ x. row k.token k.ops k.place x) (sym h.3)))

from_writes : (token : Option Bytes) (ops : List Op) (n : ℕ) (replies : List OpReply) (c : Book) (k : KeptBatch) → Within (after (token_writes token ops n replies) c).tokens k → Within c.tokens k ⊎ IsNew token ops n replies k
from_writes None ops n replies c k w = inl w
from_writes (Some t) ops n replies c k w = ⊎_elim
    (λ x. inr (of_row t ops n replies k (⊎_elim (λ e. e) (λ v. absurd v) x)))
    (λ x. inl x.0)
    (from_with_row token_key t (Some (row t ops n replies)) c.tokens k w)

to_writes : (token : Option Bytes) (ops : List Op) (n : ℕ) (replies : List OpReply) (c : Book) (k : KeptBatch) → IsTokenFree token c → Within c.tokens k ⊎ IsNew token ops n replies k → Within (after (token_writes token ops n replies) c).tokens k
to_writes None ops n replies c k f (inl w) = w
to_writes None ops n replies c k f (inr h) = let q = h.0 in cc
to_writes (Some t) ops n replies c k f (inl w) = within_with_row token_key t (Some (row t ops n replies)) c.tokens k w (f k w)
to_writes (Some t) ops n replies c k f (inr h) = subst (Within (after (token_writes (Some t) ops n replies) c).tokens) (is_row t ops n replies k h) (new_with_row token_key t (row t ops n replies) c.tokens)

others_of : (token : Option Bytes) (ops : List Op) (n : ℕ) (replies : List OpReply) (c : Book) → after (token_writes token ops n replies) c ≡ record c { tokens = (after (token_writes token ops n replies) c).tokens }
others_of None ops n replies c = refl
others_of (Some t) ops n replies c = refl

named : (token : Option Bytes) (ops : List Op) (n : ℕ) (replies : List OpReply) → map row_written (token_writes token ops n replies) ≡ map token_of (option_to_list token)
named None ops n replies = refl
named (Some t) ops n replies = refl

map-both : {X Y : Type 0} (f : X → Y) (xs ys : List X) → map f (xs ++ ys) ≡ map f xs ++ map f ys
map-both f [] ys = refl
map-both f (x ∷ xs) ys = ap (λ l. f x ∷ l) (map-both f xs ys)

free_along : (token : Option Bytes) (b c : Book) → c.tokens ≡ b.tokens → IsTokenFree token b → IsTokenFree token c
free_along None b c e f = tt
free_along (Some t) b c e f = λ k w. f k (subst (λ rows. Within rows k) e w)

written : (batch : Batch) (n : ℕ) (b : Book) (t : RunEffect) → IsTokenFree batch.token b → (after t.writes b).tokens ≡ b.tokens → TokenWritten batch n b t
written batch n b t f l =
    let c = after t.writes b in
    let q = after-append t.writes (token_writes batch.token batch.ops n t.replies) b in
    record {
      rows = λ k. (
        λ w. ⊎_elim (λ x. inl (subst (λ rows. Within rows k) l x)) (λ x. inr x) (from_writes batch.token batch.ops n t.replies c k (subst (λ x. Within x.tokens k) q w)),
        λ h. subst (λ x. Within x.tokens k) (sym q) (to_writes batch.token batch.ops n t.replies c k (free_along batch.token b c l f) (⊎_elim (λ x. inl (subst (λ rows. Within rows k) (sym l) x)) (λ x. inr x) h)),
      );
      others = subst (λ x. x ≡ record c { tokens = x.tokens }) (sym q) (others_of batch.token batch.ops n t.replies c);
      last = map-both row_written t.writes (token_writes batch.token batch.ops n t.replies) ∙ ap (λ l. map row_written t.writes ++ l) (named batch.token batch.ops n t.replies);
    }

written_in : (batch : Batch) (n : ℕ) (b : Book) (r : RunResult) → IsTokenFree batch.token b → IfOk r (λ t. (x : Book) → (after t.writes x).tokens ≡ x.tokens) → IfOk r (TokenWritten batch n b)
written_in batch n b (Ok t) f l = written batch n b t f (l b)
written_in batch n b (Err s) f l = tt

pub tokens_written : (batch : Batch) (n : ℕ) (b : Book) → IsTokenFree batch.token b → IfOk (run batch.domain batch.ops b) (TokenWritten batch n b)
tokens_written batch n b f = written_in batch n b (run batch.domain batch.ops b) f (run_leaves batch.domain batch.ops b)

-- ---- each stored batch was committed

-- a row of the last book after a batch is in the book before, or it is that of the batch, which is committed
data FromBatch (batch : Batch) (books : List Book) (v : Verdict) (k : KeptBatch) : Type 0 where
  before : Within (last_book books).tokens k → FromBatch batch books v k
  of_it : batch.token ≡ Some k.token → batch.ops ≡ k.ops → k.place ≡ place_of books + 1 → reply_with (place_of books) v ≡ record { place = k.place; outcome = Committed k.replies } → FromBatch batch books v k

abbrev KeptFrom : Batch → List Book → Verdict → Type 0
KeptFrom batch books v = (k : KeptBatch) → Within (last_book (books_with books v)).tokens k → FromBatch batch books v k

from_within : (batch : Batch) (books : List Book) (c : Book) (replies : List OpReply) (o : Option Limit) → ((k : KeptBatch) → Within c.tokens k → Within (last_book books).tokens k ⊎ IsNew batch.token batch.ops (place_of books + 1) replies k) → KeptFrom batch books (adds_within o replies c)
from_within batch books c replies (Some limit) h = λ k w. before w
from_within batch books c replies None h = λ k w. ⊎_elim
    (λ x. before x)
    (λ x. of_it x.0 (sym x.1) x.2 (ap (λ n. record { place = n; outcome = Committed replies }) (sym x.2) ∙ ap (λ l. record { place = k.place; outcome = Committed l }) (sym x.3)))
    (h k (subst (λ b. Within b.tokens k) (last-snoc empty_book books c) w))

from_when : (query : Bool) (batch : Batch) (books : List Book) (b : Book) (r : RunResult) → b ≡ last_book books → IfOk r (λ t. (x : Book) → (after t.writes x).tokens ≡ x.tokens) → KeptFrom batch books (verdict_when query batch (place_of books) b r)
from_when query batch books b (Err s) e l = λ k w. before w
from_when true batch books b (Ok t) e l = λ k w. before w
from_when false batch books b (Ok t) e l =
    let n = place_of books + 1 in
    let c = after (batch_writes batch n t) b in
    from_within batch books c t.replies (limit_passed (place_of books) c)
    (λ k w. ⊎_elim
    (λ x. inl (subst (λ y. Within y.tokens k) e (subst (λ rows. Within rows k) (l b) x)))
    (λ x. inr x)
    (from_writes batch.token batch.ops n t.replies (after t.writes b) k (subst (λ y. Within y.tokens k) (after-append t.writes (token_writes batch.token batch.ops n t.replies) b) w)))

some_book : (b c : Book) → Some b ≡ Some c → b ≡ c
some_book b c e = cc

from_read : (own_domain : Bytes) (batch : Batch) (books : List Book) (b : Book) (o : Option ℕ) → past_place batch.ops ≡ o → IsMadeFor own_domain batch → book_for o books ≡ Some b → KeptFrom batch books (verdict_run batch (place_of books) b)
from_read own_domain batch books b None p m e = from_when (is_query batch.ops) batch books b (run batch.domain batch.ops b) (sym (some_book (last_book books) b e)) (run_leaves batch.domain batch.ops b)
from_read own_domain batch books b (Some n) p m e = from_asked (is_query batch.ops) (run batch.domain batch.ops b) (past_asks own_domain batch n m p)
  where
    from_asked : (query : Bool) (r : RunResult) → query ≡ true → KeptFrom batch books (verdict_when query batch (place_of books) b r)
    from_asked query (Err s) q = λ k w. before w
    from_asked true (Ok t) q = λ k w. before w
    from_asked false (Ok t) q = cc

from_batch : (own_domain : Bytes) (batch : Batch) (books : List Book) → IsMadeFor own_domain batch → KeptFrom batch books (verdict batch (place_of books) (book_for (past_place batch.ops) books))
from_batch own_domain batch books m = of_verdict (KeptFrom batch books) batch (place_of books) (λ r k w. before w) (λ n rs k w. before w) (book_for (past_place batch.ops) books) (λ b e u. from_read own_domain batch books b (past_place batch.ops) refl m e)

-- the same for a list of batches, beginning with some books
data CameFrom (books : List Book) (batches : List Batch) (k : KeptBatch) : Type 0 where
  was_there : Within (last_book books).tokens k → CameFrom books batches k
  came : (front : List Batch) (batch : Batch) (rest : List Batch) → batches ≡ front ++ batch ∷ rest → batch.token ≡ Some k.token → batch.ops ≡ k.ops → k.place ≡ place_of (books_from books front) + 1 → reply_to batch (books_from books front) ≡ record { place = k.place; outcome = Committed k.replies } → CameFrom books batches k

first_or : (x : Batch) (books : List Book) (batches : List Batch) (k : KeptBatch) → FromBatch x books (verdict x (place_of books) (book_for (past_place x.ops) books)) k → CameFrom books (x ∷ batches) k
first_or x books batches k (before w) = was_there w
first_or x books batches k (of_it t o p r) = came [] x batches refl t o p r

later : (x : Batch) (books : List Book) (batches : List Batch) (k : KeptBatch) → (Within (last_book (books_after x books)).tokens k → (ys : List Batch) → CameFrom books (x ∷ ys) k) → CameFrom (books_after x books) batches k → CameFrom books (x ∷ batches) k
later x books batches k f (was_there w) = f w batches
later x books batches k f (came front batch rest e t o p r) = came (x ∷ front) batch rest (ap (λ l. x ∷ l) e) t o p r

came_from : (own_domain : Bytes) (books : List Book) (batches : List Batch) (k : KeptBatch) → AllByRecursion (IsMadeFor own_domain) batches → Within (last_book (books_from books batches)).tokens k → CameFrom books batches k
came_from own_domain books [] k m w = was_there w
came_from own_domain books (x ∷ xs) k m w = later x books xs k (λ v ys. first_or x books ys k (from_batch own_domain x books m.0 k v)) (came_from own_domain (books_after x books) xs k m.1 w)

place_count : (first : List Book) (batches : List Batch) → 0 < length first → CommitAll first batches → place_of (books_from first batches) + 1 ≡ length batches + length first
place_count first batches s h = let n = count_of_books first batches s h in omega arith

committed_front : (books : List Book) (front : List Batch) (batch : Batch) (rest : List Batch) → CommitAll books (front ++ batch ∷ rest) → CommitAll books front
committed_front books [] batch rest h = tt
committed_front books (x ∷ xs) batch rest h = (h.0, committed_front (books_after x books) xs batch rest h.1)

was_committed : (first : List Book) (batches : List Batch) (k : KeptBatch) → 0 < length first → CommitAll first batches → CameFrom first batches k → Within (last_book first).tokens k ⊎ WasCommitted first batches k
was_committed first batches k s c (was_there w) = inl w
was_committed first batches k s c (came front batch rest e t o p r) =
    let n = place_count first front s (committed_front first front batch rest (subst (CommitAll first) e c)) in
    inr (record { before = front; batch = batch; later = rest; split = e; token = t; ops = o; place = p ∙ n; replied = r })

pub kept_committed : (first : List Book) (own_domain : Bytes) (batches : List Batch) (books : List Book) (k : KeptBatch) → LeadToBooks first own_domain batches books → Within (last_book books).tokens k → Within (last_book first).tokens k ⊎ WasCommitted first batches k
kept_committed first own_domain batches books k leads w =
    let begins : IsFirst own_domain first = leads.is_first in
    was_committed first batches k begins.some leads.committed (came_from own_domain first batches k leads.made (subst (λ l. Within (last_book l).tokens k) leads.books_are w))

-- the empty book stores none
pub all_committed : AllCommitted
all_committed own_domain batches books k leads w = ⊎_elim (λ (v : Within (last_book first_books).tokens k). absurd v) (λ (c : WasCommitted first_books batches k). c) (kept_committed first_books own_domain batches books k leads w)
