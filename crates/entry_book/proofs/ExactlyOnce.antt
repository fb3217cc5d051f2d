-- Of the batches with the same token, at most one is ever committed.
use Rattle.std.proofs.Common.{◌≡◌, ℕ, suc, ◌+◌, ◌-◌, ◌*◌, ◌<◌, Bool, true, false, List, [], ◌∷◌, length, Option, Some, None, Ok, Err, refl, sym, ap, subst, ◌∙◌, IfOk, arith, length-append}
use Rattle.std.specs.Prelude.{slice_get}
use Rattle.std.specs.List.{AllByRecursion}
use Rattle.entry_book.specs.declared.kept.KeptBatch.{KeptBatch}
use Rattle.entry_book.specs.declared.limit.Limit.{Limit}
use Rattle.entry_book.specs.declared.op.Op.{Op}
use Rattle.entry_book.specs.declared.reply.OpReply.{OpReply}
use Rattle.entry_book.specs.declared.reply.ReplyOutcome.TheVariants.{Committed, Repeated}
use Rattle.entry_book.specs.declared.reply.Reply.{Reply}
use Rattle.entry_book.specs.Rows.{Bytes}
use Rattle.entry_book.specs.Book.{Book, AscendingBook, empty_book, token_at}
use Rattle.entry_book.specs.Writes.{FitAll, after}
use Rattle.entry_book.specs.Runs.{RunEffect, RunResult, run}
use Rattle.entry_book.specs.Limits.{limit_passed}
use Rattle.entry_book.specs.Batches.{Batch, IsMadeFor, is_query, past_place}
use Rattle.entry_book.specs.History.{last_book, place_of, batch_writes, book_for, kept_under, adds_within, is_committed, Verdict, refuses, answers, adds, repeats, verdict, verdict_when, verdict_run, reply_with, reply_to, books_with, books_after, books_from, IsHistory}
use Rattle.entry_book.specs.Lawful.{Lawful}
use Rattle.entry_book.specs.Order.{Within, first as first_row}
use Rattle.entry_book.specs.Laws.{ArePagesAlone, ReadLastBook, CommittedOnce, first_reply, stored_batch}
use Rattle.entry_book.specs.Tokens.{token_key}
use Rattle.entry_book.proofs.Alike.{last_there}
use Rattle.entry_book.proofs.Faults.{asks_last, not_refused}
use Rattle.entry_book.proofs.Keys.{at_row, row_alone}
use Rattle.entry_book.proofs.Histories.{asks_with, history_extends, history_some, last-snoc, lawful_history}
use Rattle.entry_book.proofs.OfVerdict.{of_verdict}
use Rattle.entry_book.proofs.PastPages.{past_asks, IsPastPage, past_page}
use Rattle.entry_book.proofs.Runs.{run_fits}
use Rattle.entry_book.proofs.TokenRows.{others_stay, row_kept, run_leaves}
use Rattle.entry_book.proofs.Verdicts.{repeat_answered, reuse_refused}

-- ---- books of a history are in order

some_is : {X : Type 0} (x y : X) → Some x ≡ Some y → x ≡ y
some_is x y e = cc

-- the row of the token in the last book
abbrev HasKept : Bytes → Option KeptBatch → List Book → Type 0
HasKept token r books = token_at token (last_book books) ≡ r

record Keeps (first : List Book) (own_domain token : Bytes) (r : KeptBatch) (books : List Book) : Type 0 where
  history : IsHistory first own_domain books
  some : 0 < length books
  kept : HasKept token (Some r) books

in_order_after : (first : List Book) (own_domain : Bytes) (books : List Book) → IsHistory first own_domain books → 0 < length books → AscendingBook (last_book books)
in_order_after first own_domain books h s = let l : Lawful own_domain (64 * place_of books) (last_book books) = lawful_history first own_domain books h (place_of books) (last_book books) (last_there books s) in l.ascending

-- ---- the effect of a batch on the row of a token

-- the rows of the run of a batch, and that it doesn't change those of tokens
record RunOf (batch : Batch) (b : Book) (t : RunEffect) : Type 0 where
  order : AscendingBook (after t.writes b)
  leaves : (x : Book) → (after t.writes x).tokens ≡ x.tokens

run_of : (batch : Batch) (b : Book) (t : RunEffect) → AscendingBook b → run batch.domain batch.ops b ≡ Ok t → RunOf batch b t
run_of batch b t a e =
    let f : FitAll t.writes b × AscendingBook (after t.writes b) = subst (λ r. IfOk r (λ t. FitAll t.writes b × AscendingBook (after t.writes b))) e (run_fits batch.domain batch.ops b a) in
    let l : (x : Book) → (after t.writes x).tokens ≡ x.tokens = subst (λ r. IfOk r (λ t. (x : Book) → (after t.writes x).tokens ≡ x.tokens)) e (run_leaves batch.domain batch.ops b) in
    record { order = f.1; leaves = l }

is_unchanged_within : (token : Bytes) (r : KeptBatch) (books : List Book) (c : Book) (replies : List OpReply) (o : Option Limit) → HasKept token (Some r) books → token_at token c ≡ Some r → HasKept token (Some r) (books_with books (adds_within o replies c))
is_unchanged_within token r books c replies (Some limit) h k = h
is_unchanged_within token r books c replies None h k = ap (token_at token) (last-snoc empty_book books c) ∙ k

other_token : (batch : Batch) (token : Bytes) (r : KeptBatch) (b : Book) → kept_under batch.token b ≡ None → token_at token b ≡ Some r → batch.token ≡ Some token → ⊥
other_token batch token r b n h e = let q : Some r ≡ None = sym h ∙ (sym (ap (λ x. kept_under x b) e) ∙ n) in cc

is_unchanged_when : (token : Bytes) (r : KeptBatch) (query : Bool) (batch : Batch) (n : ℕ) (books : List Book) (b : Book) (o : RunResult) → run batch.domain batch.ops b ≡ o → AscendingBook b → token_at token b ≡ Some r → kept_under batch.token b ≡ None → HasKept token (Some r) books → HasKept token (Some r) (books_with books (verdict_when query batch n b o))
is_unchanged_when token r query batch n books b (Err s) e a k u h = h
is_unchanged_when token r true batch n books b (Ok t) e a k u h = h
is_unchanged_when token r false batch n books b (Ok t) e a k u h =
    let q : RunOf batch b t = run_of batch b t a e in
    let c = after (batch_writes batch (n + 1) t) b in
    is_unchanged_within token r books c t.replies (limit_passed n c) h (others_stay batch token (n + 1) t b q.order (other_token batch token r b u k) q.leaves ∙ k)

is_unchanged_run : (first : List Book) (own_domain token : Bytes) (r : KeptBatch) (batch : Batch) (books : List Book) (b : Book) (o : Option ℕ) → Keeps first own_domain token r books → IsMadeFor own_domain batch → past_place batch.ops ≡ o → book_for o books ≡ Some b → kept_under batch.token b ≡ None → HasKept token (Some r) (books_with books (verdict_run batch (place_of books) b))
is_unchanged_run first own_domain token r batch books b None k m p e u =
    let q : last_book books ≡ b = some_is (last_book books) b e in
    is_unchanged_when token r (is_query batch.ops) batch (place_of books) books b (run batch.domain batch.ops b) refl (subst AscendingBook q (in_order_after first own_domain books k.history k.some)) (sym (ap (token_at token) q) ∙ k.kept) u k.kept
is_unchanged_run first own_domain token r batch books b (Some n) k m p e u = asks_with (HasKept token (Some r)) books (is_query batch.ops) batch (place_of books) b (run batch.domain batch.ops b) (past_asks own_domain batch n m p) k.kept

some_with : (books : List Book) (v : Verdict) → 0 < length books → 0 < length (books_with books v)
some_with books (refuses r) h = h
some_with books (answers rs) h = h
some_with books (adds rs b) h = let n = length-append books (b ∷ []) in omega arith
some_with books (repeats n rs) h = h

is_unchanged : (first : List Book) (own_domain token : Bytes) (r : KeptBatch) (batch : Batch) (books : List Book) → Keeps first own_domain token r books → IsMadeFor own_domain batch → Keeps first own_domain token r (books_after batch books)
is_unchanged first own_domain token r batch books k m = record {
  history = history_extends first own_domain batch books k.history m;
  some = some_with books (verdict batch (place_of books) (book_for (past_place batch.ops) books)) k.some;
  kept = of_verdict (λ v. HasKept token (Some r) (books_with books v)) batch (place_of books) (λ f. k.kept) (λ n rs. k.kept) (book_for (past_place batch.ops) books) (λ b e u. is_unchanged_run first own_domain token r batch books b (past_place batch.ops) k m refl e u);
}

is_unchanged_all : (first : List Book) (own_domain token : Bytes) (r : KeptBatch) (books : List Book) (batches : List Batch) → Keeps first own_domain token r books → AllByRecursion (IsMadeFor own_domain) batches → Keeps first own_domain token r (books_from books batches)
is_unchanged_all first own_domain token r books [] k m = k
is_unchanged_all first own_domain token r books (x ∷ xs) k m = is_unchanged_all first own_domain token r (books_after x books) xs (is_unchanged first own_domain token r x books k m.0) m.1

-- ---- the batch that is committed

abbrev row : Batch → Bytes → ℕ → List OpReply → KeptBatch
row batch token n replies = record { token = token; ops = batch.ops; place = n; replies = replies }

-- if the batch is committed with these replies, its row is stored with its place
record IsKept (batch : Batch) (token : Bytes) (books : List Book) (replies : List OpReply) (v : Verdict) : Type 0 where
  kept : HasKept token (Some (row batch token (place_of books + 1) replies)) (books_with books v)
  place : (reply_with (place_of books) v).place ≡ place_of books + 1

abbrev IfCommitted : Batch → Bytes → List Book → Verdict → Type 0
IfCommitted batch token books v = (replies : List OpReply) → (reply_with (place_of books) v).outcome ≡ Committed replies → IsKept batch token books replies v

kept_within : (batch : Batch) (token : Bytes) (books : List Book) (c : Book) (replies : List OpReply) (o : Option Limit) → token_at token c ≡ Some (row batch token (place_of books + 1) replies) → IfCommitted batch token books (adds_within o replies c)
kept_within batch token books c replies (Some limit) h = λ rs e. cc
kept_within batch token books c replies None h = λ rs e.
    let q : replies ≡ rs = cc in
    record { kept = ap (token_at token) (last-snoc empty_book books c) ∙ (h ∙ ap (λ x. Some (row batch token (place_of books + 1) x)) q); place = refl }

kept_when : (batch : Batch) (token : Bytes) (query : Bool) (books : List Book) (b : Book) (o : RunResult) → run batch.domain batch.ops b ≡ o → AscendingBook b → batch.token ≡ Some token → kept_under batch.token b ≡ None → IfCommitted batch token books (verdict_when query batch (place_of books) b o)
kept_when batch token query books b (Err s) e a k u = λ rs h. cc
kept_when batch token true books b (Ok t) e a k u = λ rs h. cc
kept_when batch token false books b (Ok t) e a k u =
    let q : RunOf batch b t = run_of batch b t a e in
    let c = after (batch_writes batch (place_of books + 1) t) b in
    kept_within batch token books c t.replies (limit_passed (place_of books) c) (row_kept batch token (place_of books + 1) t b k (sym (ap (λ x. kept_under x b) k) ∙ u) q.leaves)

-- a batch with a token doesn't read an earlier book
newest : (own_domain token : Bytes) (batch : Batch) → IsMadeFor own_domain batch → batch.token ≡ Some token → past_place batch.ops ≡ None
newest own_domain token batch m e = of_place (past_place batch.ops) refl
  where
    of_place : (o : Option ℕ) → past_place batch.ops ≡ o → past_place batch.ops ≡ None
    of_place None q = q
    of_place (Some n) q = let p : IsPastPage batch n = past_page own_domain batch n m q in let r : Some token ≡ None = sym e ∙ p.token in cc

kept_run : (first : List Book) (own_domain token : Bytes) (batch : Batch) (books : List Book) (b : Book) → IsHistory first own_domain books → 0 < length books → IsMadeFor own_domain batch → batch.token ≡ Some token → book_for (past_place batch.ops) books ≡ Some b → kept_under batch.token b ≡ None → IfCommitted batch token books (verdict_run batch (place_of books) b)
kept_run first own_domain token batch books b h s m k e u =
    let q : last_book books ≡ b = some_is (last_book books) b (sym (ap (λ o. book_for o books) (newest own_domain token batch m k)) ∙ e) in
    kept_when batch token (is_query batch.ops) books b (run batch.domain batch.ops b) refl (subst AscendingBook q (in_order_after first own_domain books h s)) k u

committed_keeps : (first : List Book) (own_domain token : Bytes) (batch : Batch) (books : List Book) → IsHistory first own_domain books → 0 < length books → IsMadeFor own_domain batch → batch.token ≡ Some token → IfCommitted batch token books (verdict batch (place_of books) (book_for (past_place batch.ops) books))
committed_keeps first own_domain token batch books h s m k = of_verdict (IfCommitted batch token books) batch (place_of books) (λ f rs e. cc) (λ n rs' rs e. cc) (book_for (past_place batch.ops) books) (λ b e u. kept_run first own_domain token batch books b h s m k e u)

-- ---- each later batch with the token

asks_only_last : (own_domain : Bytes) (batch : Batch) → IsMadeFor own_domain batch → past_place batch.ops ≡ None → ReadLastBook batch.ops
asks_only_last own_domain batch m n = of_ops batch.ops ((not_refused batch.domain batch.ops batch.token).0 m.no_fault).1 n
  where
    of_ops : (ops : List Op) → ArePagesAlone ops → past_place ops ≡ None → ReadLastBook ops
    of_ops [] a n = λ q w. absurd w
    of_ops (op ∷ []) a n = asks_last (op ∷ []) (n, tt)
    of_ops (op ∷ other ∷ ops) a n = a (omega arith)

not_committed : (n : ℕ) (batch : Batch) (o : Option Book) → ((b : Book) → o ≡ Some b → kept_under batch.token b ≡ None → ⊥) → is_committed (reply_with n (verdict batch n o)).outcome ≡ false
not_committed n batch o h = of_verdict (λ v. is_committed (reply_with n v).outcome ≡ false) batch n (λ r. refl) (λ k rs. refl) o (λ b e u. absurd (h b e u))

books_left : (books : List Book) (batch : Batch) (o : Option Book) → ((b : Book) → o ≡ Some b → kept_under batch.token b ≡ None → ⊥) → books_with books (verdict batch (place_of books) o) ≡ books
books_left books batch o h = of_verdict (λ v. books_with books v ≡ books) batch (place_of books) (λ r. refl) (λ k rs. refl) o (λ b e u. absurd (h b e u))

later_again : (first : List Book) (own_domain token : Bytes) (reply : Reply) (replies : List OpReply) (batch other : Batch) (n : ℕ) (books : List Book) → Keeps first own_domain token (row batch token n replies) books → IsMadeFor own_domain other → other.token ≡ Some token → reply.place ≡ n → CommittedOnce reply replies batch other books
later_again first own_domain token reply replies batch other n books k m e p =
    let r : KeptBatch = row batch token n replies in
    let now = newest own_domain token other m e in
    let order = in_order_after first own_domain books k.history k.some in
    let within = (at_row token_key token (last_book books).tokens r k.kept).0 in
    let last = asks_only_last own_domain other m (newest own_domain token other m e) in
    let found : kept_under other.token (last_book books) ≡ Some r = ap (λ x. kept_under x (last_book books)) e ∙ k.kept in
    let never : (b : Book) → book_for (past_place other.ops) books ≡ Some b → kept_under other.token b ≡ None → ⊥ = λ b q u.
    let s : last_book books ≡ b = some_is (last_book books) b (sym (ap (λ o. book_for o books) now) ∙ q) in
    let t : Some r ≡ None = sym found ∙ (ap (kept_under other.token) s ∙ u) in
    cc in
    record {
      no_more = not_committed (place_of books) other (book_for (past_place other.ops) books) never;
      books_stay = books_left books other (book_for (past_place other.ops) books) never;
      repeated = λ t s. (repeat_answered other books r order t last within e (sym s)).0 ∙ ap (λ x. record { place = x; outcome = Repeated replies }) (sym p);
      reused = λ t s. (reuse_refused other books r order t last within e (λ q. s (sym q))).0;
    }

pub exactly_once : (first : List Book) (own_domain token : Bytes) (batch other : Batch) (between : List Batch) (books : List Book) (replies : List OpReply) → IsHistory first own_domain books → IsMadeFor own_domain batch → IsMadeFor own_domain other → AllByRecursion (IsMadeFor own_domain) between → batch.token ≡ Some token → other.token ≡ Some token → (reply_to batch books).outcome ≡ Committed replies → CommittedOnce (reply_to batch books) replies batch other (books_from (books_after batch books) between)
exactly_once first own_domain token batch other between books replies h m o a e f c =
    let s = history_some first own_domain books h in
    let k : IsKept batch token books replies (verdict batch (place_of books) (book_for (past_place batch.ops) books)) = committed_keeps first own_domain token batch books h s m e replies c in
    let stored : Keeps first own_domain token (row batch token (place_of books + 1) replies) (books_after batch books) = record { history = history_extends first own_domain batch books h m; some = some_with books (verdict batch (place_of books) (book_for (past_place batch.ops) books)) s; kept = k.kept } in
    later_again first own_domain token (reply_to batch books) replies batch other (place_of books + 1) (books_from (books_after batch books) between) (is_unchanged_all first own_domain token (row batch token (place_of books + 1) replies) (books_after batch books) between stored a) o f k.place

-- ---- a batch that is stored

keeps_stored : (first : List Book) (own_domain : Bytes) (k : KeptBatch) (books : List Book) → IsHistory first own_domain books → Within (last_book books).tokens k → Keeps first own_domain k.token k books
keeps_stored first own_domain k books h w =
    let s = history_some first own_domain books h in
    let order = in_order_after first own_domain books h s in
    record { history = h; some = s; kept = ap first_row (row_alone token_key k.token (last_book books).tokens k order.tokens w refl) }

pub kept_stays : (first : List Book) (own_domain : Bytes) (books : List Book) (k : KeptBatch) (batches : List Batch) → IsHistory first own_domain books → Within (last_book books).tokens k → AllByRecursion (IsMadeFor own_domain) batches → Within (last_book (books_from books batches)).tokens k
kept_stays first own_domain books k batches h w a =
    let later : Keeps first own_domain k.token k (books_from books batches) = is_unchanged_all first own_domain k.token k books batches (keeps_stored first own_domain k books h w) a in
    (at_row token_key k.token (last_book (books_from books batches)).tokens k later.kept).0

pub stored_once : (first : List Book) (own_domain : Bytes) (k : KeptBatch) (other : Batch) (between : List Batch) (books : List Book) → IsHistory first own_domain books → Within (last_book books).tokens k → IsMadeFor own_domain other → AllByRecursion (IsMadeFor own_domain) between → other.token ≡ Some k.token → CommittedOnce (first_reply k) k.replies (stored_batch own_domain k) other (books_from books between)
stored_once first own_domain k other between books h w m a e =
    later_again first own_domain k.token (first_reply k) k.replies (stored_batch own_domain k) other k.place (books_from books between)
    (is_unchanged_all first own_domain k.token k books between (keeps_stored first own_domain k books h w) a) m e refl
