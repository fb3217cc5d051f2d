-- The outcome of each kind of batch.
use Rattle.std.proofs.Common.{◌≡◌, ◌⊎◌, ℕ, zero, suc, ◌+◌, ◌<◌, ◌≤◌, Bool, true, false, List, [], ◌∷◌, ◌++◌, length, Option, Some, None, Ok, Err, refl, sym, ap, ◌∙◌, ⊎_elim, arith}
use Rattle.std.specs.Prelude.{map, nat_lt, slice_get, take}
use Rattle.std.proofs.lemmas.Bool.{cases_Bool}
use Rattle.std.proofs.lemmas.Bool.Decides.{nat_tests}
use Rattle.entry_book.specs.declared.kept.KeptBatch.{KeptBatch}
use Rattle.entry_book.specs.declared.limit.Limit.{Limit}
use Rattle.entry_book.specs.declared.op.Op.TheVariants.{Page}
use Rattle.entry_book.specs.declared.page.PageQuery.{PageQuery}
use Rattle.entry_book.specs.declared.reply.OpReply.{OpReply}
use Rattle.entry_book.specs.declared.reply.OpReply.TheVariants as replied
use Rattle.entry_book.specs.declared.reply.OpRefusal.TheVariants.{VersionGone}
use Rattle.entry_book.specs.declared.reply.ReplyOutcome.TheVariants.{Committed, Answered, Repeated, Refused}
use Rattle.entry_book.specs.declared.reply.Refusal.TheVariants.{NotYet, TokenReused, OfOp, Full}
use Rattle.entry_book.specs.Rows.{Bytes}
use Rattle.entry_book.specs.Book.{Book, AscendingBook, empty_book, token_at}
use Rattle.entry_book.specs.Order.{Within, first}
use Rattle.entry_book.specs.Tokens.{token_key}
use Rattle.entry_book.specs.SameOps.{ops_eq}
use Rattle.entry_book.specs.Writes.{after}
use Rattle.entry_book.specs.Runs.{RunEffect, RefusedOp, run}
use Rattle.entry_book.specs.Limits.{limit_passed}
use Rattle.entry_book.specs.Batches.{Batch, IsMadeFor, is_query, past_place}
use Rattle.entry_book.specs.History.{last_book, last_or, place_of, among_last, batch_writes, book_for, kept_under, Verdict, refuses, verdict_again, verdict_when, verdict_run, verdict_over, verdict_on, verdict, reply_to, reply_with, books_with}
use Rattle.entry_book.specs.Laws.{ReadLastBook, HasOutcome, IsTokenFree, RunsOn, as_newest_page, batch_now}
use Rattle.entry_book.specs.Pages.{listed, next_of}
use Rattle.entry_book.proofs.Histories.{verdict_answers, verdict_changes}
use Rattle.entry_book.proofs.PastPages.{IsPastPage, asks_newest, past_page}
use Rattle.entry_book.proofs.Keys.{at_row, row_alone}
use Rattle.entry_book.proofs.SameOps.{same_ops}

comes_by : (batch : Batch) (books : List Book) (v : Verdict) → verdict batch (place_of books) (book_for (past_place batch.ops) books) ≡ v → HasOutcome batch books (reply_with (place_of books) v) (books_with books v)
comes_by batch books v e = (ap (reply_with (place_of books)) e, ap (books_with books) e)

-- ---- its place, the book that it reads, and its token

early : (batch : Batch) (place : ℕ) (b : Option Book) → place < batch.after → verdict batch place b ≡ refuses NotYet
early batch place b h = let k : nat_lt place batch.after ≡ true = grind (arith, nat_tests) in rw k refl

in_time : (batch : Batch) (place : ℕ) (b : Option Book) → batch.after ≤ place → verdict batch place b ≡ verdict_on batch place b
in_time batch place b h = let k : nat_lt place batch.after ≡ false = grind (arith, nat_tests) in rw k refl

on_newest : (batch : Batch) (books : List Book) (k : Option KeptBatch) → batch.after ≤ place_of books → past_place batch.ops ≡ None → kept_under batch.token (last_book books) ≡ k → verdict batch (place_of books) (book_for (past_place batch.ops) books) ≡ verdict_over k batch (place_of books) (last_book books)
on_newest batch books k h n e =
    in_time batch (place_of books) (book_for (past_place batch.ops) books) h
    ∙ (ap (λ o. verdict_on batch (place_of books) (book_for o books)) n
    ∙ ap (λ o. verdict_over o batch (place_of books) (last_book books)) e)

-- if no batch was committed with the token, none is stored
pub free_kept : (token : Option Bytes) (b : Book) → IsTokenFree token b → kept_under token b ≡ None
free_kept None b h = refl
free_kept (Some t) b h = none_found (token_at t b) refl
  where
    none_found : (o : Option KeptBatch) → token_at t b ≡ o → token_at t b ≡ None
    none_found None e = e
    none_found (Some k) e = let r = at_row token_key t b.tokens k e in absurd (h k r.0 r.1)

row_found : (token : Option Bytes) (k : KeptBatch) (b : Book) → AscendingBook b → Within b.tokens k → token ≡ Some k.token → kept_under token b ≡ Some k
row_found token k b a w e = ap (λ t. kept_under t b) e ∙ ap first (row_alone token_key k.token b.tokens k a.tokens w refl)

runs_on : (batch : Batch) (books : List Book) → RunsOn batch books → verdict batch (place_of books) (book_for (past_place batch.ops) books) ≡ verdict_run batch (place_of books) (last_book books)
runs_on batch books r = on_newest batch books None r.reached (asks_newest batch.ops r.newest) (free_kept batch.token (last_book books) r.not_kept)

pub early_refused : (batch : Batch) (books : List Book) → place_of books < batch.after → HasOutcome batch books (record { place = place_of books; outcome = Refused NotYet }) books
early_refused batch books h = comes_by batch books _ (early batch (place_of books) (book_for (past_place batch.ops) books) h)

pub op_refuses : (batch : Batch) (books : List Book) (s : RefusedOp) → RunsOn batch books → run batch.domain batch.ops (last_book books) ≡ Err s → HasOutcome batch books (record { place = place_of books; outcome = Refused (OfOp s.op s.reason) }) books
op_refuses batch books s r h = comes_by batch books _ (runs_on batch books r ∙ ap (verdict_when (is_query batch.ops) batch (place_of books) (last_book books)) h)

pub queries_answered : (batch : Batch) (books : List Book) (t : RunEffect) → RunsOn batch books → is_query batch.ops ≡ true → run batch.domain batch.ops (last_book books) ≡ Ok t → HasOutcome batch books (record { place = place_of books; outcome = Answered t.replies }) books
queries_answered batch books t r h k = comes_by batch books _ (runs_on batch books r ∙ verdict_answers (is_query batch.ops) batch (place_of books) (last_book books) (run batch.domain batch.ops (last_book books)) t h k)

pub changes_commit : (batch : Batch) (books : List Book) (t : RunEffect) → RunsOn batch books → is_query batch.ops ≡ false → run batch.domain batch.ops (last_book books) ≡ Ok t → limit_passed (place_of books) (after (batch_writes batch (place_of books + 1) t) (last_book books)) ≡ None → HasOutcome batch books (record { place = place_of books + 1; outcome = Committed t.replies }) (books ++ after (batch_writes batch (place_of books + 1) t) (last_book books) ∷ [])
changes_commit batch books t r h k l = comes_by batch books _ (runs_on batch books r ∙ verdict_changes (is_query batch.ops) batch (place_of books) (last_book books) (run batch.domain batch.ops (last_book books)) t None h k l)

pub full_refused : (batch : Batch) (books : List Book) (t : RunEffect) (limit : Limit) → RunsOn batch books → is_query batch.ops ≡ false → run batch.domain batch.ops (last_book books) ≡ Ok t → limit_passed (place_of books) (after (batch_writes batch (place_of books + 1) t) (last_book books)) ≡ Some limit → HasOutcome batch books (record { place = place_of books; outcome = Refused (Full limit) }) books
full_refused batch books t limit r h k l = comes_by batch books _ (runs_on batch books r ∙ verdict_changes (is_query batch.ops) batch (place_of books) (last_book books) (run batch.domain batch.ops (last_book books)) t (Some limit) h k l)

-- ---- tokens

again : (k : KeptBatch) (batch : Batch) (same : Bool) → ops_eq k.ops batch.ops ≡ same → (place : ℕ) (b : Book) → verdict_over (Some k) batch place b ≡ verdict_again same k
again k batch same e place b = ap (λ x. verdict_again x k) e

pub repeat_answered : (batch : Batch) (books : List Book) (k : KeptBatch) → AscendingBook (last_book books) → batch.after ≤ place_of books → ReadLastBook batch.ops → Within (last_book books).tokens k → batch.token ≡ Some k.token → k.ops ≡ batch.ops → HasOutcome batch books (record { place = k.place; outcome = Repeated k.replies }) books
repeat_answered batch books k a h n w e s = comes_by batch books _ (on_newest batch books (Some k) h (asks_newest batch.ops n) (row_found batch.token k (last_book books) a w e) ∙ again k batch true ((same_ops k.ops batch.ops).1 s) (place_of books) (last_book books))

pub reuse_refused : (batch : Batch) (books : List Book) (k : KeptBatch) → AscendingBook (last_book books) → batch.after ≤ place_of books → ReadLastBook batch.ops → Within (last_book books).tokens k → batch.token ≡ Some k.token → (k.ops ≡ batch.ops → ⊥) → HasOutcome batch books (record { place = place_of books; outcome = Refused TokenReused }) books
reuse_refused batch books k a h n w e s = comes_by batch books _ (on_newest batch books (Some k) h (asks_newest batch.ops n) (row_found batch.token k (last_book books) a w e) ∙ again k batch false (⊎_elim (λ t. absurd (s ((same_ops k.ops batch.ops).0 t))) (λ t. t) (cases_Bool (ops_eq k.ops batch.ops))) (place_of books) (last_book books))

-- ---- earlier books

past_run : (batch : Batch) (n place : ℕ) (b : Book) → IsPastPage batch n → verdict_on batch place (Some b) ≡ verdict_run batch place b
past_run batch n place b p = ap (λ t. verdict_over (kept_under t b) batch place b) p.token

page_alone : (batch : Batch) (place : ℕ) (b : Book) (n : ℕ) → (p : IsPastPage batch n) → verdict_run batch place b ≡ verdict_run (record batch { ops = Page p.query ∷ [] }) place b
page_alone batch place b n p = ap (λ ops. verdict_run (record batch { ops = ops }) place b) p.ops

last_taken : (a : Book) (books : List Book) (n : ℕ) (b : Book) → slice_get books n ≡ Some b → last_or a (take (n + 1) books) ≡ b
last_taken a [] n b h = cc
last_taken a (c ∷ cs) zero b h = let q : c ≡ b = cc in q
last_taken a (c ∷ cs) (suc n) b h = let q : suc n + 1 ≡ suc (n + 1) = omega arith in ap (λ k. last_or a (take k (c ∷ cs))) q ∙ last_taken c cs n b h

get_some : (books : List Book) (n : ℕ) → n < length books → (b : Book) × (slice_get books n ≡ Some b)
get_some [] n h = absurd (omega arith)
get_some (b ∷ bs) zero h = (b, refl)
get_some (b ∷ bs) (suc n) h = get_some bs n (omega arith)

get_none : (books : List Book) (n : ℕ) → length books ≤ n → slice_get books n ≡ None
get_none [] n h = refl
get_none (b ∷ bs) zero h = absurd (omega arith)
get_none (b ∷ bs) (suc n) h = get_none bs n (omega arith)

is_among : (books : List Book) (n : ℕ) → place_of books < n + 64 → among_last n books ≡ slice_get books n
is_among books n h = let k : nat_lt (place_of books) (n + 64) ≡ true = grind (arith, nat_tests) in rw k refl

is_gone : (books : List Book) (n : ℕ) → n + 64 ≤ place_of books → among_last n books ≡ None
is_gone books n h = let k : nat_lt (place_of books) (n + 64) ≡ false = grind (arith, nat_tests) in rw k refl

past_verdict : (batch : Batch) (books : List Book) (n : ℕ) (o : Option Book) → batch.after ≤ place_of books → past_place batch.ops ≡ Some n → among_last n books ≡ o → verdict batch (place_of books) (book_for (past_place batch.ops) books) ≡ verdict_on batch (place_of books) o
past_verdict batch books n o h p e = in_time batch (place_of books) (book_for (past_place batch.ops) books) h ∙ (ap (λ x. verdict_on batch (place_of books) (book_for x books)) p ∙ ap (verdict_on batch (place_of books)) e)

abbrev page_replies : PageQuery → Book → List OpReply
page_replies q b = replied.Page (listed q b) (next_of q b) ∷ []

abbrev page_now : (batch : Batch) (n : ℕ) → IsPastPage batch n → Batch
page_now batch n p = record batch { ops = Page (record p.query { at = None }) ∷ []; after = 0; token = None }

now_is : (batch : Batch) (n : ℕ) → (p : IsPastPage batch n) → batch_now batch ≡ page_now batch n p
now_is batch n p = ap (λ ops. record batch { ops = map as_newest_page ops; after = 0 }) p.ops ∙ ap (λ t. record batch { ops = Page (record p.query { at = None }) ∷ []; after = 0; token = t }) p.token

-- the reply to a page, at any place
outcome_now : (batch : Batch) (n place : ℕ) (books : List Book) (b : Book) → (p : IsPastPage batch n) → last_book books ≡ b → (reply_with place (verdict_run batch place b)).outcome ≡ (reply_to (batch_now batch) books).outcome
outcome_now batch n place books b p e =
    ap (λ v. (reply_with place v).outcome) (page_alone batch place b n p)
    ∙ (ap (λ c. Answered (page_replies p.query c)) (sym e)
    ∙ (sym (ap (λ v. (reply_with (place_of books) v).outcome) (in_time (page_now batch n p) (place_of books) (Some (last_book books)) (omega arith)))
    ∙ sym (ap (λ x. (reply_to x books).outcome) (now_is batch n p))))

pub past_answered : (own_domain : Bytes) (batch : Batch) (books : List Book) (q : PageQuery) (n : ℕ) → IsMadeFor own_domain batch → 0 < length books → batch.after ≤ place_of books → batch.ops ≡ Page q ∷ [] → q.at ≡ Some n → n ≤ place_of books → place_of books < n + 64 → HasOutcome batch books (record { place = place_of books; outcome = (reply_to (batch_now batch) (take (n + 1) books)).outcome }) books
past_answered own_domain batch books q n m s h o t l r =
    let k : past_place batch.ops ≡ Some n = ap past_place o ∙ t in
    let p : IsPastPage batch n = past_page own_domain batch n m k in
    let g = get_some books n (omega arith) in
    let b : Book = g.0 in
    let e = past_verdict batch books n (Some b) h k (is_among books n r ∙ g.1) ∙ past_run batch n (place_of books) b p in
    let w = outcome_now batch n (place_of books) (take (n + 1) books) b p (last_taken empty_book books n b g.1) in
    let c = comes_by batch books _ (e ∙ page_alone batch (place_of books) b n p) in
    (c.0 ∙ ap (λ x. record { place = place_of books; outcome = x }) (ap (λ v. (reply_with (place_of books) v).outcome) (sym (page_alone batch (place_of books) b n p)) ∙ w), c.1)

pub gone_refused : (batch : Batch) (books : List Book) (q : PageQuery) (n : ℕ) → batch.after ≤ place_of books → batch.ops ≡ Page q ∷ [] → q.at ≡ Some n → (place_of books < n) ⊎ (n + 64 ≤ place_of books) → HasOutcome batch books (record { place = place_of books; outcome = Refused (OfOp 0 VersionGone) }) books
gone_refused batch books q n h o t l = comes_by batch books _ (past_verdict batch books n None h (ap past_place o ∙ t) (⊎_elim (λ t. is_among books n (omega arith) ∙ get_none books n (omega arith)) (λ t. is_gone books n t) l))
