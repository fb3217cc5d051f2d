-- The answer to a query on the published state.
use Rattle.std.proofs.Common.{◌≡◌, ℕ, ◌<◌, Bool, true, false, List, length, Option, None, Some, Ok, Err, refl, sym, ap, subst, ◌∙◌, cond}
use Rattle.std.specs.Prelude.{is_some, nat_lt}
use Rattle.entry_book.specs.declared.reply.Refusal.TheVariants.{NotYet}
use Rattle.entry_book.specs.declared.reply.Reply.{Reply}
use Rattle.entry_book.specs.Rows.{Bytes}
use Rattle.entry_book.specs.Book.{Book}
use Rattle.entry_book.specs.Runs.{RunResult, run}
use Rattle.entry_book.specs.Batches.{Batch, IsMadeFor, is_query, past_place}
use Rattle.entry_book.specs.History.{book_for, books_from, kept_under, place_of, refuses, reply_to, reply_with, verdict_on, verdict_over, verdict_when}
use Rattle.entry_book.proofs.Faults.{not_refused}
use Rattle.batch_work.specs.Working.{base_in, reply_there}
use Rattle.batch_work.proofs.Windows.{window_represents}
use Rattle.commit_head.specs.Heads.{IsJournal}
use Rattle.commit_head.specs.Journals.{batches_of, place_after}
use Rattle.shared_registry.specs.Shown.{Shown}
use Rattle.shared_registry.specs.ShownPrivate.{whole_head}
use Rattle.commit_head.proofs.OnBooks.{led_to}

-- ---- the reply to a query

-- the answer on the published window is that of the plain book on the journal's books
pub answer_is : (first : List Book) (batch : Batch) (snapshot : Shown) (reply : Reply) → IsJournal first snapshot.journal (whole_head snapshot.window snapshot.journal) → reply ≡ reply_there batch (base_in batch snapshot.window) → reply ≡ reply_to batch (books_from first (batches_of snapshot.journal))
answer_is first batch snapshot reply k e = e ∙ (window_represents batch snapshot.window (books_from first (batches_of snapshot.journal)) k.shown).reply

-- ---- its place is that of the books

no_token : (token : Option Bytes) → (is_some token ≡ true → true ≡ false) → token ≡ None
no_token None h = refl
no_token (Some k) h = let q = h refl in cc

run_place : (batch : Batch) (place : ℕ) (b : Book) (query : Bool) (r : RunResult) → query ≡ true → (reply_with place (verdict_when query batch place b r)).place ≡ place
run_place batch place b true (Err s) q = refl
run_place batch place b true (Ok t) q = refl
run_place batch place b false r q = let no : false ≡ true = q in cc

place_there : (batch : Batch) (place : ℕ) (o : Option Book) → is_query batch.ops ≡ true → batch.token ≡ None → (reply_with place (verdict_on batch place o)).place ≡ place
place_there batch place None q n = refl
place_there batch place (Some b) q n = subst (λ k. (reply_with place (verdict_over (kept_under k b) batch place b)).place ≡ place) (sym n) (run_place batch place b (is_query batch.ops) (run batch.domain batch.ops b) q)

place_in_time : (early : Bool) (batch : Batch) (place : ℕ) (o : Option Book) → is_query batch.ops ≡ true → batch.token ≡ None → (reply_with place (cond early (refuses NotYet) (verdict_on batch place o))).place ≡ place
place_in_time true batch place o q n = refl
place_in_time false batch place o q n = place_there batch place o q n

query_place : (own_domain : Bytes) (batch : Batch) (books : List Book) → IsMadeFor own_domain batch → is_query batch.ops ≡ true → (reply_to batch books).place ≡ place_of books
query_place own_domain batch books made q =
    let k = (not_refused batch.domain batch.ops batch.token).0 made.no_fault in
    place_in_time (nat_lt (place_of books) batch.after) batch (place_of books) (book_for (past_place batch.ops) books) q (no_token batch.token (λ s. sym q ∙ k.2 s))

pub place_is : (first : List Book) (own_domain : Bytes) (batch : Batch) (snapshot : Shown) (reply : Reply) → IsMadeFor own_domain batch → is_query batch.ops ≡ true → 0 < length first → IsJournal first snapshot.journal (whole_head snapshot.window snapshot.journal) → reply ≡ reply_to batch (books_from first (batches_of snapshot.journal)) → reply.place ≡ place_after first snapshot.journal
place_is first own_domain batch snapshot reply made q some k e =
    let led = led_to first snapshot.window.newest.domain snapshot.journal snapshot.window.newest some k.leads in
    ap (λ (r : Reply). r.place) e ∙ (query_place own_domain batch (books_from first (batches_of snapshot.journal)) made q ∙ (led.last.place ∙ led.number))
