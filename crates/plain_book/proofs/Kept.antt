-- The state of a plain book after a batch, compared with the list of all books.
use Rattle.std.proofs.Common.{◌≡◌, ℕ, ◌+◌, ◌*◌, ◌<◌, Bool, true, false, List, [], ◌∷◌, Option, Some, None, Ok, Err, IfOk, refl, sym, ap, subst, ◌∙◌, arith, length-append}
use Rattle.std.specs.Prelude.{◌^◌, ⊤}
use Rattle.entry_book.specs.declared.limit.Limit.{Limit}
use Rattle.entry_book.specs.declared.reply.OpReply.{OpReply}
use Rattle.entry_book.specs.Rows.{Bytes}
use Rattle.entry_book.specs.Book.{Book}
use Rattle.entry_book.specs.Writes.{after}
use Rattle.entry_book.specs.Runs.{RunResult, run}
use Rattle.entry_book.specs.Limits.{limit_passed}
use Rattle.entry_book.specs.Batches.{Batch, IsMadeFor, is_query, past_place}
use Rattle.entry_book.specs.History.{Verdict, refuses, answers, adds, repeats, adds_within, batch_writes, book_for, verdict_when, verdict, verdict_of, reply_with, reply_to, books_with, books_after, kept_for, place_of, IsHistory, PlainState, reply_on, state_with, state_after, RepresentsFrom}
use Rattle.entry_book.specs.Lawful.{Lawful}
use Rattle.plain_book.specs.Keeps.{IsSound}
use Rattle.entry_book.proofs.Histories.{batch_keeps, history_extends}
use Rattle.entry_book.proofs.OfVerdict.{of_verdict}
use Rattle.entry_book.proofs.WithinLimits.{none_is_passed}
use Rattle.plain_book.proofs.KeptBooks.{kept_lawful, kept_more, place_is, same_book}

-- ---- an added book is lawful, and the place before it is below 2^48

abbrev IfAdds : (Book → Type 0) → Verdict → Type 0
IfAdds P (refuses r) = ⊤
IfAdds P (answers replies) = ⊤
IfAdds P (adds replies c) = P c
IfAdds P (repeats n replies) = ⊤

abbrev pub IsNext : Bytes → ℕ → Book → Type 0
IsNext own_domain n c = Lawful own_domain (64 * (n + 1)) c × (n < 2 ^ 48)

next_within : (own_domain : Bytes) (n : ℕ) (c : Book) (replies : List OpReply) (o : Option Limit) → limit_passed n c ≡ o → Lawful own_domain (64 * (n + 1)) c → IfAdds (IsNext own_domain n) (adds_within o replies c)
next_within own_domain n c replies (Some limit) e h = tt
next_within own_domain n c replies None e h = (h, ((none_is_passed n c).0 e).0)

next_when : (own_domain : Bytes) (query : Bool) (batch : Batch) (n : ℕ) (b : Book) (r : RunResult) → IfOk r (λ t. Lawful own_domain (64 * (n + 1)) (after (batch_writes batch (n + 1) t) b)) → IfAdds (IsNext own_domain n) (verdict_when query batch n b r)
next_when own_domain query batch n b (Err s) h = tt
next_when own_domain true batch n b (Ok t) h = tt
next_when own_domain false batch n b (Ok t) h = next_within own_domain n (after (batch_writes batch (n + 1) t) b) t.replies (limit_passed n (after (batch_writes batch (n + 1) t) b)) refl h

next_of : (state : PlainState) (batch : Batch) → IsMadeFor state.domain batch → IsSound state → IfAdds (IsNext state.domain state.place) (verdict_of batch state)
next_of state batch m s =
    of_verdict (IfAdds (IsNext state.domain state.place)) batch state.place (λ r. tt) (λ n replies. tt) (kept_for (past_place batch.ops) state)
    (λ b e k. next_when state.domain (is_query batch.ops) batch state.place b (run batch.domain batch.ops b) (batch_keeps state.domain batch state.place b m (kept_lawful state (past_place batch.ops) b s e)))

pub adds_next : (state : PlainState) (batch : Batch) (replies : List OpReply) (c : Book) → batch.domain ≡ state.domain → IsMadeFor batch.domain batch → IsSound state → adds replies c ≡ verdict_of batch state → IsNext state.domain state.place c
adds_next state batch replies c q m s e = subst (IfAdds (IsNext state.domain state.place)) (sym e) (next_of state batch (subst (λ d. IsMadeFor d batch) q m) s)

-- ---- replies and books agree with each list of books that the state represents

same_verdict : (first : List Book) (state : PlainState) (books : List Book) (batch : Batch) → RepresentsFrom first state books → verdict batch (place_of books) (book_for (past_place batch.ops) books) ≡ verdict_of batch state
same_verdict first state books batch s =
    ap (λ n. verdict batch n (book_for (past_place batch.ops) books)) (place_is first state books s)
    ∙ ap (verdict batch state.place) (same_book first state books s (past_place batch.ops))

pub replies_agree : (first : List Book) (state : PlainState) (books : List Book) (batch : Batch) → RepresentsFrom first state books → reply_on batch state ≡ reply_to batch books
replies_agree first state books batch s =
    sym (ap (λ n. reply_with n (verdict batch (place_of books) (book_for (past_place batch.ops) books))) (place_is first state books s)
    ∙ ap (reply_with state.place) (same_verdict first state books batch s))

represents_with : (first : List Book) (state : PlainState) (books : List Book) (v : Verdict) → RepresentsFrom first state books → IsHistory first state.domain (books_with books v) → RepresentsFrom first (state_with state v) (books_with books v)
represents_with first state books (refuses r) s h = s
represents_with first state books (answers replies) s h = s
represents_with first state books (adds replies c) s h =
    let n = length-append books (c ∷ []) in
    let k = s.count in
    record { count = omega arith; kept = kept_more first state books s c; history = h }
represents_with first state books (repeats n replies) s h = s

pub books_agree : (first : List Book) (state : PlainState) (books : List Book) (batch : Batch) → RepresentsFrom first state books → IsMadeFor state.domain batch → RepresentsFrom first (state_after batch state) (books_after batch books)
books_agree first state books batch s m =
    subst (λ v. RepresentsFrom first (state_with state v) (books_after batch books)) (same_verdict first state books batch s)
    (represents_with first state books (verdict batch (place_of books) (book_for (past_place batch.ops) books)) s (history_extends first state.domain batch books s.history m))

-- ---- the same, for a given verdict

pub reply_when : (first : List Book) (state : PlainState) (books : List Book) (batch : Batch) (v : Verdict) (n : ℕ) → n ≡ state.place → v ≡ verdict_of batch state → RepresentsFrom first state books → reply_with n v ≡ reply_to batch books
reply_when first state books batch v n q e s = ap (λ m. reply_with m v) q ∙ (ap (reply_with state.place) e ∙ replies_agree first state books batch s)

pub books_when : (first : List Book) (state : PlainState) (books : List Book) (batch : Batch) (v : Verdict) → v ≡ verdict_of batch state → batch.domain ≡ state.domain → IsMadeFor batch.domain batch → RepresentsFrom first state books → RepresentsFrom first (state_with state v) (books_after batch books)
books_when first state books batch v e q m s = subst (λ x. RepresentsFrom first (state_with state x) (books_after batch books)) (sym e) (books_agree first state books batch s (subst (λ d. IsMadeFor d batch) q m))
