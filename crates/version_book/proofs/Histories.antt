-- How do versions follow one another, batch by batch?
use Rattle.std.proofs.Common.{◌≡◌, ℕ, ◌+◌, ◌≤◌, Bool, true, false, cond, List, [], ◌∷◌, ◌++◌, length, Option, Some, None, Ok, Err, sym, ap, subst, ◌∙◌, refl, IfOk, inl, inr, option_map, arith, length-append}
use Rattle.std.specs.Prelude.{map, filter, nat_lt}
use Rattle.std.specs.List.{list_any}
use Rattle.std.proofs.lemmas.Bool.{or_parts}
use Rattle.std.proofs.lemmas.Bool.Decides.{nat_tests}
use Rattle.entry_book.proofs.Fits.{in_order}
use Rattle.entry_book.proofs.Histories.{last-snoc, verdict_changes}
use Rattle.entry_book.proofs.OfVerdict.{of_verdict}
use Rattle.entry_book.proofs.PastPages.{changes_newest}
use Rattle.entry_book.proofs.TokenRows.{batch_fits_book}
use Rattle.entry_book.proofs.WithinLimits.{none_is_passed}
use Rattle.entry_book.specs.declared.limit.Limit.{Limit}
use Rattle.entry_book.specs.declared.reply.OpReply.{OpReply}
use Rattle.entry_book.specs.declared.reply.Refusal.TheVariants.{NotYet}
use Rattle.entry_book.specs.Rows.{Bytes, entry_key, agent_key, bundle_key}
use Rattle.entry_book.specs.Tokens.{token_key}
use Rattle.entry_book.specs.Order.{Within, Ascending, with_row}
use Rattle.entry_book.specs.Book.{Book, AscendingBook, empty_book}
use Rattle.entry_book.specs.Writes.{RowChange, RowWrite, wrote_entry, wrote_agent, wrote_bundle, wrote_token, FitsRows, FitsBook, FitAll, after, after_write}
use Rattle.entry_book.specs.Batches.{Batch, is_query, past_place}
use Rattle.entry_book.specs.Runs.{RunResult, run}
use Rattle.entry_book.specs.Limits.{limit_passed, IsWithinLimits}
use Rattle.entry_book.specs.History.{Verdict, refuses, adds, adds_within, batch_writes, book_for, kept_under, verdict, verdict_on, verdict_over, verdict_run, verdict_when, last_book, place_of, books_with, books_after, reply_with, is_committed}
use Rattle.version_book.specs.declared.mark.MarkKind.{MarkKind}
use Rattle.version_book.specs.declared.committed_row.CommittedRow.{CommittedRow}
use Rattle.version_book.specs.Marks.{hits, passes_if_some, names_entry, names_agent, names_bundle, names_token}
use Rattle.version_book.specs.CommittedRows.{CommittedRows, VersionState, row_of, numbered, of_row, book_of, marked, next_state, rows_after, rows_after_write}
use Rattle.version_book.specs.History.{CommitsOn, Follows, any_hits, version_with, writes_at, writes_in}
use Rattle.version_book.specs.Laws.{BatchCommits, CommitsReadLast, FollowsJoined, BooksFollow, DomainIsUnchanged, LimitsFollow, UnhitHistory, VerdictOnLast}
use Rattle.version_book.proofs.Agreement.{old_fails, unhit_rows}
use Rattle.version_book.proofs.NamedRows.{book_after, book_after_write}
use Rattle.version_book.proofs.Numbers.{ascending_rows}

-- ---- one batch

-- if a batch may run at this place and its token isn't in use, its verdict is that of its run
runs : (batch : Batch) (n : ℕ) (b : Book) → batch.after ≤ n → kept_under batch.token b ≡ None → verdict batch n (Some b) ≡ verdict_run batch n b
runs batch n b l k =
    let q : nat_lt n batch.after ≡ false = grind (arith, nat_tests, l) in
    ap (λ t. cond t (refuses NotYet) (verdict_on batch n (Some b))) q ∙ ap (λ o. verdict_over o batch n b) k

some_is : (b c : Book) → Some b ≡ Some c → b ≡ c
some_is b c e = cc

-- if a batch adds a book, its token isn't in use, and its run adds that book
pub ran : (batch : Batch) (n : ℕ) (b c : Book) (replies : List OpReply) → verdict batch n (Some b) ≡ adds replies c → (kept_under batch.token b ≡ None) × (verdict_run batch n b ≡ adds replies c)
ran batch n b c replies h = of_verdict (λ v. v ≡ adds replies c → (kept_under batch.token b ≡ None) × (verdict_run batch n b ≡ adds replies c)) batch n (λ r e. cc) (λ m rs e. cc) (Some b)
    (λ d e k v. let q = some_is b d e in (ap (kept_under batch.token) q ∙ k, ap (verdict_run batch n) q ∙ v))
    h

pub ran_on : (batch : Batch) (s : VersionState) → (c : CommitsOn batch s) → (kept_under batch.token (book_of s.rows) ≡ None) × (verdict_run batch s.number (book_of s.rows) ≡ adds c.replies (book_of (version_with batch s).rows))
ran_on batch s c = ran batch s.number (book_of s.rows) (book_of (version_with batch s).rows) c.replies c.added

pub batch_commits : BatchCommits
batch_commits batch s t m q a k e l =
    let n = s.number + 1 in
    let b = book_of s.rows in
    let same : version_with batch s ≡ next_state (batch_writes batch n t) s = ap (λ r. next_state (writes_in batch n r) s) e in (
      record {
        made = m;
        replies = t.replies;
        added =
            runs batch s.number b a k
            ∙ (verdict_changes (is_query batch.ops) batch s.number b (run batch.domain batch.ops b) t None q e l
            ∙ ap (adds t.replies) (sym (ap (λ u. book_of u.rows) same ∙ book_after n (batch_writes batch n t) s.rows)));
      },
      same,
    )

-- a property of the writes of each successful run is one of the writes of a batch that commits
of_writes : (P : List RowWrite → Type 0) (query : Bool) (batch : Batch) (n : ℕ) (b c : Book) (replies : List OpReply) (r : RunResult) → verdict_when query batch n b r ≡ adds replies c → IfOk r (λ t. P (batch_writes batch (n + 1) t)) → P (writes_in batch (n + 1) r)
of_writes P query batch n b c replies (Ok t) e h = h
of_writes P query batch n b c replies (Err s) e h = cc

of_batch : (P : List RowWrite → Type 0) (batch : Batch) (s : VersionState) → CommitsOn batch s → IfOk (run batch.domain batch.ops (book_of s.rows)) (λ t. P (batch_writes batch (s.number + 1) t)) → P (writes_at batch s)
of_batch P batch s c h = of_writes P (is_query batch.ops) batch s.number (book_of s.rows) (book_of (version_with batch s).rows) c.replies (run batch.domain batch.ops (book_of s.rows)) (ran_on batch s c).1 h

-- the writes of a batch that commits find their old rows
pub writes_fit : (batch : Batch) (s : VersionState) → AscendingBook (book_of s.rows) → CommitsOn batch s → FitAll (writes_at batch s) (book_of s.rows)
writes_fit batch s a c = of_batch (λ ws. FitAll ws (book_of s.rows)) batch s c (batch_fits_book batch (s.number + 1) (book_of s.rows) a (ran_on batch s c).0)

pub ascending_next : (batch : Batch) (s : VersionState) → AscendingBook (book_of s.rows) → CommitsOn batch s → AscendingBook (book_of (version_with batch s).rows)
ascending_next batch s a c = subst AscendingBook (sym (book_after (s.number + 1) (writes_at batch s) s.rows)) (in_order (writes_at batch s) (book_of s.rows) a (writes_fit batch s a c))

-- a batch that adds a book isn't read-only
of_changes : (query : Bool) (batch : Batch) (n : ℕ) (b c : Book) (replies : List OpReply) (r : RunResult) → verdict_when query batch n b r ≡ adds replies c → query ≡ false
of_changes query batch n b c replies (Err s) e = cc
of_changes true batch n b c replies (Ok t) e = cc
of_changes false batch n b c replies (Ok t) e = refl

-- so a batch that commits doesn't read an earlier book
pub newest_read : CommitsReadLast
newest_read batch s c = changes_newest s.domain batch c.made (of_changes (is_query batch.ops) batch s.number (book_of s.rows) (book_of (version_with batch s).rows) c.replies (run batch.domain batch.ops (book_of s.rows)) (ran_on batch s c).1)

-- the verdict on a batch that doesn't read an earlier book, for a list of books whose last one is the version's
pub verdict_last : VerdictOnLast
verdict_last batch s books b p e =
    ap (λ o. verdict batch (place_of books) (book_for o books)) e
    ∙ (ap (λ n. verdict batch n (Some (last_book books))) p
    ∙ ap (λ d. verdict batch s.number (Some d)) b)

-- ---- many batches

pub follows_on : FollowsJoined
follows_on [] second s t u f g = subst (λ x. Follows x second u) (sym f) g
follows_on (batch ∷ first) second s t u f g = (f.0, follows_on first second (version_with batch s) t u f.1 g)

-- the effect on a list of books of a batch that adds a book
added_to : (books : List Book) (v : Verdict) (replies : List OpReply) (b : Book) → v ≡ adds replies b → (is_committed (reply_with (place_of books) v).outcome ≡ true) × (books_with books v ≡ books ++ b ∷ [])
added_to books v replies b e = (ap (λ v. is_committed (reply_with (place_of books) v).outcome) e, ap (books_with books) e)

pub books_follow : BooksFollow
books_follow [] older newer books l b p f =
    let n = ap (λ s. s.number) f in (tt, b ∙ ap (λ s. book_of s.rows) f, p ∙ n, omega arith)
books_follow (batch ∷ batches) older newer books l b p f =
    let c : CommitsOn batch older = f.0 in
    let next : Book = book_of (version_with batch older).rows in
    let v : verdict batch (place_of books) (book_for (past_place batch.ops) books) ≡ adds c.replies next = verdict_last batch older books b p (newest_read batch older c) ∙ c.added in
    let a = added_to books (verdict batch (place_of books) (book_for (past_place batch.ops) books)) c.replies next v in
    let n : length (books_after batch books) ≡ length books + 1 = ap length a.1 ∙ length-append books (next ∷ []) in
    let r = books_follow batches (version_with batch older) newer (books_after batch books) (omega arith) (ap last_book a.1 ∙ last-snoc empty_book books next) (omega arith) f.1 in
    let k = r.3 in
    ((a.0, r.0), r.1, r.2, omega arith)

-- ---- writes that don't hit leave the rows and their numbers unchanged

within_rows : {X : Type 0} (rows : List (CommittedRow X)) (r : CommittedRow X) → Within rows r → Within (map row_of rows) r.row
within_rows [] r w = absurd w
within_rows (x ∷ xs) r w = elim w [ inl e ↦ inl (ap row_of e) | inr v ↦ inr (within_rows xs r v) ]

passes_numbered : {X : Type 0} (p : X → Bool) (n : ℕ) (o : Option X) → passes_if_some p o ≡ false → passes_if_some (of_row p) (option_map (numbered n) o) ≡ false
passes_numbered p n None h = h
passes_numbered p n (Some x) h = h

unhit_numbered : {X : Type 0} (key : X → Bytes) (p : X → Bool) (n : ℕ) (c : RowChange X) (rows : List (CommittedRow X)) → Ascending key (map row_of rows) → FitsRows key c (map row_of rows) → passes_if_some p c.old ≡ false → passes_if_some p c.new ≡ false → filter (of_row p) rows ≡ filter (of_row p) (with_row (of_row key) c.key (option_map (numbered n) c.new) rows)
unhit_numbered key p n c rows a f old new = sym (unhit_rows (of_row key) (of_row p) c.key (option_map (numbered n) c.new) rows (ascending_rows key rows a) (λ r w e. old_fails key p c (map row_of rows) f old r.row (within_rows rows r w) e) (passes_numbered p n c.new new))

unhit_write : (m : MarkKind) (n : ℕ) (w : RowWrite) (rows : CommittedRows) → AscendingBook (book_of rows) → FitsBook w (book_of rows) → hits w m ≡ false → marked m rows ≡ marked m (rows_after_write n w rows)
unhit_write m n (wrote_entry c) rows a f h = let r = or_parts _ _ (or_parts _ _ h).1 in ap (λ es. record (marked m rows) { entries = es }) (unhit_numbered entry_key (names_entry m) n c rows.entries a.entries f r.0 r.1)
unhit_write m n (wrote_agent c) rows a f h = let r = or_parts _ _ h in ap (λ us. record (marked m rows) { agents = us }) (unhit_numbered agent_key (names_agent m) n c rows.agents a.agents f r.0 r.1)
unhit_write m n (wrote_bundle c) rows a f h = let r = or_parts _ _ h in ap (λ ds. record (marked m rows) { bundles = ds }) (unhit_numbered bundle_key (names_bundle m) n c rows.bundles a.bundles f r.0 r.1)
unhit_write m n (wrote_token c) rows a f h = let r = or_parts _ _ h in ap (λ ks. record (marked m rows) { tokens = ks }) (unhit_numbered token_key (names_token m) n c rows.tokens a.tokens f r.0 r.1)

unhit_writes : (m : MarkKind) (n : ℕ) (ws : List RowWrite) (rows : CommittedRows) → AscendingBook (book_of rows) → FitAll ws (book_of rows) → list_any (λ w. hits w m) ws ≡ false → marked m rows ≡ marked m (rows_after n ws rows)
unhit_writes m n [] rows a f h = refl
unhit_writes m n (w ∷ ws) rows a f h =
    let r = or_parts (hits w m) (list_any (λ w. hits w m) ws) h in
    let e : after_write w (book_of rows) ≡ book_of (rows_after_write n w rows) = sym (book_after_write n w rows) in
    unhit_write m n w rows a f.0 r.0
    ∙ unhit_writes m n ws (rows_after_write n w rows) (subst AscendingBook e (in_order (w ∷ []) (book_of rows) a (f.0, tt))) (subst (FitAll ws) e f.1) r.1

pub unhit_history : UnhitHistory
unhit_history m [] older newer a f h = ap (λ s. marked m s.rows) f
unhit_history m (batch ∷ batches) older newer a f h =
    let r = or_parts (list_any (λ w. hits w m) (writes_at batch older)) (any_hits m (version_with batch older) batches) h in
    unhit_writes m (older.number + 1) (writes_at batch older) older.rows a (writes_fit batch older a f.0) r.0
    ∙ unhit_history m batches (version_with batch older) newer (ascending_next batch older a f.0) f.1 r.1

-- ---- what is unchanged along a history

pub domain_is_unchanged : DomainIsUnchanged
domain_is_unchanged [] older newer f = (ap (λ s. s.domain) (sym f), tt)
domain_is_unchanged (batch ∷ batches) older newer f = let r = domain_is_unchanged batches (version_with batch older) newer f.1 in (r.0, (f.0.made, r.1))

-- a book that was added passes no limit
added_within : (limit : Option Limit) (replies others : List OpReply) (b c : Book) → adds_within limit replies b ≡ adds others c → (limit ≡ None) × (b ≡ c)
added_within None replies others b c e = (refl, cc)
added_within (Some l) replies others b c e = cc

run_within : (query : Bool) (batch : Batch) (n : ℕ) (b c : Book) (replies : List OpReply) (r : RunResult) → verdict_when query batch n b r ≡ adds replies c → IsWithinLimits c
run_within query batch n b c replies (Err s) e = cc
run_within true batch n b c replies (Ok t) e = cc
run_within false batch n b c replies (Ok t) e =
    let d : Book = after (batch_writes batch (n + 1) t) b in
    let w = added_within (limit_passed n d) t.replies replies d c e in
    subst IsWithinLimits w.1 ((none_is_passed n d).0 w.0).1

pub limits_follow : LimitsFollow
limits_follow [] older newer w f = subst (λ s. IsWithinLimits (book_of s.rows)) f w
limits_follow (batch ∷ batches) older newer w f =
    limits_follow batches (version_with batch older) newer (run_within (is_query batch.ops) batch older.number (book_of older.rows) (book_of (version_with batch older).rows) f.0.replies (run batch.domain batch.ops (book_of older.rows)) (ran_on batch older f.0).1) f.1
