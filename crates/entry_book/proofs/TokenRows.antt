-- The effect of a batch's writes on the rows of tokens: those of its operations don't change them, and the last one adds a row.
use Rattle.std.proofs.Common.{◌≡◌, ℕ, ◌*◌, ◌<◌, ◌≤◌, Bool, true, List, [], ◌∷◌, ◌++◌, Option, Some, None, Ok, Err, length, refl, sym, ap, subst, ◌∙◌, IfSome, IfOk}
use Rattle.std.specs.Prelude.{filter, map, bytes_eq}
use Rattle.entry_book.specs.declared.kept.KeptBatch.{KeptBatch}
use Rattle.entry_book.specs.declared.op.Op.{Op}
use Rattle.entry_book.specs.declared.op.Op.TheVariants.{Prune, DropBundle}
use Rattle.entry_book.specs.declared.reply.OpReply.{OpReply}
use Rattle.entry_book.specs.Rows.{Bytes, Entry}
use Rattle.entry_book.specs.Tokens.{token_key}
use Rattle.entry_book.specs.Order.{Ascending, first, with_row}
use Rattle.entry_book.specs.Book.{Book, AscendingBook, token_at, users_of, expired_before}
use Rattle.entry_book.specs.Writes.{RowWrite, wrote_entry, wrote_agent, wrote_bundle, wrote_token, FitAll, after, after_write}
use Rattle.entry_book.specs.NamedRows.{bundle_of, token_of, row_written, entry_name, rows_named}
use Rattle.entry_book.specs.Ops.{OpEffect, OpResult, bundle_removed, op_of}
use Rattle.entry_book.specs.Runs.{RunEffect, RunResult, onto, then_run, run}
use Rattle.entry_book.specs.Batches.{Batch, IsMadeFor, batch_refusal}
use Rattle.entry_book.specs.History.{batch_writes, kept_under, token_writes}
use Rattle.entry_book.specs.Lawful.{Lawful}
use Rattle.entry_book.proofs.Changed.{after-append, fit-append, rewritten}
use Rattle.entry_book.proofs.Filters.{kept, filter-with_row}
use Rattle.entry_book.proofs.Keys.{first_none}
use Rattle.entry_book.proofs.LawfulRows.{lawful_kept}
use Rattle.entry_book.proofs.Once.{rows_elsewhere}
use Rattle.entry_book.proofs.Runs.{run_fits}
use Rattle.entry_book.proofs.Shapes.{Shape, nothing, one_row, entries, entries_then, by_shape}
use Rattle.entry_book.proofs.Sets.{text_same}

-- ---- operations write no row of a token

abbrev Leaves : List RowWrite → Type 0
Leaves ws = (b : Book) → (after ws b).tokens ≡ b.tokens

leaves_more : (w : RowWrite) (ws : List RowWrite) → ((b : Book) → (after_write w b).tokens ≡ b.tokens) → Leaves ws → Leaves (w ∷ ws)
leaves_more w ws h k = λ b. k (after_write w b) ∙ h b

leaves_append : (vs ws : List RowWrite) → Leaves vs → Leaves ws → Leaves (vs ++ ws)
leaves_append vs ws h k = λ b. ap (λ x. x.tokens) (after-append vs ws b) ∙ (k (after vs b) ∙ h b)

not_entries : (k : Bytes) (es : List Entry) → map entry_name es ≡ token_of k ∷ [] → ⊥
not_entries k [] h = cc
not_entries k (e ∷ es) h = cc

not_bundle : (k : Bytes) (es : List Entry) (d : Bytes) → map entry_name es ++ bundle_of d ∷ [] ≡ token_of k ∷ [] → ⊥
not_bundle k [] d h = cc
not_bundle k (e ∷ es) d h = cc

names_no_token : (op : Op) (b : Book) (k : Bytes) → rows_named op b ≡ token_of k ∷ [] → ⊥
names_no_token (Prune moment) b k h = not_entries k (expired_before moment b) h
names_no_token (DropBundle domain mode) b k h = not_bundle k (users_of domain b) domain h
names_no_token op b k h = cc

row_leaves : (op : Op) (b : Book) (w : RowWrite) → rows_named op b ≡ row_written w ∷ [] → Leaves (w ∷ [])
row_leaves op b (wrote_entry c) n = λ x. refl
row_leaves op b (wrote_agent c) n = λ x. refl
row_leaves op b (wrote_bundle c) n = λ x. refl
row_leaves op b (wrote_token c) n = absurd (names_no_token op b c.key n)

rewritten_leaves : (f : Entry → Option Entry) (es : List Entry) → Leaves (map (rewritten f) es)
rewritten_leaves f [] = λ b. refl
rewritten_leaves f (e ∷ es) = leaves_more (rewritten f e) (map (rewritten f) es) (λ b. refl) (rewritten_leaves f es)

along : (vs ws : List RowWrite) → vs ≡ ws → Leaves ws → Leaves vs
along vs ws e h = λ b. ap (λ l. (after l b).tokens) e ∙ h b

shape_leaves : (op : Op) (b : Book) (d : OpEffect) → Shape op b d → Leaves d.writes
shape_leaves op b d (nothing h n) = along d.writes [] h (λ x. refl)
shape_leaves op b d (one_row w f h n) = along d.writes (w ∷ []) h (row_leaves op b w n)
shape_leaves op b d (entries f k p h n) = along d.writes _ h (rewritten_leaves f (filter p b.entries))
shape_leaves op b d (entries_then f k p x w h n) = along d.writes _ h (leaves_append (map (rewritten f) (filter p b.entries)) (bundle_removed x ∷ []) (rewritten_leaves f (filter p b.entries)) (λ y. refl))

onto_leaves : (d : OpEffect) (r : RunResult) → Leaves d.writes → IfOk r (λ t. Leaves t.writes) → IfOk (onto d r) (λ t. Leaves t.writes)
onto_leaves d (Ok t) h k = leaves_append d.writes t.writes h k
onto_leaves d (Err s) h k = tt

then_leaves : (o : OpResult) (f : OpEffect → RunResult) → IfOk o (λ d. Leaves d.writes) → ((d : OpEffect) → IfOk (f d) (λ t. Leaves t.writes)) → IfOk (then_run o f) (λ t. Leaves t.writes)
then_leaves (Ok d) f h k = onto_leaves d (f d) h (k d)
then_leaves (Err r) f h k = tt

pub run_leaves : (own_domain : Bytes) (ops : List Op) (b : Book) → IfOk (run own_domain ops b) (λ t. (x : Book) → (after t.writes x).tokens ≡ x.tokens)
run_leaves own_domain [] b = λ x. refl
run_leaves own_domain (op ∷ ops) b = then_leaves (op_of own_domain op b) (λ d. run own_domain ops (after d.writes b)) (by_shape own_domain op b (λ d. Leaves d.writes) (λ d s. shape_leaves op b d s)) (λ d. run_leaves own_domain ops (after d.writes b))

-- ---- the row of a batch's token

token_none : (k : Bytes) (rows : List KeptBatch) → first (filter (λ r. bytes_eq r.token k) rows) ≡ None → filter (λ r. bytes_eq r.token k) rows ≡ []
token_none k rows h = first_none token_key (filter (λ r. bytes_eq r.token k) rows) h

token_fits : (token : Option Bytes) (ops : List Op) (n : ℕ) (replies : List OpReply) (b c : Book) → kept_under token b ≡ None → c.tokens ≡ b.tokens → FitAll (token_writes token ops n replies) c
token_fits None ops n replies b c h e = tt
token_fits (Some k) ops n replies b c h e = (record { found = ap (filter (λ r. bytes_eq r.token k)) e ∙ token_none k b.tokens h; keyed = refl }, tt)

fits_in : (batch : Batch) (n : ℕ) (b : Book) (r : RunResult) → kept_under batch.token b ≡ None → IfOk r (λ t. (x : Book) → (after t.writes x).tokens ≡ x.tokens) → IfOk r (λ t. FitAll t.writes b) → IfOk r (λ t. FitAll (batch_writes batch n t) b)
fits_in batch n b (Ok t) h l f = fit-append t.writes (token_writes batch.token batch.ops n t.replies) b f (token_fits batch.token batch.ops n t.replies b (after t.writes b) h (l b))
fits_in batch n b (Err s) h l f = tt

-- the writes of a batch without a row for its token find the rows that they name
pub batch_fits : (batch : Batch) (n : ℕ) (b : Book) → kept_under batch.token b ≡ None → IfOk (run batch.domain batch.ops b) (λ t. FitAll t.writes b) → IfOk (run batch.domain batch.ops b) (λ t. FitAll (batch_writes batch n t) b)
batch_fits batch n b h f = fits_in batch n b (run batch.domain batch.ops b) h (run_leaves batch.domain batch.ops b) f

-- ---- it keeps a book lawful

-- what is stored for a batch that was made for a trust domain was made for it
kept_made : (own_domain k : Bytes) (batch : Batch) → IsMadeFor own_domain batch → batch.token ≡ Some k → IsMadeFor own_domain (record { domain = own_domain; ops = batch.ops; after = 0; token = Some k })
kept_made own_domain k batch m e = record {
  domain_is = refl;
  no_fault = subst (λ d. batch_refusal d batch.ops (Some k) ≡ None) m.domain_is (subst (λ t. batch_refusal batch.domain batch.ops t ≡ None) e m.no_fault);
  proper = m.proper;
  token = subst (λ t. IfSome t (λ k. length k ≡ 16)) e m.token;
}

token_keeps : (own_domain : Bytes) (m n : ℕ) (batch : Batch) (token : Option Bytes) (replies : List OpReply) (b : Book) → IsMadeFor own_domain batch → batch.token ≡ token → 0 < n → 64 * n ≤ m → Lawful own_domain m b → Lawful own_domain m (after (token_writes token batch.ops n replies) b)
token_keeps own_domain m n batch None replies b d e s h l = l
token_keeps own_domain m n batch (Some k) replies b d e s h l = lawful_kept own_domain m b l k None (record { token = k; ops = batch.ops; place = n; replies = replies }) (record { keyed = refl; made = kept_made own_domain k batch d e; some = s; low = h })

pub writes_keep : (own_domain : Bytes) (m n : ℕ) (batch : Batch) (t : RunEffect) (b : Book) → IsMadeFor own_domain batch → 0 < n → 64 * n ≤ m → Lawful own_domain m (after t.writes b) → Lawful own_domain m (after (batch_writes batch n t) b)
writes_keep own_domain m n batch t b d s h l = subst (Lawful own_domain m) (sym (after-append t.writes (token_writes batch.token batch.ops n t.replies) b)) (token_keeps own_domain m n batch batch.token t.replies (after t.writes b) d refl s h l)

-- ---- what is stored after a batch

found_new : (k : Bytes) (r : KeptBatch) (rows : List KeptBatch) → r.token ≡ k → filter (λ x. bytes_eq x.token k) rows ≡ [] → first (filter (λ x. bytes_eq x.token k) (with_row token_key k (Some r) rows)) ≡ Some r
unfolding with_row
found_new k r rows e h =
    let p : KeptBatch → Bool = λ x. bytes_eq x.token k in
    let t : p r ≡ true = text_same r.token k e in
    ap first (filter-with_row token_key p k (Some r) rows ∙ (ap (with_row token_key k (kept p (Some r))) h)) ∙ rw t refl

-- a batch that commits stores its row
pub row_kept : (batch : Batch) (k : Bytes) (n : ℕ) (t : RunEffect) (b : Book) → batch.token ≡ Some k → token_at k b ≡ None → ((x : Book) → (after t.writes x).tokens ≡ x.tokens) → token_at k (after (batch_writes batch n t) b) ≡ Some (record { token = k; ops = batch.ops; place = n; replies = t.replies })
row_kept batch k n t b e h l =
    let r : KeptBatch = record { token = k; ops = batch.ops; place = n; replies = t.replies } in
    ap (λ x. token_at k (after (t.writes ++ token_writes x batch.ops n t.replies) b)) e
    ∙ (ap (token_at k) (after-append t.writes (token_writes (Some k) batch.ops n t.replies) b)
    ∙ found_new k r (after t.writes b).tokens refl (ap (filter (λ x. bytes_eq x.token k)) (l b) ∙ token_none k b.tokens h))

-- the row of another token stays
unless_similar_unchanged : (token : Option Bytes) (j : Bytes) (ops : List Op) (n : ℕ) (replies : List OpReply) (b : Book) → Ascending token_key b.tokens → (token ≡ Some j → ⊥) → token_at j (after (token_writes token ops n replies) b) ≡ token_at j b
unless_similar_unchanged None j ops n replies b a h = refl
unless_similar_unchanged (Some k) j ops n replies b a h = ap first (rows_elsewhere token_key k j (Some (record { token = k; ops = ops; place = n; replies = replies })) b.tokens (λ e. h (ap Some e)) refl a)

pub others_stay : (batch : Batch) (j : Bytes) (n : ℕ) (t : RunEffect) (b : Book) → AscendingBook (after t.writes b) → (batch.token ≡ Some j → ⊥) → ((x : Book) → (after t.writes x).tokens ≡ x.tokens) → token_at j (after (batch_writes batch n t) b) ≡ token_at j b
others_stay batch j n t b a h l =
    ap (token_at j) (after-append t.writes (token_writes batch.token batch.ops n t.replies) b)
    ∙ (unless_similar_unchanged batch.token j batch.ops n t.replies (after t.writes b) a.tokens h
    ∙ ap (λ rows. first (filter (λ x. bytes_eq x.token j) rows)) (l b))

first_part : (P Q : RunEffect → Type 0) (r : RunResult) → IfOk r (λ t. P t × Q t) → IfOk r P
first_part P Q (Ok t) h = h.0
first_part P Q (Err s) h = tt

pub batch_fits_book : (batch : Batch) (n : ℕ) (b : Book) → AscendingBook b → kept_under batch.token b ≡ None → IfOk (run batch.domain batch.ops b) (λ t. FitAll (batch_writes batch n t) b)
batch_fits_book batch n b a h = batch_fits batch n b h (first_part (λ t. FitAll t.writes b) (λ t. AscendingBook (after t.writes b)) (run batch.domain batch.ops b) (run_fits batch.domain batch.ops b a))
