-- Setting the place of a stored batch changes only the batch's writes of it, and no mark depends on it.
use Rattle.std.proofs.Common.{◌≡◌, ℕ, Bool, true, false, List, [], ◌∷◌, ◌++◌, Option, Some, None, Ok, Err, refl, ap, ◌∙◌, IfOk}
use Rattle.std.specs.Prelude.{◌||◌, map, option_map}
use Rattle.std.specs.List.{list_any}
use Rattle.std.proofs.lemmas.Bool.{or_parts}
use Rattle.entry_book.specs.declared.kept.KeptBatch.{KeptBatch}
use Rattle.entry_book.specs.declared.op.Op.{Op}
use Rattle.entry_book.specs.declared.op.Op.TheVariants.{Prune, DropBundle}
use Rattle.entry_book.specs.declared.reply.OpReply.{OpReply}
use Rattle.entry_book.specs.Rows.{Bytes, Entry}
use Rattle.entry_book.specs.Book.{Book, users_of, expired_before}
use Rattle.entry_book.specs.Writes.{RowWrite, wrote_token, after}
use Rattle.entry_book.specs.NamedRows.{RowName, entry_of, agent_of, bundle_of, token_of, row_written, entry_name, rows_named}
use Rattle.entry_book.specs.Ops.{OpEffect, OpResult, op_of}
use Rattle.entry_book.specs.Runs.{RunResult, onto, then_run, run}
use Rattle.entry_book.specs.Batches.{Batch}
use Rattle.entry_book.specs.History.{batch_writes, token_writes}
use Rattle.entry_book.proofs.NamedRows.{writes_named}
use Rattle.version_book.specs.declared.mark.MarkKind.{MarkKind}
use Rattle.version_book.specs.Marks.{hits, names_token, passes_if_some}
use Rattle.version_book.specs.Laws.{HitsAtAnyPlace, PlacesPut}
use Rattle.version_book.specs.Written.{at_place, placed, placed_write}

-- ---- no mark depends on a place

passes_at_place : (m : MarkKind) (n : ℕ) (new : Option KeptBatch) → passes_if_some (names_token m) (option_map (at_place n) new) ≡ passes_if_some (names_token m) new
passes_at_place m n None = refl
passes_at_place m n (Some k) = refl

write_hits : (n : ℕ) (w : RowWrite) (m : MarkKind) → hits (placed_write n w) m ≡ hits w m
write_hits n (wrote_token c) m = ap (λ b. passes_if_some (names_token m) c.old || b) (passes_at_place m n c.new)
write_hits n w m = refl

pub hits_at_any_place : HitsAtAnyPlace
hits_at_any_place n [] m = refl
hits_at_any_place n (w ∷ ws) m = let here = write_hits n w m in let rest = hits_at_any_place n ws m in λ i. here i || rest i

-- ---- operations don't write a token's row

abbrev pub Unplaced : List RowWrite → Type 0
Unplaced ws = (n : ℕ) → placed n ws ≡ ws

pub placed_append : (n : ℕ) (vs ws : List RowWrite) → placed n (vs ++ ws) ≡ placed n vs ++ placed n ws
placed_append n [] ws = refl
placed_append n (v ∷ vs) ws = ap (λ l. placed_write n v ∷ l) (placed_append n vs ws)

unplaced_append : (vs ws : List RowWrite) → Unplaced vs → Unplaced ws → Unplaced (vs ++ ws)
unplaced_append vs ws h k = λ n. let one = h n in let two = k n in placed_append n vs ws ∙ (λ i. one i ++ two i)

-- whether the row is that of a token
abbrev is_token : RowName → Bool
is_token (entry_of id) = false
is_token (agent_of id) = false
is_token (bundle_of domain) = false
is_token (token_of token) = true

entries_alone : (es : List Entry) → list_any is_token (map entry_name es) ≡ false
entries_alone [] = refl
entries_alone (e ∷ es) = entries_alone es

then_bundle : (es : List Entry) (domain : Bytes) → list_any is_token (map entry_name es ++ bundle_of domain ∷ []) ≡ false
then_bundle [] domain = refl
then_bundle (e ∷ es) domain = then_bundle es domain

names_no_token : (op : Op) (b : Book) → list_any is_token (rows_named op b) ≡ false
names_no_token (Prune moment) b = entries_alone (expired_before moment b)
names_no_token (DropBundle domain mode) b = then_bundle (users_of domain b) domain
names_no_token op b = refl

write_unplaced : (w : RowWrite) → is_token (row_written w) ≡ false → Unplaced (w ∷ [])
write_unplaced (wrote_token c) h = λ n. cc
write_unplaced w h = λ n. refl

all_unplaced : (ws : List RowWrite) → list_any is_token (map row_written ws) ≡ false → Unplaced ws
all_unplaced [] h = λ n. refl
all_unplaced (w ∷ ws) h = let r = or_parts (is_token (row_written w)) (list_any is_token (map row_written ws)) h in unplaced_append (w ∷ []) ws (write_unplaced w r.0) (all_unplaced ws r.1)

-- an operation writes the rows that it names
op_unplaced : (op : Op) (b : Book) (o : OpResult) → IfOk o (λ d. map row_written d.writes ≡ rows_named op b) → IfOk o (λ d. Unplaced d.writes)
op_unplaced op b (Ok d) h = all_unplaced d.writes (ap (list_any is_token) h ∙ names_no_token op b)
op_unplaced op b (Err r) h = tt

onto_unplaced : (d : OpEffect) (r : RunResult) → Unplaced d.writes → IfOk r (λ t. Unplaced t.writes) → IfOk (onto d r) (λ t. Unplaced t.writes)
onto_unplaced d (Ok t) h k = unplaced_append d.writes t.writes h k
onto_unplaced d (Err s) h k = tt

then_unplaced : (o : OpResult) (f : OpEffect → RunResult) → IfOk o (λ d. Unplaced d.writes) → ((d : OpEffect) → IfOk (f d) (λ t. Unplaced t.writes)) → IfOk (then_run o f) (λ t. Unplaced t.writes)
then_unplaced (Ok d) f h k = onto_unplaced d (f d) h (k d)
then_unplaced (Err r) f h k = tt

pub run_unplaced : (own_domain : Bytes) (ops : List Op) (b : Book) → IfOk (run own_domain ops b) (λ t. Unplaced t.writes)
run_unplaced own_domain [] b = λ n. refl
run_unplaced own_domain (op ∷ ops) b = then_unplaced (op_of own_domain op b) (λ d. run own_domain ops (after d.writes b)) (op_unplaced op b (op_of own_domain op b) (writes_named own_domain op b)) (λ d. run_unplaced own_domain ops (after d.writes b))

-- ---- the writes of a batch

pub token_placed : (token : Option Bytes) (ops : List Op) (m n : ℕ) (replies : List OpReply) → placed n (token_writes token ops m replies) ≡ token_writes token ops n replies
token_placed None ops m n replies = refl
token_placed (Some k) ops m n replies = refl

all_placed : (batch : Batch) (m n : ℕ) (r : RunResult) → IfOk r (λ t. Unplaced t.writes) → IfOk r (λ t. placed n (batch_writes batch m t) ≡ batch_writes batch n t)
all_placed batch m n (Ok t) h =
    let own_domain = h n in
    let token = token_placed batch.token batch.ops m n t.replies in
    placed_append n t.writes (token_writes batch.token batch.ops m t.replies) ∙ (λ i. own_domain i ++ token i)
all_placed batch m n (Err s) h = tt

pub places_put : PlacesPut
places_put batch b m n = all_placed batch m n (run batch.domain batch.ops b) (run_unplaced batch.domain batch.ops b)
