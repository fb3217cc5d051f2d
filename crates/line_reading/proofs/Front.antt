-- What was read so far, before the rest that is still to be read.
use Rattle.std.proofs.Common.{◌≡◌, ℕ, List, [], ◌∷◌, ◌++◌, Result, Ok, Err, refl, sym, ap, ◌∙◌, append_assoc, ◌<◌, ◌≤◌, ◌+◌, length, get_or, drop}
use Rattle.std.proofs.lemmas.List.{at_drop_more, at_drop_all, append-nil}
use Rattle.rand_chacha.specs.ChaCha.{ChaCha}
use Rattle.serde_json.specs.Data.{Data, Items, no_items, item}
use Rattle.serde_json.specs.View.{view, items_view}
use Rattle.serde_json.specs.declared.value.Value.{Value}
use Rattle.spiffe_name.specs.declared.refusals.Failure.{Failure}
use Rattle.spiffe_name.specs.declared.refusals.Failure.TheVariants.{NoMemory, Refused}
use Rattle.entry_book.specs.declared.op.Op.{Op}
use Rattle.line_reading.specs.declared.fault.Fault.{Fault}
use Rattle.line_reading.specs.declared.ids.MissingId.{MissingId}
use Rattle.line_reading.specs.Fields.{Fails, ◌>>=◌}
use Rattle.line_reading.specs.Operations.{at_op, op_in, ops_in}

-- ---- a list of names, whose items `one` reads

abbrev pub with_front : {A : Type 0} → List A → Result (List A) Fault → Result (List A) Fault
with_front front read = read >>= (λ xs. Ok (front ++ xs))

pub with_front-nil : {A : Type 0} (read : Result (List A) Fault) → with_front [] read ≡ read
with_front-nil (Ok xs) = refl
with_front-nil (Err e) = refl

with_front-more : {A : Type 0} (front : List A) (x : A) (read : Result (List A) Fault) → with_front front (read >>= (λ xs. Ok (x ∷ xs))) ≡ with_front (front ++ x ∷ []) read
with_front-more front x (Ok xs) = ap (λ l. Ok l) (sym (append_assoc front (x ∷ []) xs))
with_front-more front x (Err e) = refl

module _ {X : Type 0} (one : Data → Result X Fault) (all : Items → Result (List X) Fault) (end : all no_items ≡ Ok []) (step : (d : Data) (ds : Items) → all (item d ds) ≡ (one d >>= (λ x. all ds >>= (λ xs. Ok (x ∷ xs))))) where
  items_in-next : (vs : List Value) (i : ℕ) (v : Value) → i < length vs → v ≡ get_or vs i v
      → all (items_view (drop i vs)) ≡ (one (view v) >>= (λ x. all (items_view (drop (i + 1) vs)) >>= (λ xs. Ok (x ∷ xs))))
  items_in-next vs i v l e = at_drop_more (λ ws. all (items_view ws)) vs i v l ∙ (ap (λ w. all (items_view (w ∷ drop (i + 1) vs))) (sym e) ∙ step (view v) (items_view (drop (i + 1) vs)))

  pub items_in-more : (vs : List Value) (i : ℕ) (v : Value) (front new : List X) (x : X) → i < length vs → v ≡ get_or vs i v → one (view v) ≡ Ok x → new ≡ front ++ x ∷ []
      → with_front front (all (items_view (drop i vs))) ≡ with_front new (all (items_view (drop (i + 1) vs)))
  items_in-more vs i v front new x l e a n =
      ap (with_front front) (items_in-next vs i v l e ∙ ap (λ r. r >>= (λ x. all (items_view (drop (i + 1) vs)) >>= (λ xs. Ok (x ∷ xs)))) a)
      ∙ (with_front-more front x (all (items_view (drop (i + 1) vs)))
      ∙ ap (λ l. with_front l (all (items_view (drop (i + 1) vs)))) (sym n))

  items_in-stop : (vs : List Value) (i : ℕ) (v : Value) (front : List X) (f : Fault) → i < length vs → v ≡ get_or vs i v → one (view v) ≡ Err f
      → with_front front (all (items_view (drop i vs))) ≡ Err f
  items_in-stop vs i v front f l e a = ap (with_front front) (items_in-next vs i v l e ∙ ap (λ r. r >>= (λ x. all (items_view (drop (i + 1) vs)) >>= (λ xs. Ok (x ∷ xs)))) a)

  -- a fault in the loop is the fault of the whole list
  pub items_in-refused : (vs : List Value) (i : ℕ) (v : Value) (front : List X) (e : Failure Fault) (whole : Result (List X) Fault) → i < length vs → v ≡ get_or vs i v → Fails e (one (view v))
      → with_front front (all (items_view (drop i vs))) ≡ whole → Fails e whole
  items_in-refused vs i v front NoMemory whole l e f k = tt
  items_in-refused vs i v front (Refused r) whole l e f k = sym k ∙ items_in-stop vs i v front r l e f

  pub items_in-all : (vs : List Value) (i : ℕ) (front : List X) → length vs ≤ i → with_front front (all (items_view (drop i vs))) ≡ Ok front
  items_in-all vs i front l = ap (with_front front) (at_drop_all (λ ws. all (items_view ws)) vs i l ∙ end) ∙ ap (λ l. Ok l) (append-nil front)

-- ---- operations, with the ids that they leave

abbrev pub with_ops : List Op → Result (List Op × ChaCha) Fault → Result (List Op × ChaCha) Fault
with_ops front read = read >>= (λ r. Ok (front ++ r.0, r.1))

pub with_ops-nil : (read : Result (List Op × ChaCha) Fault) → with_ops [] read ≡ read
with_ops-nil (Ok r) = refl
with_ops-nil (Err e) = refl

with_ops-more : (front : List Op) (op : Op) (read : Result (List Op × ChaCha) Fault) → with_ops front (read >>= (λ r. Ok (op ∷ r.0, r.1))) ≡ with_ops (front ++ op ∷ []) read
with_ops-more front op (Ok r) = ap (λ l. Ok (l, r.1)) (sym (append_assoc front (op ∷ []) r.0))
with_ops-more front op (Err e) = refl

-- creates without an id are treated the same in all operations
module _ (missing : MissingId) where
  -- the operations from this one on
  abbrev ops_from : ℕ → List Value → Result (Op × ChaCha) Fault → Result (List Op × ChaCha) Fault
  ops_from i vs read = read >>= (λ o. ops_in (i + 1) missing o.1 (items_view (drop (i + 1) vs)) >>= (λ r. Ok (o.0 ∷ r.0, r.1)))

  ops_in-next : (vs : List Value) (i : ℕ) (ids : ChaCha) (v : Value) → i < length vs → v ≡ get_or vs i v
      → ops_in i missing ids (items_view (drop i vs)) ≡ ops_from i vs (at_op i (op_in missing ids (view v)))
  ops_in-next vs i ids v l e = at_drop_more (λ ws. ops_in i missing ids (items_view ws)) vs i v l ∙ ap (λ w. ops_in i missing ids (items_view (w ∷ drop (i + 1) vs))) (sym e)

  pub ops_in-more : (vs : List Value) (i : ℕ) (ids after : ChaCha) (v : Value) (front new : List Op) (op : Op) → i < length vs → v ≡ get_or vs i v → at_op i (op_in missing ids (view v)) ≡ Ok (op, after) → new ≡ front ++ op ∷ []
      → with_ops front (ops_in i missing ids (items_view (drop i vs))) ≡ with_ops new (ops_in (i + 1) missing after (items_view (drop (i + 1) vs)))
  ops_in-more vs i ids after v front new op l e a n =
      ap (with_ops front) (ops_in-next vs i ids v l e ∙ ap (ops_from i vs) a)
      ∙ (with_ops-more front op (ops_in (i + 1) missing after (items_view (drop (i + 1) vs)))
      ∙ ap (λ l. with_ops l (ops_in (i + 1) missing after (items_view (drop (i + 1) vs)))) (sym n))

  ops_in-stop : (vs : List Value) (i : ℕ) (ids : ChaCha) (v : Value) (front : List Op) (f : Fault) → i < length vs → v ≡ get_or vs i v → at_op i (op_in missing ids (view v)) ≡ Err f
      → with_ops front (ops_in i missing ids (items_view (drop i vs))) ≡ Err f
  ops_in-stop vs i ids v front f l e a = ap (with_ops front) (ops_in-next vs i ids v l e ∙ ap (ops_from i vs) a)

  pub ops_in-refused : (vs : List Value) (i : ℕ) (ids : ChaCha) (v : Value) (front : List Op) (e : Failure Fault) (whole : Result (List Op × ChaCha) Fault) → i < length vs → v ≡ get_or vs i v → Fails e (at_op i (op_in missing ids (view v)))
      → with_ops front (ops_in i missing ids (items_view (drop i vs))) ≡ whole → Fails e whole
  ops_in-refused vs i ids v front NoMemory whole l e f k = tt
  ops_in-refused vs i ids v front (Refused r) whole l e f k = sym k ∙ ops_in-stop vs i ids v front r l e f

  pub ops_in-all : (vs : List Value) (i : ℕ) (ids : ChaCha) (front : List Op) → length vs ≤ i → with_ops front (ops_in i missing ids (items_view (drop i vs))) ≡ Ok (front, ids)
  ops_in-all vs i ids front l = ap (with_ops front) (at_drop_all (λ ws. ops_in i missing ids (items_view ws)) vs i l) ∙ ap (λ l. Ok (l, ids)) (append-nil front)
