-- The printed value of a batch, and of a record, parses to that batch or record.
use Rattle.std.proofs.Common.{◌≡◌, ℕ, List, [], ◌∷◌, map, Option, None, Some, Ok, refl, ap, ◌∙◌}
use Rattle.std.specs.Prelude.{◌+◌, codes, option_map, IfSome}
use Rattle.std.specs.List.{AllByRecursion}
use Rattle.serde_json.specs.Data.{Data, object, Members}
use Rattle.serde_json.specs.Find.{get, as_object}
use Rattle.serde_json.specs.View.{items_of}
use Rattle.rand_chacha.specs.ChaCha.{ChaCha}
use Rattle.entry_book.specs.Batches.{Batch, batch_refusal}
use Rattle.entry_book.specs.declared.op.Op.{Op}
use Rattle.entry_book.specs.declared.reply.ReplyOutcome.{ReplyOutcome}
use Rattle.entry_book.specs.declared.reply.ReplyOutcome.TheVariants as outcome
use Rattle.entry_book.specs.declared.reply.Reply.{Reply}
use Rattle.line_reading.specs.declared.fault.Key.{Key}
use Rattle.line_reading.specs.declared.fault.Key.TheVariants as key
use Rattle.line_reading.specs.declared.ids.MissingId.{MissingId}
use Rattle.line_reading.specs.Batches.{items_at, listed_in}
use Rattle.line_reading.specs.Codes.{key_name}
use Rattle.line_reading.specs.Fields.{◌>>=◌, number_at, number_in, no_others, optional, required, unless_null}
use Rattle.line_reading.specs.Operations.{ops_in}
use Rattle.reg_lines.specs.ReadBack.{BatchesReadBack, IsUuid, IsWrittenOp, RecordsReadBack}
use Rattle.line_reading.specs.Records.{number_or_null_at, object_at, record_in, recorded_batch_in}
use Rattle.reg_lines.specs.RecordValues.{batch_data, op_data}
use Rattle.reg_lines.specs.Values.{list_data, option_data, outcome_data, reply_data, uuid_data, whole}
use Rattle.reg_lines.proofs.ReadBack.{Due, found, members_due, number-back, optional_number-back, optional_uuid-back, or_none}
use Rattle.reg_lines.proofs.ReadBackOps.{next-due, next-put, only, op-back}

-- ---- operations, one after another

pub ops-back : (n : ℕ) (m : MissingId) (ids : ChaCha) (os : List Op) → AllByRecursion IsWrittenOp os → ops_in n m ids (items_of (map op_data os)) ≡ Ok (os, ids)
ops-back n m ids [] h = refl
ops-back n m ids (o ∷ os) h = rw (op-back o m ids h.0) (rw (ops-back (n + 1) m ids os h.1) refl)

-- ---- a batch

abbrev batch_keys : List Key
batch_keys = key.Ops ∷ key.After ∷ key.Token ∷ []

abbrev pub batch_due : Batch → List Due
batch_due batch =
    (codes "after", Some (whole batch.after))
    ∷ (codes "ops", Some (list_data op_data batch.ops))
    ∷ (codes "token", option_map uuid_data batch.token)
    ∷ []

pub batch-due : (batch : Batch) → batch_data batch ≡ object (members_due (batch_due batch))
batch-due batch =
    ap object (
    next-put (codes "after") (whole batch.after) _ _ (
    next-put (codes "ops") (list_data op_data batch.ops) _ _ (
    next-due (codes "token") uuid_data batch.token _ _ refl)))

pub listed-back : (d : Data) (batch : Batch) → get (key_name key.Ops) d ≡ Some (list_data op_data batch.ops) → get (key_name key.After) d ≡ Some (whole batch.after) → get (key_name key.Token) d ≡ option_map uuid_data batch.token → IfSome batch.token IsUuid → listed_in d ≡ Ok (record { items = items_of (map op_data batch.ops); after = batch.after; token = batch.token })
unfolding listed_in items_at
listed-back d batch o a t h = rw o (rw (optional_number-back key.After d (Some batch.after) a) (rw (optional_uuid-back key.Token d batch.token t h) refl))

recorded-back : (d : Data) (ms : Members) (batch : Batch) → listed_in d ≡ Ok (record { items = items_of (map op_data batch.ops); after = batch.after; token = batch.token }) → no_others batch_keys ms ≡ Ok tt → AllByRecursion IsWrittenOp batch.ops → batch_refusal batch.domain batch.ops batch.token ≡ None → recorded_batch_in batch.domain d ms ≡ Ok batch
unfolding recorded_batch_in
recorded-back d ms batch l n w f = rw l (rw n (rw (ops-back 0 _ _ batch.ops w) (rw f refl)))

batch_due-back : (batch : Batch) → AllByRecursion IsWrittenOp batch.ops → IfSome batch.token IsUuid → batch_refusal batch.domain batch.ops batch.token ≡ None → recorded_batch_in batch.domain (object (members_due (batch_due batch))) (members_due (batch_due batch)) ≡ Ok batch
batch_due-back batch w t f =
    let xs : List Due = batch_due batch in
    let d : Data = object (members_due xs) in
    recorded-back d (members_due xs) batch
    (listed-back d batch (found (codes "ops") xs) (found (codes "after") xs) (found (codes "token") xs ∙ or_none _) t)
    (only batch_keys xs refl) w f

pub batch-back : BatchesReadBack
batch-back batch w t f =
    ap (λ d. required key.Batch (as_object d) >>= recorded_batch_in batch.domain d) (batch-due batch) ∙ batch_due-back batch w t f

-- ---- a record

or_null : (k : Key) (o : Option ℕ) → optional (number_in k) (unless_null (option_data whole o)) ≡ Ok o
unfolding number_in
or_null k None = refl
or_null k (Some n) = refl

number_or_null-back : (k : Key) (d : Data) (o : Option ℕ) → get (key_name k) d ≡ Some (option_data whole o) → number_or_null_at k d ≡ Ok o
unfolding number_or_null_at
number_or_null-back k d o e = rw e (or_null k o)

object-back : (k : Key) (d value : Data) (ms : Members) → get (key_name k) d ≡ Some value → as_object value ≡ Some ms → object_at k d ≡ Ok value
unfolding object_at
object-back k d value ms e o = rw e (rw o refl)

outcome-object : (call place : ℕ) (o : ReplyOutcome) → (ms : Members) × (as_object (outcome_data call place o) ≡ Some ms)
outcome-object call place (outcome.Committed rs) = (_, refl)
outcome-object call place (outcome.Answered rs) = (_, refl)
outcome-object call place (outcome.Repeated rs) = (_, refl)
outcome-object call place (outcome.Refused r) = (_, refl)

abbrev record_keys : List Key
record_keys = key.Batch ∷ key.Call ∷ key.Invoked ∷ key.Replied ∷ key.Reply ∷ []

record_in-back : (domain : List ℕ) (d inner reply : Data) (ms inner_ms : Members) (batch : Batch) (call invoked : ℕ) (replied : Option ℕ)
    → get (key_name key.Batch) d ≡ Some inner → required key.Batch (as_object inner) ≡ Ok inner_ms
    → number_at key.Call d ≡ Ok call → number_at key.Invoked d ≡ Ok invoked → number_or_null_at key.Replied d ≡ Ok replied → object_at key.Reply d ≡ Ok reply
    → no_others record_keys ms ≡ Ok tt → recorded_batch_in domain inner inner_ms ≡ Ok batch
    → record_in domain d ms ≡ Ok (record { batch = batch; call = call; invoked = invoked; replied = replied; reply = reply })
unfolding record_in
record_in-back domain d inner reply ms inner_ms batch call invoked replied b m c i r o n w = rw b (rw m (rw c (rw i (rw r (rw o (rw n (rw w refl)))))))

abbrev record_due : Batch → ℕ → ℕ → Option ℕ → Reply → List Due
record_due batch call invoked replied reply =
    (codes "batch", Some (batch_data batch))
    ∷ (codes "call", Some (whole call))
    ∷ (codes "invoked", Some (whole invoked))
    ∷ (codes "replied", Some (option_data whole replied))
    ∷ (codes "reply", Some (reply_data call reply))
    ∷ []

pub record-back : RecordsReadBack
record-back batch call invoked replied reply w t f =
    let xs : List Due = record_due batch call invoked replied reply in
    let d : Data = object (members_due xs) in
    let reported = outcome-object call reply.place reply.outcome in
    record_in-back batch.domain d (batch_data batch) (reply_data call reply) (members_due xs) _ batch call invoked replied
    (found (codes "batch") xs) refl
    (number-back key.Call d call (found (codes "call") xs))
    (number-back key.Invoked d invoked (found (codes "invoked") xs))
    (number_or_null-back key.Replied d replied (found (codes "replied") xs))
    (object-back key.Reply d (reply_data call reply) reported.0 (found (codes "reply") xs) reported.1)
    (only record_keys xs refl)
    (batch-back batch w t f)
