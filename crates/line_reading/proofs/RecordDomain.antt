-- The batch of a record that a line parses to in a trust domain was made for that domain.
use Rattle.std.proofs.Common.{◌≡◌, ℕ, List, [], ◌∷◌, Option, None, Some, Result, Ok, refl}
use Rattle.std.specs.Prelude.{⊤, IfOk}
use Rattle.rand_chacha.specs.ChaCha.{ChaCha}
use Rattle.entry_book.specs.Batches.{Batch, batch_refusal}
use Rattle.entry_book.specs.declared.fault.BatchRefusal.{BatchRefusal}
use Rattle.entry_book.specs.declared.op.Op.{Op}
use Rattle.serde_json.specs.Data.{Data, Members}
use Rattle.serde_json.specs.Find.{get, as_object}
use Rattle.line_reading.specs.declared.fault.Fault.{Fault}
use Rattle.line_reading.specs.declared.fault.Key.{Key}
use Rattle.line_reading.specs.declared.fault.Key.TheVariants as key
use Rattle.line_reading.specs.declared.ids.MissingId.TheVariants.{Refused}
use Rattle.line_reading.specs.Batches.{Listed, unless_refused, batch_of, listed_in}
use Rattle.line_reading.specs.Codes.{key_name}
use Rattle.line_reading.specs.Fields.{◌>>=◌, required, number_at, no_others}
use Rattle.line_reading.specs.Operations.{ops_in}
use Rattle.line_reading.specs.Records.{AuditRecord, number_or_null_at, object_at, no_ids, recorded_batch_in, record_in, spelled_record}
use Rattle.line_reading.proofs.Domain.{both_ok, of_line-ok, then_ok}

abbrev Read : Type 0
Read = Result AuditRecord Fault

abbrev made : List ℕ → AuditRecord → Type 0
made domain r = r.batch.domain ≡ domain

abbrev batch_for : List ℕ → Batch → Type 0
batch_for domain batch = batch.domain ≡ domain

unless_refused-for : (o : Option BatchRefusal) (batch : Batch) → IfOk (unless_refused o batch) (batch_for batch.domain)
unless_refused-for None batch = refl
unless_refused-for (Some r) batch = tt

-- ---- a batch

recorded_batch_in-domain : (domain : List ℕ) (d : Data) (ms : Members) → IfOk (recorded_batch_in domain d ms) (batch_for domain)
unfolding recorded_batch_in
recorded_batch_in-domain domain d ms =
    let keys : List Key = key.Ops ∷ key.After ∷ key.Token ∷ [] in
    let batch : Listed → List Op → Batch = λ listed ops. record { domain = domain; ops = ops; after = listed.after; token = listed.token } in
    let from_ops : Listed → List Op × ChaCha → Result Batch Fault = λ listed ops. batch_of domain ops.0 listed.after listed.token in
    let from_keys : Listed → ⊤ → Result Batch Fault = λ listed none. ops_in 0 Refused no_ids listed.items >>= from_ops listed in
    let from_listed : Listed → Result Batch Fault = λ listed. no_others keys ms >>= from_keys listed in
    then_ok (batch_for domain) (listed_in d) from_listed (λ listed.
    then_ok (batch_for domain) (no_others keys ms) (from_keys listed) (λ none.
    then_ok (batch_for domain) (ops_in 0 Refused no_ids listed.items) (from_ops listed) (λ ops.
    unless_refused-for (batch_refusal domain ops.0 listed.token) (batch listed ops.0))))

-- ---- a record

record_in-domain : (domain : List ℕ) (d : Data) (ms : Members) → IfOk (record_in domain d ms) (made domain)
unfolding record_in
record_in-domain domain d ms =
    let keys : List Key = key.Batch ∷ key.Call ∷ key.Invoked ∷ key.Replied ∷ key.Reply ∷ [] in
    let from_batch : ℕ → ℕ → Option ℕ → Data → Batch → Read = λ call invoked replied reply batch. Ok (record { batch = batch; call = call; invoked = invoked; replied = replied; reply = reply }) in
    let from_keys : Data → Members → ℕ → ℕ → Option ℕ → Data → ⊤ → Read = λ inner members call invoked replied reply none. recorded_batch_in domain inner members >>= from_batch call invoked replied reply in
    let from_reply : Data → Members → ℕ → ℕ → Option ℕ → Data → Read = λ inner members call invoked replied reply. no_others keys ms >>= from_keys inner members call invoked replied reply in
    let from_replied : Data → Members → ℕ → ℕ → Option ℕ → Read = λ inner members call invoked replied. object_at key.Reply d >>= from_reply inner members call invoked replied in
    let from_invoked : Data → Members → ℕ → ℕ → Read = λ inner members call invoked. number_or_null_at key.Replied d >>= from_replied inner members call invoked in
    let from_call : Data → Members → ℕ → Read = λ inner members call. number_at key.Invoked d >>= from_invoked inner members call in
    let from_members : Data → Members → Read = λ inner members. number_at key.Call d >>= from_call inner members in
    let from_inner : Data → Read = λ inner. required key.Batch (as_object inner) >>= from_members inner in
    then_ok (made domain) (required key.Batch (get (key_name key.Batch) d)) from_inner (λ inner.
    then_ok (made domain) (required key.Batch (as_object inner)) (from_members inner) (λ members.
    then_ok (made domain) (number_at key.Call d) (from_call inner members) (λ call.
    then_ok (made domain) (number_at key.Invoked d) (from_invoked inner members call) (λ invoked.
    then_ok (made domain) (number_or_null_at key.Replied d) (from_replied inner members call invoked) (λ replied.
    then_ok (made domain) (object_at key.Reply d) (from_reply inner members call invoked replied) (λ reply.
    then_ok (made domain) (no_others keys ms) (from_keys inner members call invoked replied reply) (λ none.
    both_ok (batch_for domain) (made domain) (recorded_batch_in domain inner members) (from_batch call invoked replied reply) (recorded_batch_in-domain domain inner members) (λ batch e. e))))))))

-- ---- a line

pub spelled_record-domain : (domain line : List ℕ) (r : AuditRecord) → spelled_record domain line ≡ Ok r → r.batch.domain ≡ domain
unfolding spelled_record
spelled_record-domain domain line r e = of_line-ok (made domain) (record_in domain) line r (record_in-domain domain) e
