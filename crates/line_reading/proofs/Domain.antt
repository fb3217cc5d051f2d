-- The batch of a request that a line parses to in a trust domain was made for that domain.
use Rattle.std.proofs.Common.{◌≡◌, ℕ, List, Option, None, Some, Result, Ok, Err, refl, subst}
use Rattle.std.specs.Prelude.{⊤, IfOk, [], ◌∷◌}
use Rattle.rand_chacha.specs.ChaCha.{ChaCha}
use Rattle.entry_book.specs.Batches.{Batch, batch_refusal}
use Rattle.entry_book.specs.declared.fault.BatchRefusal.{BatchRefusal}
use Rattle.entry_book.specs.declared.op.Op.{Op}
use Rattle.serde_json.specs.Data.{Data, Members}
use Rattle.serde_json.specs.Find.{as_object}
use Rattle.line_reading.specs.declared.fault.Fault.{Fault}
use Rattle.line_reading.specs.declared.request.Request.{Request}
use Rattle.line_reading.specs.declared.fault.Key.{Key}
use Rattle.line_reading.specs.declared.fault.Key.TheVariants as key
use Rattle.line_reading.specs.Batches.{Listed, unless_refused, batch_of, listed_in, missing_with_token, batch_in}
use Rattle.line_reading.specs.Fields.{◌>>=◌, tries_at, no_others}
use Rattle.line_reading.specs.Operations.{ops_in}
use Rattle.line_reading.specs.Requests.{request_in, framed, value_in, object_in, of_line, spelled}

-- a property of each value of the second reader is a property of each value of both in sequence
pub then_ok : {A B : Type 0} (P : B → Type 0) (r : Result A Fault) (f : A → Result B Fault) → ((x : A) → IfOk (f x) P) → IfOk (r >>= f) P
then_ok P (Ok x) f h = h x
then_ok P (Err e) f h = tt

abbrev Read : Type 0
Read = Result (Request × ChaCha) Fault

abbrev made : List ℕ → Request × ChaCha → Type 0
made domain read = read.0.batch.domain ≡ domain

-- ---- a batch

abbrev pub ReadBatch : Type 0
ReadBatch = Result (Batch × ChaCha) Fault

abbrev pub batch_made : List ℕ → Batch × ChaCha → Type 0
batch_made domain read = read.0.domain ≡ domain

abbrev batch_and : ChaCha → Batch → ReadBatch
batch_and ids batch = Ok (batch, ids)

unless_refused-domain : (o : Option BatchRefusal) (batch : Batch) (ids : ChaCha) → IfOk (unless_refused o batch >>= batch_and ids) (batch_made batch.domain)
unless_refused-domain None batch ids = refl
unless_refused-domain (Some r) batch ids = tt

pub batch_in-domain : (domain : List ℕ) (ids : ChaCha) (listed : Listed) → IfOk (batch_in domain ids listed) (batch_made domain)
unfolding batch_in
batch_in-domain domain ids listed =
    let batch : List Op → Batch = λ ops. record { domain = domain; ops = ops; after = listed.after; token = listed.token } in
    let from_ops : List Op × ChaCha → ReadBatch = λ ops. batch_of domain ops.0 listed.after listed.token >>= batch_and ops.1 in
    then_ok (batch_made domain) (ops_in 0 (missing_with_token listed.token) ids listed.items) from_ops (λ ops. unless_refused-domain (batch_refusal domain ops.0 listed.token) (batch ops.0) ops.1)

-- ---- a request

-- the same if the second reader's values have it only for values of the first with a property, and the first reader's values have
-- that
pub both_ok : {A B : Type 0} (Q : A → Type 0) (P : B → Type 0) (r : Result A Fault) (f : A → Result B Fault) → IfOk r Q → ((x : A) → Q x → IfOk (f x) P) → IfOk (r >>= f) P
both_ok Q P (Ok x) f q h = h x q
both_ok Q P (Err e) f q h = tt

abbrev request_of : ℕ → Batch × ChaCha → Read
request_of tries batch = Ok (record { batch = batch.0; tries = tries }, batch.1)

request_in-domain : (domain : List ℕ) (ids : ChaCha) (d : Data) (ms : Members) → IfOk (request_in domain ids d ms) (made domain)
unfolding request_in
request_in-domain domain ids d ms =
    let keys : List Key = key.Ops ∷ key.After ∷ key.Token ∷ key.Tries ∷ [] in
    let from_keys : Listed → ℕ → ⊤ → Read = λ listed tries none. batch_in domain ids listed >>= request_of tries in
    let from_tries : Listed → ℕ → Read = λ listed tries. no_others keys ms >>= from_keys listed tries in
    let from_listed : Listed → Read = λ listed. tries_at key.Tries d >>= from_tries listed in
    then_ok (made domain) (listed_in d) from_listed (λ listed.
    then_ok (made domain) (tries_at key.Tries d) (from_tries listed) (λ tries.
    then_ok (made domain) (no_others keys ms) (from_keys listed tries) (λ none.
    both_ok (batch_made domain) (made domain) (batch_in domain ids listed) (request_of tries) (batch_in-domain domain ids listed) (λ batch e. e))))

-- ---- a line

-- a property of each value of the reader is a property of what a line parses to with it
pub of_line-ok : {A : Type 0} (P : A → Type 0) (reader : Data → Members → Result A Fault) (line : List ℕ) (x : A) → ((d : Data) (ms : Members) → IfOk (reader d ms) P) → of_line reader line ≡ Ok x → P x
of_line-ok {A} P reader line x h e =
    let from_value : Data → Result A Fault = λ d. object_in (as_object d) >>= reader d in
    let from_line : ⊤ → Result A Fault = λ none. value_in line >>= from_value in
    subst (λ r. IfOk r P) e (
    then_ok P (framed line) from_line (λ none.
    then_ok P (value_in line) from_value (λ d.
    then_ok P (object_in (as_object d)) (reader d) (h d))))

pub spelled-domain : (domain : List ℕ) (ids after : ChaCha) (line : List ℕ) (request : Request) → spelled domain ids line ≡ Ok (request, after) → request.batch.domain ≡ domain
unfolding spelled
spelled-domain domain ids after line request e = of_line-ok (made domain) (request_in domain ids) line (request, after) (request_in-domain domain ids) e
