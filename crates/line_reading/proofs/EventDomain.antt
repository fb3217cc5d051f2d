-- The batch of an event that a line parses to in a trust domain was made for that domain.
use Rattle.std.proofs.Common.{◌≡◌, ℕ, List, [], ◌∷◌, Result, Ok, Err}
use Rattle.std.specs.Prelude.{⊤, IfOk}
use Rattle.rand_chacha.specs.ChaCha.{ChaCha}
use Rattle.entry_book.specs.Batches.{Batch}
use Rattle.serde_json.specs.Data.{Data, Members}
use Rattle.serde_json.specs.Find.{get, as_object}
use Rattle.call_events.specs.Events.{IsFor}
use Rattle.call_events.specs.declared.event.Event.{Event}
use Rattle.call_events.specs.declared.event.Event.TheVariants as on
use Rattle.line_reading.specs.declared.fault.Fault.{Fault}
use Rattle.line_reading.specs.declared.fault.Key.{Key}
use Rattle.line_reading.specs.declared.fault.Key.TheVariants as key
use Rattle.line_reading.specs.declared.event.EventKind.{EventKind}
use Rattle.line_reading.specs.declared.event.EventKind.TheVariants as kind
use Rattle.line_reading.specs.Batches.{Listed, listed_in, batch_in, batch_alone_in}
use Rattle.line_reading.specs.Codes.{key_name}
use Rattle.line_reading.specs.Events.{kind_at, invoke_in, event_alone_in, event_of, event_in, spelled_event}
use Rattle.line_reading.specs.Fields.{◌>>=◌, with_ids, required, number_at, no_others}
use Rattle.line_reading.proofs.Domain.{ReadBatch, batch_made, batch_in-domain, both_ok, of_line-ok, then_ok}

abbrev Read : Type 0
Read = Result (Event × ChaCha) Fault

abbrev made : List ℕ → Event × ChaCha → Type 0
made domain read = IsFor domain read.0

-- ---- an event

batch_alone_in-domain : (domain : List ℕ) (ids : ChaCha) (d : Data) (ms : Members) → IfOk (batch_alone_in domain ids d ms) (batch_made domain)
unfolding batch_alone_in
batch_alone_in-domain domain ids d ms =
    let keys : List Key = key.Ops ∷ key.After ∷ key.Token ∷ [] in
    let from_keys : Listed → ⊤ → ReadBatch = λ listed none. batch_in domain ids listed in
    let from_listed : Listed → ReadBatch = λ listed. no_others keys ms >>= from_keys listed in
    then_ok (batch_made domain) (listed_in d) from_listed (λ listed.
    then_ok (batch_made domain) (no_others keys ms) (from_keys listed) (λ none. batch_in-domain domain ids listed))

abbrev invoke_of : ℕ → Batch × ChaCha → Read
invoke_of call batch = Ok (on.Invoke call batch.0, batch.1)

invoke_in-domain : (domain : List ℕ) (ids : ChaCha) (call : ℕ) (d : Data) (ms : Members) → IfOk (invoke_in domain ids call d ms) (made domain)
unfolding invoke_in
invoke_in-domain domain ids call d ms =
    let keys : List Key = key.Event ∷ key.Call ∷ key.Batch ∷ [] in
    let from_keys : Data → Members → ⊤ → Read = λ inner members none. batch_alone_in domain ids inner members >>= invoke_of call in
    let from_members : Data → Members → Read = λ inner members. no_others keys ms >>= from_keys inner members in
    let from_inner : Data → Read = λ inner. required key.Batch (as_object inner) >>= from_members inner in
    then_ok (made domain) (required key.Batch (get (key_name key.Batch) d)) from_inner (λ inner.
    then_ok (made domain) (required key.Batch (as_object inner)) (from_members inner) (λ members.
    then_ok (made domain) (no_others keys ms) (from_keys inner members) (λ none.
    both_ok (batch_made domain) (made domain) (batch_alone_in domain ids inner members) (invoke_of call) (batch_alone_in-domain domain ids inner members) (λ batch e. e))))

with_ids-ok : (P : Event → Type 0) (ids : ChaCha) (r : Result Event Fault) → IfOk r P → IfOk (with_ids ids r) (λ read. P read.0)
with_ids-ok P ids (Ok e) h = h
with_ids-ok P ids (Err fault) h = tt

event_alone_in-domain : (domain : List ℕ) (ids : ChaCha) (event : Event) (ms : Members) → IsFor domain event → IfOk (with_ids ids (event_alone_in event ms)) (made domain)
unfolding event_alone_in
event_alone_in-domain domain ids event ms h =
    let keys : List Key = key.Event ∷ key.Call ∷ [] in
    let from_keys : ⊤ → Result Event Fault = λ none. Ok event in
    with_ids-ok (IsFor domain) ids (no_others keys ms >>= from_keys) (then_ok (IsFor domain) (no_others keys ms) from_keys (λ none. h))

event_of-domain : (domain : List ℕ) (ids : ChaCha) (k : EventKind) (call : ℕ) (d : Data) (ms : Members) → IfOk (event_of domain ids k call d ms) (made domain)
event_of-domain domain ids kind.Invoke call d ms = invoke_in-domain domain ids call d ms
event_of-domain domain ids kind.Begin call d ms = event_alone_in-domain domain ids (on.Begin call) ms tt
event_of-domain domain ids kind.Step call d ms = event_alone_in-domain domain ids (on.Step call) ms tt
event_of-domain domain ids kind.Commit call d ms = event_alone_in-domain domain ids (on.Commit call) ms tt
event_of-domain domain ids kind.Reply call d ms = event_alone_in-domain domain ids (on.Reply call) ms tt

event_in-domain : (domain : List ℕ) (ids : ChaCha) (d : Data) (ms : Members) → IfOk (event_in domain ids d ms) (made domain)
unfolding event_in
event_in-domain domain ids d ms =
    let from_call : EventKind → ℕ → Read = λ k call. event_of domain ids k call d ms in
    let from_kind : EventKind → Read = λ k. number_at key.Call d >>= from_call k in
    then_ok (made domain) (kind_at key.Event d) from_kind (λ k.
    then_ok (made domain) (number_at key.Call d) (from_call k) (λ call. event_of-domain domain ids k call d ms))

-- ---- a line

pub spelled_event-domain : (domain : List ℕ) (ids after : ChaCha) (line : List ℕ) (event : Event) → spelled_event domain ids line ≡ Ok (event, after) → IsFor domain event
unfolding spelled_event
spelled_event-domain domain ids after line event e = of_line-ok (made domain) (event_in domain ids) line (event, after) (event_in-domain domain ids) e
