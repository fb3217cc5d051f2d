-- Which batch an object parses to. An object that holds a batch has the batch's own keys. The reader of a line with further keys
-- reads those next; the operations come last.
use Rattle.std.specs.Prelude.{ℕ, List, [], ◌∷◌, Option, Some, None, Result, Ok, Err, option_and_then, unwrap_or}
use Rattle.serde_json.specs.Data.{Data, Items, Members}
use Rattle.serde_json.specs.Find.{get, as_array}
use Rattle.rand_chacha.specs.ChaCha.{ChaCha}
use Rattle.entry_book.specs.Batches.{Batch, batch_refusal}
use Rattle.entry_book.specs.Codes.{batch_op}
use Rattle.entry_book.specs.declared.fault.BatchRefusal.{BatchRefusal}
use Rattle.entry_book.specs.declared.op.Op.{Op}
use Rattle.line_reading.specs.declared.fault.Code.TheVariants as code
use Rattle.line_reading.specs.declared.fault.Fault.{Fault}
use Rattle.line_reading.specs.declared.fault.Key.TheVariants as key
use Rattle.line_reading.specs.declared.ids.MissingId.{MissingId}
use Rattle.line_reading.specs.declared.ids.MissingId.TheVariants.{Drawn, Refused}
use Rattle.line_reading.specs.Codes.{key_name}
use Rattle.line_reading.specs.Fields.{◌>>=◌, required, optional_number_at, optional_uuid_at, no_others}
use Rattle.line_reading.specs.Operations.{ops_in}

-- ---- a batch's own keys

-- The values at these keys: the operations, not read yet; the smallest place at which the batch may run; and its token, if it has
-- one.
pub record Listed : Type 0 where
  pub items : Items
  pub after : ℕ
  pub token : Option (List ℕ)

unfoldable pub items_at : Data → Result Items Fault
items_at d = required key.Ops (option_and_then as_array (get (key_name key.Ops) d))

-- the smallest place is 0 by default
unfoldable pub listed_in : Data → Result Listed Fault
listed_in d = do
  items ← items_at d
  after ← optional_number_at key.After d
  token ← optional_uuid_at key.Token d
  Ok (record { items = items; after = unwrap_or after 0; token = token })

-- ---- the batch

abbrev pub unless_refused : Option BatchRefusal → Batch → Result Batch Fault
unless_refused None batch = Ok batch
unless_refused (Some refusal) batch = Err (record { code = code.Batch refusal; field = None; op = batch_op refusal })

-- the batch of these operations for a trust domain, or the fault with its refusal
abbrev pub batch_of : List ℕ → List Op → ℕ → Option (List ℕ) → Result Batch Fault
batch_of domain ops after token = unless_refused (batch_refusal domain ops token) (record { domain = domain; ops = ops; after = after; token = token })

-- a create without an id is refused if the batch has a token, so that the batch can be sent again unchanged
abbrev pub missing_with_token : Option (List ℕ) → MissingId
missing_with_token None = Drawn
missing_with_token (Some token) = Refused

-- the batch with these values for a trust domain, and the ids that are left
unfoldable pub batch_in : List ℕ → ChaCha → Listed → Result (Batch × ChaCha) Fault
batch_in domain ids listed = do
  ops ← ops_in 0 (missing_with_token listed.token) ids listed.items
  batch ← batch_of domain ops.0 listed.after listed.token
  Ok (batch, ops.1)

-- the batch of an object that has no further keys
unfoldable pub batch_alone_in : List ℕ → ChaCha → Data → Members → Result (Batch × ChaCha) Fault
batch_alone_in domain ids d ms = do
  listed ← listed_in d
  none ← no_others (key.Ops ∷ key.After ∷ key.Token ∷ []) ms
  batch_in domain ids listed
