-- Which record of a call a line parses to, or the first fault found. The lines of each reader are in the order of the format's
-- checks.
use Rattle.std.specs.Prelude.{ℕ, List, [], ◌∷◌, replicate, Option, Result, Ok}
use Rattle.serde_json.specs.Data.{Data, Members}
use Rattle.serde_json.specs.Find.{get, as_object}
use Rattle.rand_chacha.specs.ChaCha.{ChaCha}
use Rattle.entry_book.specs.Batches.{Batch}
use Rattle.line_reading.specs.declared.fault.Fault.{Fault}
use Rattle.line_reading.specs.declared.fault.Key.{Key}
use Rattle.line_reading.specs.declared.fault.Key.TheVariants as key
use Rattle.line_reading.specs.declared.ids.MissingId.TheVariants.{Refused}
use Rattle.line_reading.specs.Codes.{key_name}
use Rattle.line_reading.specs.Batches.{batch_of, listed_in}
use Rattle.line_reading.specs.Fields.{◌>>=◌, optional, number_in, number_at, required, no_others, unless_null}
use Rattle.line_reading.specs.Ids.{first_ids}
use Rattle.line_reading.specs.Operations.{ops_in}
use Rattle.line_reading.specs.Requests.{of_line}

-- ---- a record

-- A call: its batch, its number, the numbers of its invoke and its reply among the accepted events, and its reply. `replied` is
-- None if the call hasn't replied; the line then has null.
pub record AuditRecord : Type 0 where
  pub batch : Batch
  pub call : ℕ
  pub invoked : ℕ
  pub replied : Option ℕ
  pub reply : Data

-- ---- the keys of a record

-- a whole number, or null; the key must be there
unfoldable pub number_or_null_at : Key → Data → Result (Option ℕ) Fault
number_or_null_at key d = do
  value ← required key (get (key_name key) d)
  optional (number_in key) (unless_null value)

unfoldable pub object_at : Key → Data → Result Data Fault
object_at key d = do
  value ← required key (get (key_name key) d)
  members ← required key (as_object value)
  Ok value

-- Ids for a reader that draws none: any others would do.
unfoldable pub no_ids : ChaCha
no_ids = first_ids (replicate 32 0)

-- The batch of an object that has no further keys. Each of its creates must have an id.
unfoldable pub recorded_batch_in : List ℕ → Data → Members → Result Batch Fault
recorded_batch_in domain d ms = do
  listed ← listed_in d
  none ← no_others (key.Ops ∷ key.After ∷ key.Token ∷ []) ms
  ops ← ops_in 0 Refused no_ids listed.items
  batch_of domain ops.0 listed.after listed.token

-- The keys of the line are checked before those of the batch's object.
unfoldable pub record_in : List ℕ → Data → Members → Result AuditRecord Fault
record_in domain d ms = do
  inner ← required key.Batch (get (key_name key.Batch) d)
  members ← required key.Batch (as_object inner)
  call ← number_at key.Call d
  invoked ← number_at key.Invoked d
  replied ← number_or_null_at key.Replied d
  reply ← object_at key.Reply d
  none ← no_others (key.Batch ∷ key.Call ∷ key.Invoked ∷ key.Replied ∷ key.Reply ∷ []) ms
  batch ← recorded_batch_in domain inner members
  Ok (record { batch = batch; call = call; invoked = invoked; replied = replied; reply = reply })

-- ---- a line

-- The record that a line parses to in a trust domain. The line has its LF, if there is one.
unfoldable pub spelled_record : List ℕ → List ℕ → Result AuditRecord Fault
spelled_record domain line = of_line (record_in domain) line
