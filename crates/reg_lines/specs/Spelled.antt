-- The text of each batch without a fault is a line that parses to it, and the text of a record parses to that record.
use Rattle.std.specs.Prelude.{◌≡◌, ◌<◌, ◌≤◌, ◌^◌, ◌++◌, ⊤, ℕ, List, [], ◌∷◌, length, codes, Option, None, IfSome, Ok}
use Rattle.std.specs.List.{AllByRecursion}
use Rattle.std.specs.Str.{IsUtf8}
use Rattle.serde_json.specs.Data.{Num, unsigned, negative, float, Data, null, boolean, number, string, array, object, Items, no_items, item, Members, no_members, member}
use Rattle.rand_chacha.specs.ChaCha.{ChaCha}
use Rattle.entry_book.specs.Batches.{Batch, batch_refusal, op_fault}
use Rattle.entry_book.specs.declared.op.Op.{Op}
use Rattle.entry_book.specs.declared.reply.Reply.{Reply}
use Rattle.reg_lines.specs.ReadBack.{IsUuid, IsWrittenOp}
use Rattle.line_reading.specs.Records.{spelled_record}
use Rattle.reg_lines.specs.RecordLines.{batch_json, record_json}
use Rattle.reg_lines.specs.RecordValues.{batch_data, op_data}
use Rattle.line_reading.specs.Requests.{line_limit, spelled}
use Rattle.reg_lines.specs.Values.{reply_data}

-- ---- the type invariants of a value's parts

-- a whole number of 64 bits
abbrev pub IsWord : Num → Type 0
IsWord (unsigned n) = n < 2 ^ 64
IsWord (negative z) = ⊥
IsWord (float x) = ⊥

-- each string of the value is UTF-8, and each number a whole one of 64 bits; keys may be any bytes
abbrev mutual
  pub IsTyped : Data → Type 0
  IsTyped null = ⊤
  IsTyped (boolean b) = ⊤
  IsTyped (number n) = IsWord n
  IsTyped (string s) = IsUtf8 s
  IsTyped (array ds) = ItemsAreTyped ds
  IsTyped (object ms) = MembersAreTyped ms

  pub ItemsAreTyped : Items → Type 0
  ItemsAreTyped no_items = ⊤
  ItemsAreTyped (item d ds) = IsTyped d × ItemsAreTyped ds

  pub MembersAreTyped : Members → Type 0
  MembersAreTyped no_members = ⊤
  MembersAreTyped (member k d ms) = IsTyped d × MembersAreTyped ms

-- a batch without a fault whose parts satisfy their type invariants
pub record IsWrittenBatch (batch : Batch) : Type 0 where
  pub ops : AllByRecursion IsWrittenOp batch.ops
  pub token : IfSome batch.token IsUuid
  pub typed : IsTyped (batch_data batch)
  pub no_fault : batch_refusal batch.domain batch.ops batch.token ≡ None

-- the type invariants of a call's numbers and its reply
pub record IsWrittenCall (call invoked : ℕ) (replied : Option ℕ) (reply : Reply) : Type 0 where
  pub number : call < 2 ^ 64
  pub handed_in : invoked < 2 ^ 64
  pub given_out : IfSome replied (λ n. n < 2 ^ 64)
  pub answer : IsTyped (reply_data call reply)

-- the text fits into a line
abbrev pub FitsInLine : List ℕ → Type 0
FitsInLine text = length text ≤ line_limit

-- ---- the theorems

-- The text of a batch parses to a request for it, with one try; no id is drawn.
abbrev pub BatchesAreSpelled : Type 0
BatchesAreSpelled = (batch : Batch) (ids : ChaCha) → IsWrittenBatch batch → FitsInLine (batch_json batch)
    → spelled batch.domain ids (batch_json batch ++ codes "\n") ≡ Ok (record { batch = batch; tries = 1 }, ids)

-- the batch of one operation, which may run at any place
abbrev pub batch_of_one : List ℕ → Op → Batch
batch_of_one domain o = record { domain = domain; ops = o ∷ []; after = 0; token = None }

-- So for each operation without a fault some line parses to a request for it alone.
abbrev pub OpsAreSpelled : Type 0
OpsAreSpelled = (domain : List ℕ) (o : Op) (ids : ChaCha) → IsWrittenOp o → IsTyped (op_data o) → op_fault domain o ≡ None → FitsInLine (batch_json (batch_of_one domain o))
    → (line : List ℕ) × (spelled domain ids line ≡ Ok (record { batch = batch_of_one domain o; tries = 1 }, ids))

-- The text of a record parses to its batch, its numbers and the JSON value of its reply.
abbrev pub RecordsAreSpelled : Type 0
RecordsAreSpelled = (batch : Batch) (call invoked : ℕ) (replied : Option ℕ) (reply : Reply) → IsWrittenBatch batch → IsWrittenCall call invoked replied reply
    → FitsInLine (record_json batch call invoked replied reply)
    → spelled_record batch.domain (record_json batch call invoked replied reply ++ codes "\n") ≡ Ok (record { batch = batch; call = call; invoked = invoked; replied = replied; reply = reply_data call reply })
