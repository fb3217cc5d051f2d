-- The printed value of a batch parses to that batch.
use Rattle.std.specs.Prelude.{◌≡◌, ⊤, ℕ, List, Option, None, Some, IfSome, Ok}
use Rattle.std.specs.List.{AllByRecursion}
use Rattle.uuid.specs.Text.{parsed}
use Rattle.spiffe_name.specs.Domain.{domain_refusal}
use Rattle.spiffe_name.specs.Id.{id_refusal}
use Rattle.spiffe_name.specs.Selector.{SelectorPair, pair_of, selector_refusal, selector_text}
use Rattle.spiffe_name.specs.SelectorSet.{set_of}
use Rattle.serde_json.specs.Find.{as_object}
use Rattle.rand_chacha.specs.ChaCha.{ChaCha}
use Rattle.entry_book.specs.Batches.{Batch, batch_refusal}
use Rattle.entry_book.specs.Rows.{domain_set}
use Rattle.entry_book.specs.declared.agent.Agent.{Agent}
use Rattle.entry_book.specs.declared.entry.NewEntry.{NewEntry}
use Rattle.entry_book.specs.declared.op.Op.{Op}
use Rattle.entry_book.specs.declared.op.Op.TheVariants as op
use Rattle.entry_book.specs.declared.page.PageQuery.{PageQuery}
use Rattle.entry_book.specs.declared.reply.Reply.{Reply}
use Rattle.line_reading.specs.declared.ids.MissingId.{MissingId}
use Rattle.line_reading.specs.Operations.{op_in}
use Rattle.line_reading.specs.Records.{record_in, recorded_batch_in}
use Rattle.line_reading.specs.Fields.{◌>>=◌, required}
use Rattle.reg_lines.specs.RecordValues.{batch_data, op_data, record_data}
use Rattle.line_reading.specs.Requests.{object_in}
use Rattle.reg_lines.specs.Replies.{uuid_text}
use Rattle.reg_lines.specs.Values.{reply_data}
use Rattle.line_reading.specs.declared.fault.Key.TheVariants as key

-- ---- the type invariants of an operation's parts

-- the id is what its text parses to
abbrev pub IsUuid : List ℕ → Type 0
IsUuid id = parsed (uuid_text id) ≡ Some id

-- the text is a SPIFFE ID
abbrev pub IsIdText : List ℕ → Type 0
IsIdText text = id_refusal text ≡ None

-- the text is a trust domain
abbrev pub IsDomainText : List ℕ → Type 0
IsDomainText text = domain_refusal text ≡ None

-- the selector's text is valid and parses to the selector
abbrev pub IsSelector : SelectorPair → Type 0
IsSelector s = (selector_refusal (selector_text s) ≡ None) × (pair_of (selector_text s) ≡ s)

-- the selectors are valid, and are the set of themselves: in order, each once
abbrev pub AreSelectors : List SelectorPair → Type 0
AreSelectors selectors = AllByRecursion IsSelector selectors × (set_of selectors ≡ selectors)

-- the texts are trust domains, and are the set of themselves
abbrev pub AreDomains : List (List ℕ) → Type 0
AreDomains domains = AllByRecursion IsDomainText domains × (domain_set domains ≡ domains)

pub record IsWrittenEntry (e : NewEntry) : Type 0 where
  pub id : IsUuid e.id
  pub parent : IsIdText e.parent
  pub identity : IsIdText e.identity
  pub selectors : AreSelectors e.selectors
  pub domains : AreDomains e.domains

pub record IsWrittenPage (q : PageQuery) : Type 0 where
  pub from : IfSome q.from IsUuid
  pub parent : IfSome q.filter.parent IsIdText
  pub identity : IfSome q.filter.identity IsIdText
  pub domain : IfSome q.filter.domain IsDomainText
  pub selectors : IfSome q.filter.selectors (λ m. AreSelectors m.selectors)

pub record IsWrittenAgent (a : Agent) : Type 0 where
  pub id : IsIdText a.id
  pub selectors : AreSelectors a.selectors

abbrev pub IsWrittenOp : Op → Type 0
IsWrittenOp (op.Create e) = IsWrittenEntry e
IsWrittenOp (op.Update e expected) = IsWrittenEntry e
IsWrittenOp (op.Delete id expected) = IsUuid id
IsWrittenOp (op.Show id) = IsUuid id
IsWrittenOp (op.ShowAgent id) = IsIdText id
IsWrittenOp (op.ShowBundle domain) = IsDomainText domain
IsWrittenOp (op.Children parent) = IsIdText parent
IsWrittenOp (op.Page query) = IsWrittenPage query
IsWrittenOp (op.Authorised id) = IsIdText id
IsWrittenOp (op.Trust id) = IsIdText id
IsWrittenOp (op.Prune moment) = ⊤
IsWrittenOp (op.SetAgent agent) = IsWrittenAgent agent
IsWrittenOp (op.DropAgent id) = IsIdText id
IsWrittenOp (op.SetBundle domain text) = IsDomainText domain
IsWrittenOp (op.DropBundle domain mode) = IsDomainText domain

-- ---- the theorems

-- An operation's value parses to that operation, without drawing an id, however creates without an id are treated.
abbrev pub OpsReadBack : Type 0
OpsReadBack = (o : Op) (missing : MissingId) (ids : ChaCha) → IsWrittenOp o → op_in missing ids (op_data o) ≡ Ok (o, ids)

-- the value of a batch parses to that batch, with the reader of a record's batch
abbrev pub BatchesReadBack : Type 0
BatchesReadBack = (batch : Batch) → AllByRecursion IsWrittenOp batch.ops → IfSome batch.token IsUuid → batch_refusal batch.domain batch.ops batch.token ≡ None
    → required key.Batch (as_object (batch_data batch)) >>= recorded_batch_in batch.domain (batch_data batch) ≡ Ok batch

-- The value of a record parses to its batch, its numbers and the JSON value of its reply.
abbrev pub RecordsReadBack : Type 0
RecordsReadBack = (batch : Batch) (call invoked : ℕ) (replied : Option ℕ) (reply : Reply) → AllByRecursion IsWrittenOp batch.ops → IfSome batch.token IsUuid → batch_refusal batch.domain batch.ops batch.token ≡ None
    → object_in (as_object (record_data batch call invoked replied reply)) >>= record_in batch.domain (record_data batch call invoked replied reply) ≡ Ok (record { batch = batch; call = call; invoked = invoked; replied = replied; reply = reply_data call reply })
