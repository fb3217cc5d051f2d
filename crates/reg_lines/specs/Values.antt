-- The JSON values of the printed lines, and the theorem that each line is the compact text of its value. `put` keeps the keys of
-- an object in ascending order of their bytes.
use Rattle.std.specs.Prelude.{◌≡◌, ℕ, false, List, map, codes, Option, None, Some}
use Rattle.serde_json.specs.Data.{Data, null, object, array, string, number, unsigned, Members, put, no_members}
use Rattle.serde_json.specs.View.{items_of}
use Rattle.serde_json.specs.Written.{compact_text, has_float}
use Rattle.spiffe_name.specs.Selector.{SelectorPair, selector_text}
use Rattle.spiffe_name.specs.declared.refusals.Failure.{Failure}
use Rattle.spiffe_name.specs.declared.refusals.Failure.TheVariants.{NoMemory, Refused}
use Rattle.entry_book.specs.Codes.{refusal_code, refusal_op}
use Rattle.entry_book.specs.Rows.{Entry}
use Rattle.entry_book.specs.declared.agent.Agent.{Agent}
use Rattle.entry_book.specs.declared.bundle.Bundle.{Bundle}
use Rattle.entry_book.specs.declared.reply.OpRefusal.{OpRefusal}
use Rattle.entry_book.specs.declared.reply.OpRefusal.TheVariants as refused
use Rattle.entry_book.specs.declared.reply.OpReply.{OpReply}
use Rattle.entry_book.specs.declared.reply.OpReply.TheVariants as replied
use Rattle.entry_book.specs.declared.reply.ReplyOutcome.{ReplyOutcome}
use Rattle.entry_book.specs.declared.reply.ReplyOutcome.TheVariants as outcome
use Rattle.entry_book.specs.declared.reply.Refusal.{Refusal}
use Rattle.entry_book.specs.declared.reply.Refusal.TheVariants.{Full, NotYet, OfOp, TokenReused}
use Rattle.entry_book.specs.declared.reply.Reply.{Reply}
use Rattle.line_reading.specs.declared.fault.Fault.{Fault}
use Rattle.line_reading.specs.declared.fault.Field.{Field}
use Rattle.line_reading.specs.declared.refusal.LineRefusal.{LineRefusal}
use Rattle.line_reading.specs.Codes.{code_text, field_text}
use Rattle.reg_lines.specs.Refusals.{refusal_json}
use Rattle.reg_lines.specs.Replies.{conflict_json, given_lifetime, reply_json, uuid_text}

-- the JSON value of a whole number
abbrev pub whole : ℕ → Data
whole n = number (unsigned n)

abbrev pub list_data : {A : Type 0} → (A → Data) → List A → Data
list_data f xs = array (items_of (map f xs))

-- a value, or null
abbrev pub option_data : {A : Type 0} → (A → Data) → Option A → Data
option_data f None = null
option_data f (Some x) = f x

abbrev pub uuid_data : List ℕ → Data
uuid_data id = string (uuid_text id)

abbrev pub selector_data : SelectorPair → Data
selector_data s = string (selector_text s)

-- puts the key with the value, if there is one
abbrev pub if_due : {A : Type 0} → List ℕ → (A → Data) → Option A → Members → Members
if_due key f None ms = ms
if_due key f (Some x) ms = put key (f x) ms

abbrev pub entry_data : Entry → Data
entry_data e = object (
    put (codes "domains") (list_data string e.domains) (
    put (codes "expiry") (whole e.expiry) (
    put (codes "hint") (string e.hint) (
    put (codes "id") (uuid_data e.id) (
    put (codes "identity") (string e.identity) (
    if_due (codes "jwt_svid_ttl") whole (given_lifetime e.jwt_svid_ttl) (
    put (codes "parent") (string e.parent) (
    put (codes "revision") (whole e.revision) (
    put (codes "selectors") (list_data selector_data e.selectors) (
    if_due (codes "x509_svid_ttl") whole (given_lifetime e.x509_svid_ttl)
    no_members))))))))))

abbrev pub agent_data : Agent → Data
agent_data a = object (
    put (codes "id") (string a.id) (
    put (codes "selectors") (list_data selector_data a.selectors)
    no_members))

abbrev pub bundle_data : Bundle → Data
bundle_data b = object (
    put (codes "domain") (string b.domain) (
    put (codes "sequence") (whole b.sequence) (
    put (codes "text") (string b.text)
    no_members)))

abbrev pub dropped_data : List (List ℕ) → List (List ℕ) → Data
dropped_data deleted dissociated = object (
    put (codes "deleted") (list_data uuid_data deleted) (
    put (codes "dissociated") (list_data uuid_data dissociated)
    no_members))

abbrev pub page_data : List Entry → Option (List ℕ) → Data
page_data es next = object (
    put (codes "entries") (list_data entry_data es) (
    put (codes "next") (option_data uuid_data next)
    no_members))

abbrev pub op_reply_data : OpReply → Data
op_reply_data (replied.Entry e) = object (put (codes "entry") (entry_data e) no_members)
op_reply_data (replied.EntryShown e) = object (put (codes "entry") (option_data entry_data e) no_members)
op_reply_data (replied.Entries es) = object (put (codes "entries") (list_data entry_data es) no_members)
op_reply_data (replied.Page es next) = page_data es next
op_reply_data (replied.Agent a) = object (put (codes "agent") (agent_data a) no_members)
op_reply_data (replied.AgentShown a) = object (put (codes "agent") (option_data agent_data a) no_members)
op_reply_data (replied.Bundle b) = object (put (codes "bundle") (bundle_data b) no_members)
op_reply_data (replied.BundleShown b) = object (put (codes "bundle") (option_data bundle_data b) no_members)
op_reply_data (replied.Bundles bs) = object (put (codes "bundles") (list_data bundle_data bs) no_members)
op_reply_data (replied.Pruned ids) = object (put (codes "pruned") (list_data uuid_data ids) no_members)
op_reply_data (replied.Dropped deleted dissociated) = dropped_data deleted dissociated

abbrev pub done_data : ℕ → ℕ → List OpReply → List ℕ → Data
done_data call place replies result = object (
    put (codes "call") (whole call) (
    put (codes "place") (whole place) (
    put (codes "replies") (list_data op_reply_data replies) (
    put (codes "result") (string result)
    no_members))))

-- the text of the detail of a refusal, if it has one
abbrev pub op_detail : OpRefusal → Option (List ℕ)
op_detail refused.IdTaken = None
op_detail (refused.Similar id) = Some (uuid_text id)
op_detail refused.NoEntry = None
op_detail refused.StaleRevision = None
op_detail (refused.NoBundle domain) = Some domain
op_detail refused.BundleInUse = None
op_detail refused.NoAgent = None
op_detail refused.VersionGone = None

-- the same of a batch's refusal
abbrev pub detail : Refusal → Option (List ℕ)
detail NotYet = None
detail TokenReused = None
detail (OfOp n r) = op_detail r
detail (Full limit) = None

abbrev pub refused_data : ℕ → ℕ → Refusal → Data
refused_data call place r = object (
    put (codes "call") (whole call) (
    put (codes "code") (string (refusal_code r)) (
    if_due (codes "detail") string (detail r) (
    if_due (codes "op") whole (refusal_op r) (
    put (codes "place") (whole place) (
    put (codes "result") (string (codes "refused"))
    no_members))))))

abbrev pub outcome_data : ℕ → ℕ → ReplyOutcome → Data
outcome_data call place (outcome.Committed replies) = done_data call place replies (codes "committed")
outcome_data call place (outcome.Answered replies) = done_data call place replies (codes "answered")
outcome_data call place (outcome.Repeated replies) = done_data call place replies (codes "repeated")
outcome_data call place (outcome.Refused refusal) = refused_data call place refusal

abbrev pub reply_data : ℕ → Reply → Data
reply_data call reply = outcome_data call reply.place reply.outcome

abbrev pub conflict_data : ℕ → ℕ → Data
conflict_data call place = object (
    put (codes "call") (whole call) (
    put (codes "place") (whole place) (
    put (codes "result") (string (codes "conflict"))
    no_members)))

-- a refusal that has only its code
abbrev pub refused_line_data : ℕ → List ℕ → Data
refused_line_data line code = object (put (codes "code") (string code) (put (codes "line") (whole line) no_members))

abbrev pub field_data : Field → Data
field_data field = string (field_text field)

abbrev pub fault_data : ℕ → Fault → Data
fault_data line f = object (
    put (codes "code") (string (code_text f.code)) (
    if_due (codes "field") field_data f.field (
    put (codes "line") (whole line) (
    if_due (codes "op") whole f.op
    no_members))))

abbrev pub failure_data : ℕ → Failure Fault → Data
failure_data line NoMemory = refused_line_data line (codes "L6")
failure_data line (Refused fault) = fault_data line fault

abbrev pub refusal_data : LineRefusal → Data
refusal_data r = failure_data r.line r.failure

-- ---- the theorem

abbrev pub RepliesAreCompact : Type 0
RepliesAreCompact = (call : ℕ) (reply : Reply) → reply_json call reply ≡ compact_text (reply_data call reply)

abbrev pub ConflictsAreCompact : Type 0
ConflictsAreCompact = (call place : ℕ) → conflict_json call place ≡ compact_text (conflict_data call place)

abbrev pub RefusalsAreCompact : Type 0
RefusalsAreCompact = (r : LineRefusal) → refusal_json r ≡ compact_text (refusal_data r)

-- so the compact text is what `serde_json` writes of the value
abbrev pub RepliesHaveNoFloat : Type 0
RepliesHaveNoFloat = (call : ℕ) (reply : Reply) → has_float (reply_data call reply) ≡ false

abbrev pub ConflictsHaveNoFloat : Type 0
ConflictsHaveNoFloat = (call place : ℕ) → has_float (conflict_data call place) ≡ false

abbrev pub RefusalsHaveNoFloat : Type 0
RefusalsHaveNoFloat = (r : LineRefusal) → has_float (refusal_data r) ≡ false
