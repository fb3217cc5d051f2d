-- The JSON values of the lines of records, and the theorem that each line is the compact text of its value.
use Rattle.std.specs.Prelude.{◌≡◌, ℕ, false, List, Option, None, codes}
use Rattle.serde_json.specs.Data.{Data, object, string, put, no_members}
use Rattle.serde_json.specs.Written.{compact_text, has_float}
use Rattle.entry_book.specs.Batches.{Batch}
use Rattle.entry_book.specs.declared.agent.Agent.{Agent}
use Rattle.entry_book.specs.declared.entry.NewEntry.{NewEntry}
use Rattle.entry_book.specs.declared.mode.DropMode.{DropMode}
use Rattle.entry_book.specs.declared.op.Op.{Op}
use Rattle.entry_book.specs.declared.op.Op.TheVariants as op
use Rattle.entry_book.specs.declared.page.PageQuery.{PageQuery}
use Rattle.entry_book.specs.declared.page.SelectorMatch.{SelectorMatch}
use Rattle.entry_book.specs.declared.reply.Reply.{Reply}
use Rattle.reg_lines.specs.RecordLines.{batch_json, match_text, mode_text, record_json}
use Rattle.reg_lines.specs.Replies.{given_lifetime}
use Rattle.reg_lines.specs.Values.{if_due, list_data, option_data, reply_data, selector_data, uuid_data, whole}

-- ---- operations

abbrev pub entry_op_data : List ℕ → NewEntry → Option ℕ → Data
entry_op_data word e expected = object (
    put (codes "domains") (list_data string e.domains) (
    put (codes "expiry") (whole e.expiry) (
    put (codes "hint") (string e.hint) (
    put (codes "id") (uuid_data e.id) (
    put (codes "identity") (string e.identity) (
    if_due (codes "jwt_svid_ttl") whole (given_lifetime e.jwt_svid_ttl) (
    put (codes "op") (string word) (
    put (codes "parent") (string e.parent) (
    if_due (codes "revision") whole expected (
    put (codes "selectors") (list_data selector_data e.selectors) (
    if_due (codes "x509_svid_ttl") whole (given_lifetime e.x509_svid_ttl)
    no_members)))))))))))

abbrev pub delete_data : List ℕ → Option ℕ → Data
delete_data id expected = object (
    put (codes "id") (uuid_data id) (
    put (codes "op") (string (codes "delete")) (
    if_due (codes "revision") whole expected
    no_members)))

abbrev pub keyed_op_data : List ℕ → Data → List ℕ → Data
keyed_op_data key value word = object (put key value (put (codes "op") (string word) no_members))

abbrev pub children_data : List ℕ → Data
children_data parent = object (
    put (codes "op") (string (codes "children")) (
    put (codes "parent") (string parent)
    no_members))

abbrev pub match_data : SelectorMatch → Data
match_data condition = string (match_text condition.mode)

abbrev pub selectors_data : SelectorMatch → Data
selectors_data condition = list_data selector_data condition.selectors

abbrev pub page_op_data : PageQuery → Data
page_op_data q = object (
    if_due (codes "at") whole q.at (
    if_due (codes "domain") string q.filter.domain (
    if_due (codes "from") uuid_data q.from (
    if_due (codes "identity") string q.filter.identity (
    if_due (codes "match") match_data q.filter.selectors (
    put (codes "op") (string (codes "page")) (
    if_due (codes "parent") string q.filter.parent (
    if_due (codes "selectors") selectors_data q.filter.selectors (
    put (codes "size") (whole q.size)
    no_members)))))))))

abbrev pub set_agent_data : Agent → Data
set_agent_data a = object (
    put (codes "agent") (string a.id) (
    put (codes "op") (string (codes "set_agent")) (
    put (codes "selectors") (list_data selector_data a.selectors)
    no_members)))

abbrev pub set_bundle_data : List ℕ → List ℕ → Data
set_bundle_data domain text = object (
    put (codes "domain") (string domain) (
    put (codes "op") (string (codes "set_bundle")) (
    put (codes "text") (string text)
    no_members)))

abbrev pub drop_bundle_data : List ℕ → DropMode → Data
drop_bundle_data domain mode = object (
    put (codes "domain") (string domain) (
    put (codes "mode") (string (mode_text mode)) (
    put (codes "op") (string (codes "drop_bundle"))
    no_members)))

abbrev pub op_data : Op → Data
op_data (op.Create e) = entry_op_data (codes "create") e None
op_data (op.Update e expected) = entry_op_data (codes "update") e expected
op_data (op.Delete id expected) = delete_data id expected
op_data (op.Show id) = keyed_op_data (codes "id") (uuid_data id) (codes "show")
op_data (op.ShowAgent id) = keyed_op_data (codes "agent") (string id) (codes "show_agent")
op_data (op.ShowBundle domain) = keyed_op_data (codes "domain") (string domain) (codes "show_bundle")
op_data (op.Children parent) = children_data parent
op_data (op.Page query) = page_op_data query
op_data (op.Authorised id) = keyed_op_data (codes "agent") (string id) (codes "authorised")
op_data (op.Trust id) = keyed_op_data (codes "agent") (string id) (codes "trust")
op_data (op.Prune moment) = keyed_op_data (codes "before") (whole moment) (codes "prune")
op_data (op.SetAgent agent) = set_agent_data agent
op_data (op.DropAgent id) = keyed_op_data (codes "agent") (string id) (codes "drop_agent")
op_data (op.SetBundle domain text) = set_bundle_data domain text
op_data (op.DropBundle domain mode) = drop_bundle_data domain mode

-- ---- a batch, and a call

abbrev pub batch_data : Batch → Data
batch_data batch = object (
    put (codes "after") (whole batch.after) (
    put (codes "ops") (list_data op_data batch.ops) (
    if_due (codes "token") uuid_data batch.token
    no_members)))

abbrev pub record_data : Batch → ℕ → ℕ → Option ℕ → Reply → Data
record_data batch call invoked replied reply = object (
    put (codes "batch") (batch_data batch) (
    put (codes "call") (whole call) (
    put (codes "invoked") (whole invoked) (
    put (codes "replied") (option_data whole replied) (
    put (codes "reply") (reply_data call reply)
    no_members)))))

-- ---- the theorem

abbrev pub BatchesAreCompact : Type 0
BatchesAreCompact = (batch : Batch) → batch_json batch ≡ compact_text (batch_data batch)

abbrev pub RecordsAreCompact : Type 0
RecordsAreCompact = (batch : Batch) (call invoked : ℕ) (replied : Option ℕ) (reply : Reply) → record_json batch call invoked replied reply ≡ compact_text (record_data batch call invoked replied reply)

abbrev pub BatchesHaveNoFloat : Type 0
BatchesHaveNoFloat = (batch : Batch) → has_float (batch_data batch) ≡ false

abbrev pub RecordsHaveNoFloat : Type 0
RecordsHaveNoFloat = (batch : Batch) (call invoked : ℕ) (replied : Option ℕ) (reply : Reply) → has_float (record_data batch call invoked replied reply) ≡ false
