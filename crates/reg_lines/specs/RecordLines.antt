-- The line of a call's record: its batch, the numbers of its invoke and its reply, and the reply. Compact text, with the keys of
-- each object in ascending order of their bytes.
use Rattle.std.specs.Prelude.{ℕ, List, [], ◌++◌, Option, None, Some, codes, decimal}
use Rattle.entry_book.specs.Batches.{Batch}
use Rattle.entry_book.specs.declared.agent.Agent.{Agent}
use Rattle.entry_book.specs.declared.entry.NewEntry.{NewEntry}
use Rattle.entry_book.specs.declared.mode.DropMode.{DropMode}
use Rattle.entry_book.specs.declared.mode.DropMode.TheVariants.{Restrict, Delete, Dissociate}
use Rattle.entry_book.specs.declared.op.Op.{Op}
use Rattle.entry_book.specs.declared.op.Op.TheVariants as op
use Rattle.entry_book.specs.declared.page.MatchMode.{MatchMode}
use Rattle.entry_book.specs.declared.page.MatchMode.TheVariants.{Exact, Any, Superset, Subset}
use Rattle.entry_book.specs.declared.page.PageQuery.{PageQuery}
use Rattle.entry_book.specs.declared.page.SelectorMatch.{SelectorMatch}
use Rattle.entry_book.specs.declared.reply.Reply.{Reply}
use Rattle.reg_lines.specs.Json.{list_json, option_json, text_json}
use Rattle.reg_lines.specs.Replies.{given_lifetime, lifetime_member, reply_json, selector_json, uuid_json}

-- ---- words

abbrev pub mode_text : DropMode → List ℕ
mode_text Restrict = codes "restrict"
mode_text Delete = codes "delete"
mode_text Dissociate = codes "dissociate"

abbrev pub mode_json : DropMode → List ℕ
mode_json mode = text_json (mode_text mode)

abbrev pub match_text : MatchMode → List ℕ
match_text Exact = codes "exact"
match_text Any = codes "any"
match_text Superset = codes "superset"
match_text Subset = codes "subset"

abbrev pub match_json : MatchMode → List ℕ
match_json mode = text_json (match_text mode)

-- ---- members that are printed only if they have a value

-- the value with this text before it
abbrev pub given_member : {A : Type 0} → List ℕ → (A → List ℕ) → Option A → List ℕ
given_member before f None = []
given_member before f (Some x) = before ++ f x

-- the same, with a comma after it, as more members follow
abbrev pub leading_member : {A : Type 0} → List ℕ → (A → List ℕ) → Option A → List ℕ
leading_member before f None = []
leading_member before f (Some x) = before ++ f x ++ codes ","

-- ---- operations

-- an entry that is created or updated, and the expected revision, if there is one
unfoldable pub entry_op_json : List ℕ → NewEntry → Option ℕ → List ℕ
entry_op_json word e expected =
    codes "{\"domains\":" ++ list_json text_json e.domains
    ++ codes ",\"expiry\":" ++ decimal e.expiry
    ++ codes ",\"hint\":" ++ text_json e.hint
    ++ codes ",\"id\":" ++ uuid_json e.id
    ++ codes ",\"identity\":" ++ text_json e.identity
    ++ lifetime_member (codes ",\"jwt_svid_ttl\":") (given_lifetime e.jwt_svid_ttl)
    ++ codes ",\"op\":" ++ text_json word
    ++ codes ",\"parent\":" ++ text_json e.parent
    ++ given_member (codes ",\"revision\":") decimal expected
    ++ codes ",\"selectors\":" ++ list_json selector_json e.selectors
    ++ lifetime_member (codes ",\"x509_svid_ttl\":") (given_lifetime e.x509_svid_ttl)
    ++ codes "}"

unfoldable pub delete_json : List ℕ → Option ℕ → List ℕ
delete_json id expected =
    codes "{\"id\":" ++ uuid_json id
    ++ codes ",\"op\":\"delete\""
    ++ given_member (codes ",\"revision\":") decimal expected
    ++ codes "}"

-- an operation with one key, which comes before its name
unfoldable pub keyed_op_json : List ℕ → List ℕ → List ℕ → List ℕ
keyed_op_json key text word =
    codes "{" ++ text_json key ++ codes ":" ++ text
    ++ codes ",\"op\":" ++ text_json word
    ++ codes "}"

unfoldable pub children_json : List ℕ → List ℕ
children_json parent = codes "{\"op\":\"children\",\"parent\":" ++ text_json parent ++ codes "}"

-- the match mode, with a comma after it, if the page has a condition on selectors
abbrev pub match_member : Option SelectorMatch → List ℕ
match_member None = []
match_member (Some condition) = codes "\"match\":" ++ match_json condition.mode ++ codes ","

abbrev pub selectors_member : Option SelectorMatch → List ℕ
selectors_member None = []
selectors_member (Some condition) = codes ",\"selectors\":" ++ list_json selector_json condition.selectors

unfoldable pub page_op_json : PageQuery → List ℕ
page_op_json q =
    codes "{"
    ++ leading_member (codes "\"at\":") decimal q.at
    ++ leading_member (codes "\"domain\":") text_json q.filter.domain
    ++ leading_member (codes "\"from\":") uuid_json q.from
    ++ leading_member (codes "\"identity\":") text_json q.filter.identity
    ++ match_member q.filter.selectors
    ++ codes "\"op\":\"page\""
    ++ given_member (codes ",\"parent\":") text_json q.filter.parent
    ++ selectors_member q.filter.selectors
    ++ codes ",\"size\":" ++ decimal q.size
    ++ codes "}"

unfoldable pub set_agent_json : Agent → List ℕ
set_agent_json a =
    codes "{\"agent\":" ++ text_json a.id
    ++ codes ",\"op\":\"set_agent\",\"selectors\":" ++ list_json selector_json a.selectors
    ++ codes "}"

unfoldable pub set_bundle_json : List ℕ → List ℕ → List ℕ
set_bundle_json domain text =
    codes "{\"domain\":" ++ text_json domain
    ++ codes ",\"op\":\"set_bundle\",\"text\":" ++ text_json text
    ++ codes "}"

unfoldable pub drop_bundle_json : List ℕ → DropMode → List ℕ
drop_bundle_json domain mode =
    codes "{\"domain\":" ++ text_json domain
    ++ codes ",\"mode\":" ++ mode_json mode
    ++ codes ",\"op\":\"drop_bundle\"}"

-- an object with the name of the operation and its keys
abbrev pub op_json : Op → List ℕ
op_json (op.Create e) = entry_op_json (codes "create") e None
op_json (op.Update e expected) = entry_op_json (codes "update") e expected
op_json (op.Delete id expected) = delete_json id expected
op_json (op.Show id) = keyed_op_json (codes "id") (uuid_json id) (codes "show")
op_json (op.ShowAgent id) = keyed_op_json (codes "agent") (text_json id) (codes "show_agent")
op_json (op.ShowBundle domain) = keyed_op_json (codes "domain") (text_json domain) (codes "show_bundle")
op_json (op.Children parent) = children_json parent
op_json (op.Page query) = page_op_json query
op_json (op.Authorised id) = keyed_op_json (codes "agent") (text_json id) (codes "authorised")
op_json (op.Trust id) = keyed_op_json (codes "agent") (text_json id) (codes "trust")
op_json (op.Prune moment) = keyed_op_json (codes "before") (decimal moment) (codes "prune")
op_json (op.SetAgent agent) = set_agent_json agent
op_json (op.DropAgent id) = keyed_op_json (codes "agent") (text_json id) (codes "drop_agent")
op_json (op.SetBundle domain text) = set_bundle_json domain text
op_json (op.DropBundle domain mode) = drop_bundle_json domain mode

-- ---- a batch, and a call

unfoldable pub batch_json : Batch → List ℕ
batch_json batch =
    codes "{\"after\":" ++ decimal batch.after
    ++ codes ",\"ops\":" ++ list_json op_json batch.ops
    ++ given_member (codes ",\"token\":") uuid_json batch.token
    ++ codes "}"

-- the record of a call: its batch, its number, the numbers of its invoke and its reply among the accepted events, null if it
-- hasn't replied, and its reply
unfoldable pub record_json : Batch → ℕ → ℕ → Option ℕ → Reply → List ℕ
record_json batch call invoked replied reply =
    codes "{\"batch\":" ++ batch_json batch
    ++ codes ",\"call\":" ++ decimal call
    ++ codes ",\"invoked\":" ++ decimal invoked
    ++ codes ",\"replied\":" ++ option_json decimal replied
    ++ codes ",\"reply\":" ++ reply_json call reply
    ++ codes "}"
