-- The line of the reply to a batch: compact text, with the keys of each object in ascending order of their bytes.
use Rattle.std.specs.Prelude.{ℕ, List, [], ◌++◌, Option, None, Some, nat_lt, if◌then◌else◌, codes, decimal}
use Rattle.uuid.specs.Text.{hyphenated_text, lower}
use Rattle.spiffe_name.specs.Selector.{SelectorPair, selector_text}
use Rattle.entry_book.specs.Codes.{refusal_code, refusal_op}
use Rattle.entry_book.specs.Rows.{Entry}
use Rattle.entry_book.specs.declared.agent.Agent.{Agent}
use Rattle.entry_book.specs.declared.bundle.Bundle.{Bundle}
use Rattle.entry_book.specs.declared.reply.OpRefusal.{OpRefusal}
use Rattle.entry_book.specs.declared.reply.OpRefusal.TheVariants as refused
use Rattle.entry_book.specs.declared.reply.OpReply.{OpReply}
use Rattle.entry_book.specs.declared.reply.OpReply.TheVariants as replied
use Rattle.entry_book.specs.declared.reply.ReplyOutcome.{ReplyOutcome}
use Rattle.entry_book.specs.declared.reply.ReplyOutcome.TheVariants as outcome
use Rattle.entry_book.specs.declared.reply.Refusal.{Refusal}
use Rattle.entry_book.specs.declared.reply.Refusal.TheVariants.{Full, NotYet, OfOp, TokenReused}
use Rattle.entry_book.specs.declared.reply.Reply.{Reply}
use Rattle.entry_book.specs.declared.reply.CallAnswer.{CallAnswer}
use Rattle.entry_book.specs.declared.reply.CallAnswer.TheVariants.{Replied, Conflict}
use Rattle.reg_lines.specs.Json.{list_json, option_json, text_json}
use Rattle.reg_lines.specs.Refusals.{op_member}

-- ---- names and rows

-- the hyphenated form in lower case
abbrev pub uuid_text : List ℕ → List ℕ
uuid_text id = hyphenated_text lower id

abbrev pub uuid_json : List ℕ → List ℕ
uuid_json id = text_json (uuid_text id)

abbrev pub selector_json : SelectorPair → List ℕ
selector_json s = text_json (selector_text s)

-- a lifetime in seconds; None for 0, which means the server's default
abbrev pub given_lifetime : ℕ → Option ℕ
given_lifetime seconds = if nat_lt 0 seconds then Some seconds else None

-- the lifetime with this text before it, if one is given
abbrev pub lifetime_member : List ℕ → Option ℕ → List ℕ
lifetime_member before None = []
lifetime_member before (Some seconds) = before ++ decimal seconds

unfoldable pub entry_json : Entry → List ℕ
entry_json e =
    codes "{\"domains\":" ++ list_json text_json e.domains
    ++ codes ",\"expiry\":" ++ decimal e.expiry
    ++ codes ",\"hint\":" ++ text_json e.hint
    ++ codes ",\"id\":" ++ uuid_json e.id
    ++ codes ",\"identity\":" ++ text_json e.identity
    ++ lifetime_member (codes ",\"jwt_svid_ttl\":") (given_lifetime e.jwt_svid_ttl)
    ++ codes ",\"parent\":" ++ text_json e.parent
    ++ codes ",\"revision\":" ++ decimal e.revision
    ++ codes ",\"selectors\":" ++ list_json selector_json e.selectors
    ++ lifetime_member (codes ",\"x509_svid_ttl\":") (given_lifetime e.x509_svid_ttl)
    ++ codes "}"

unfoldable pub agent_json : Agent → List ℕ
agent_json a =
    codes "{\"id\":" ++ text_json a.id
    ++ codes ",\"selectors\":" ++ list_json selector_json a.selectors
    ++ codes "}"

unfoldable pub bundle_json : Bundle → List ℕ
bundle_json b =
    codes "{\"domain\":" ++ text_json b.domain
    ++ codes ",\"sequence\":" ++ decimal b.sequence
    ++ codes ",\"text\":" ++ text_json b.text
    ++ codes "}"

-- ---- the reply to an operation

-- an object with one key
unfoldable pub under : List ℕ → List ℕ → List ℕ
under key text = codes "{" ++ text_json key ++ codes ":" ++ text ++ codes "}"

-- the entries of a page, each with this text, and the id after which the next page begins, or null
unfoldable pub page_of : {X : Type 0} → (X → List ℕ) → List X → Option (List ℕ) → List ℕ
page_of text es next =
    codes "{\"entries\":" ++ list_json text es
    ++ codes ",\"next\":" ++ option_json uuid_json next
    ++ codes "}"

abbrev pub page_json : List Entry → Option (List ℕ) → List ℕ
page_json es next = page_of entry_json es next

-- the entries of a dropped bundle: the ids that were deleted, and those that were dissociated
unfoldable pub dropped_json : List (List ℕ) → List (List ℕ) → List ℕ
dropped_json deleted dissociated =
    codes "{\"deleted\":" ++ list_json uuid_json deleted
    ++ codes ",\"dissociated\":" ++ list_json uuid_json dissociated
    ++ codes "}"

-- an object whose first key names the kind of the reply; a row that doesn't exist is null
abbrev pub op_reply_json : OpReply → List ℕ
op_reply_json (replied.Entry e) = under (codes "entry") (entry_json e)
op_reply_json (replied.EntryShown e) = under (codes "entry") (option_json entry_json e)
op_reply_json (replied.Entries es) = under (codes "entries") (list_json entry_json es)
op_reply_json (replied.Page es next) = page_json es next
op_reply_json (replied.Agent a) = under (codes "agent") (agent_json a)
op_reply_json (replied.AgentShown a) = under (codes "agent") (option_json agent_json a)
op_reply_json (replied.Bundle b) = under (codes "bundle") (bundle_json b)
op_reply_json (replied.BundleShown b) = under (codes "bundle") (option_json bundle_json b)
op_reply_json (replied.Bundles bs) = under (codes "bundles") (list_json bundle_json bs)
op_reply_json (replied.Pruned ids) = under (codes "pruned") (list_json uuid_json ids)
op_reply_json (replied.Dropped deleted dissociated) = dropped_json deleted dissociated

-- ---- the reply to a batch, with its call number

-- the operations were all executed, with replies each of which has this text
unfoldable pub done_of : {X : Type 0} → (X → List ℕ) → ℕ → ℕ → List X → List ℕ → List ℕ
done_of text call place replies result =
    codes "{\"call\":" ++ decimal call
    ++ codes ",\"place\":" ++ decimal place
    ++ codes ",\"replies\":" ++ list_json text replies
    ++ codes ",\"result\":" ++ text_json result
    ++ codes "}"

abbrev pub done_json : ℕ → ℕ → List OpReply → List ℕ → List ℕ
done_json call place replies result = done_of op_reply_json call place replies result

-- the detail of an operation's refusal: the id of the similar entry, or the missing trust domain
abbrev pub op_detail_member : OpRefusal → List ℕ
op_detail_member refused.IdTaken = []
op_detail_member (refused.Similar id) = codes ",\"detail\":" ++ uuid_json id
op_detail_member refused.NoEntry = []
op_detail_member refused.StaleRevision = []
op_detail_member (refused.NoBundle domain) = codes ",\"detail\":" ++ text_json domain
op_detail_member refused.BundleInUse = []
op_detail_member refused.NoAgent = []
op_detail_member refused.VersionGone = []

abbrev pub detail_member : Refusal → List ℕ
detail_member NotYet = []
detail_member TokenReused = []
detail_member (OfOp n r) = op_detail_member r
detail_member (Full limit) = []

-- the refusal of a batch; neither `detail` nor `op` if it belongs to no single operation
unfoldable pub refused_json : ℕ → ℕ → Refusal → List ℕ
refused_json call place r =
    codes "{\"call\":" ++ decimal call
    ++ codes ",\"code\":" ++ text_json (refusal_code r)
    ++ detail_member r
    ++ op_member (refusal_op r)
    ++ codes ",\"place\":" ++ decimal place
    ++ codes ",\"result\":\"refused\"}"

abbrev pub outcome_json : ℕ → ℕ → ReplyOutcome → List ℕ
outcome_json call place (outcome.Committed replies) = done_json call place replies (codes "committed")
outcome_json call place (outcome.Answered replies) = done_json call place replies (codes "answered")
outcome_json call place (outcome.Repeated replies) = done_json call place replies (codes "repeated")
outcome_json call place (outcome.Refused refusal) = refused_json call place refusal

abbrev pub reply_json : ℕ → Reply → List ℕ
reply_json call reply = outcome_json call reply.place reply.outcome

-- a call that ended in a conflict, which was found at this place
unfoldable pub conflict_json : ℕ → ℕ → List ℕ
conflict_json call place =
    codes "{\"call\":" ++ decimal call
    ++ codes ",\"place\":" ++ decimal place
    ++ codes ",\"result\":\"conflict\"}"

-- the answer to a call
abbrev pub answer_json : ℕ → CallAnswer → List ℕ
answer_json call (Replied reply) = reply_json call reply
answer_json call (Conflict place) = conflict_json call place
