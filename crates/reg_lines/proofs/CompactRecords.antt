-- The printed lines of records are the compact texts of values.
use Rattle.std.proofs.Common.{◌≡◌, ℕ, true, false, Less, List, [], ◌∷◌, ◌++◌, Option, None, Some, refl, ap, ◌∙◌, append_assoc}
use Rattle.std.specs.Prelude.{codes, decimal}
use Rattle.std.specs.Ordering.{nat_cmp}
use Rattle.std.specs.Cmp.Lexicographic.{slice_cmp}
use Rattle.serde_json.specs.Data.{Data, object, string, Members, no_members, member, put}
use Rattle.serde_json.specs.Written.{compact_text, has_float, members_have_float, members_text}
use Rattle.serde_json.proofs.OnLiterals.{serde_json_on_literals}
use Rattle.entry_book.specs.declared.agent.Agent.{Agent}
use Rattle.entry_book.specs.declared.entry.NewEntry.{NewEntry}
use Rattle.entry_book.specs.declared.mode.DropMode.{DropMode}
use Rattle.entry_book.specs.declared.op.Op.{Op}
use Rattle.entry_book.specs.declared.op.Op.TheVariants as op
use Rattle.entry_book.specs.declared.page.PageQuery.{PageQuery}
use Rattle.entry_book.specs.declared.page.SelectorMatch.{SelectorMatch}
use Rattle.reg_lines.specs.Json.{list_json, option_json, text_json}
use Rattle.reg_lines.specs.RecordLines.{batch_json, children_json, delete_json, drop_bundle_json, entry_op_json, given_member, keyed_op_json, leading_member, match_json, match_member, op_json, page_op_json, record_json, selectors_member, set_agent_json, set_bundle_json}
use Rattle.reg_lines.specs.RecordValues.{BatchesAreCompact, BatchesHaveNoFloat, RecordsAreCompact, RecordsHaveNoFloat, selectors_data, batch_data, children_data, delete_data, drop_bundle_data, entry_op_data, keyed_op_data, match_data, op_data, page_op_data, set_agent_data, set_bundle_data}
use Rattle.reg_lines.specs.Replies.{given_lifetime, lifetime_member, reply_json, selector_json, uuid_json, uuid_text}
use Rattle.reg_lines.specs.Values.{if_due, list_data, option_data, selector_data, uuid_data, whole}
use Rattle.reg_lines.proofs.Compact.{left-right, right, list_json-is, list-no_float, option_json-is, option-no_float, reply_json-is, reply-no_float, selectors-are, selectors-no_float, text_json-is, texts-are, texts-no_float}

-- ---- entries: by the lifetimes and the revision that are given

abbrev entry_op_text : List ℕ → NewEntry → Option ℕ → Option ℕ → Option ℕ → List ℕ
entry_op_text word e jwt expected x509 =
    codes "{\"domains\":" ++ list_json text_json e.domains
    ++ codes ",\"expiry\":" ++ decimal e.expiry
    ++ codes ",\"hint\":" ++ text_json e.hint
    ++ codes ",\"id\":" ++ uuid_json e.id
    ++ codes ",\"identity\":" ++ text_json e.identity
    ++ lifetime_member (codes ",\"jwt_svid_ttl\":") jwt
    ++ codes ",\"op\":" ++ text_json word
    ++ codes ",\"parent\":" ++ text_json e.parent
    ++ given_member (codes ",\"revision\":") decimal expected
    ++ codes ",\"selectors\":" ++ list_json selector_json e.selectors
    ++ lifetime_member (codes ",\"x509_svid_ttl\":") x509
    ++ codes "}"

abbrev entry_op_value : List ℕ → NewEntry → Option ℕ → Option ℕ → Option ℕ → Data
entry_op_value word e jwt expected x509 = object (
    put (codes "domains") (list_data string e.domains) (
    put (codes "expiry") (whole e.expiry) (
    put (codes "hint") (string e.hint) (
    put (codes "id") (uuid_data e.id) (
    put (codes "identity") (string e.identity) (
    if_due (codes "jwt_svid_ttl") whole jwt (
    put (codes "op") (string word) (
    put (codes "parent") (string e.parent) (
    if_due (codes "revision") whole expected (
    put (codes "selectors") (list_data selector_data e.selectors) (
    if_due (codes "x509_svid_ttl") whole x509
    no_members)))))))))))

abbrev entry_op_parts : List ℕ → NewEntry → Option ℕ → Option ℕ → Option ℕ → List (List ℕ)
entry_op_parts word e jwt expected x509 =
    list_json text_json e.domains
    ∷ codes ",\"expiry\":" ∷ decimal e.expiry
    ∷ codes ",\"hint\":" ∷ text_json e.hint
    ∷ codes ",\"id\":" ∷ text_json (uuid_text e.id)
    ∷ codes ",\"identity\":" ∷ text_json e.identity
    ∷ lifetime_member (codes ",\"jwt_svid_ttl\":") jwt
    ∷ codes ",\"op\":" ∷ text_json word
    ∷ codes ",\"parent\":" ∷ text_json e.parent
    ∷ given_member (codes ",\"revision\":") decimal expected
    ∷ codes ",\"selectors\":" ∷ list_json selector_json e.selectors
    ∷ lifetime_member (codes ",\"x509_svid_ttl\":") x509
    ∷ codes "}" ∷ []

entry_op_pieces : (word : List ℕ) (e : NewEntry) (jwt expected x509 : Option ℕ) → entry_op_text word e jwt expected x509 ≡ codes "{\"domains\":" ++ right (entry_op_parts word e jwt expected x509)
entry_op_pieces word e jwt expected x509 = left-right (codes "{\"domains\":") (entry_op_parts word e jwt expected x509)

entry_op_text-is : (word : List ℕ) (e : NewEntry) (jwt expected x509 : Option ℕ) → entry_op_text word e jwt expected x509 ≡ compact_text (entry_op_value word e jwt expected x509)
unfolding serde_json_on_literals
entry_op_text-is word e None None None = entry_op_pieces word e None None None ∙ simp (text_json-is, texts-are, selectors-are) refl
entry_op_text-is word e None None (Some m) = entry_op_pieces word e None None (Some m) ∙ simp (text_json-is, texts-are, selectors-are) refl
entry_op_text-is word e None (Some r) None = entry_op_pieces word e None (Some r) None ∙ simp (text_json-is, texts-are, selectors-are) refl
entry_op_text-is word e None (Some r) (Some m) = entry_op_pieces word e None (Some r) (Some m) ∙ simp (text_json-is, texts-are, selectors-are) refl
entry_op_text-is word e (Some n) None None = entry_op_pieces word e (Some n) None None ∙ simp (text_json-is, texts-are, selectors-are) refl
entry_op_text-is word e (Some n) None (Some m) = entry_op_pieces word e (Some n) None (Some m) ∙ simp (text_json-is, texts-are, selectors-are) refl
entry_op_text-is word e (Some n) (Some r) None = entry_op_pieces word e (Some n) (Some r) None ∙ simp (text_json-is, texts-are, selectors-are) refl
entry_op_text-is word e (Some n) (Some r) (Some m) = entry_op_pieces word e (Some n) (Some r) (Some m) ∙ simp (text_json-is, texts-are, selectors-are) refl

entry_op_json-is : (word : List ℕ) (e : NewEntry) (expected : Option ℕ) → entry_op_json word e expected ≡ compact_text (entry_op_data word e expected)
unfolding entry_op_json
entry_op_json-is word e expected = entry_op_text-is word e (given_lifetime e.jwt_svid_ttl) expected (given_lifetime e.x509_svid_ttl)

delete_json-is : (id : List ℕ) (expected : Option ℕ) → delete_json id expected ≡ compact_text (delete_data id expected)
unfolding delete_json serde_json_on_literals
delete_json-is id None = simp (append_assoc, text_json-is) refl
delete_json-is id (Some r) = simp (append_assoc, text_json-is) refl

children_json-is : (parent : List ℕ) → children_json parent ≡ compact_text (children_data parent)
unfolding children_json serde_json_on_literals
children_json-is parent = simp (append_assoc, text_json-is) refl

-- ---- pages: an optional key before others

-- the key is before those of the members, and there is one
abbrev IsBefore : List ℕ → Members → Type 0
IsBefore key no_members = ⊥
IsBefore key (member other d ms) = slice_cmp nat_cmp key other ≡ Less

put-front : (key : List ℕ) (d : Data) (ms : Members) → IsBefore key ms → put key d ms ≡ member key d ms
put-front key d no_members b = absurd b
put-front key d (member other e ms) b = rw b refl

-- after a first key, the next member has a comma before it
later_text : (key : List ℕ) (ms : Members) → IsBefore key ms → members_text true ms ≡ 44 ∷ members_text false ms
later_text key no_members b = absurd b
later_text key (member other e ms) b = refl

before_due : {A : Type 0} (key other : List ℕ) (f : A → Data) (o : Option A) (ms : Members) → slice_cmp nat_cmp key other ≡ Less → IsBefore other ms → IsBefore key ms → IsBefore key (if_due other f o ms)
before_due key other f None ms l bo bk = bk
before_due key other f (Some x) ms l bo bk = rw (put-front other (f x) ms bo) l

glued : (q a m : List ℕ) → q ++ 58 ∷ [] ++ a ++ 44 ∷ [] ++ m ≡ q ++ 58 ∷ (a ++ 44 ∷ m)
glued q a m =
    append_assoc (q ++ 58 ∷ [] ++ a) (44 ∷ []) m
    ∙ (append_assoc (q ++ 58 ∷ []) a (44 ∷ m)
    ∙ append_assoc q (58 ∷ []) (a ++ 44 ∷ m))

leading-is : {A : Type 0} (key before : List ℕ) (t : A → List ℕ) (f : A → Data) (o : Option A) (ms : Members) → before ≡ compact_text (string key) ++ 58 ∷ [] → ((x : A) → t x ≡ compact_text (f x)) → IsBefore key ms → leading_member before t o ++ members_text false ms ≡ members_text false (if_due key f o ms)
leading-is key before t f None ms e h b = refl
leading-is key before t f (Some x) ms e h b = rw (put-front key (f x) ms b) (rw (later_text key ms b) (rw e (rw (h x) (glued (compact_text (string key)) (compact_text (f x)) (members_text false ms)))))

-- the members after the optional keys: the operation's name, and those after it in the order of bytes
abbrev page_tail : Option (List ℕ) → Option SelectorMatch → ℕ → Members
page_tail parent condition size =
    put (codes "op") (string (codes "page")) (
    if_due (codes "parent") string parent (
    if_due (codes "selectors") selectors_data condition (
    put (codes "size") (whole size)
    no_members)))

tail-before : (key : List ℕ) (parent : Option (List ℕ)) (condition : Option SelectorMatch) (size : ℕ) → slice_cmp nat_cmp key (codes "op") ≡ Less → IsBefore key (page_tail parent condition size)
tail-before key None None size l = l
tail-before key None (Some m) size l = l
tail-before key (Some p) None size l = l
tail-before key (Some p) (Some m) size l = l

abbrev tail_parts : Option (List ℕ) → Option SelectorMatch → ℕ → List (List ℕ)
tail_parts parent condition size =
    codes "\"op\":\"page\""
    ∷ given_member (codes ",\"parent\":") text_json parent
    ∷ selectors_member condition
    ∷ codes ",\"size\":" ∷ decimal size
    ∷ codes "}" ∷ []

tail-is : (parent : Option (List ℕ)) (condition : Option SelectorMatch) (size : ℕ) → right (tail_parts parent condition size) ≡ members_text false (page_tail parent condition size)
unfolding serde_json_on_literals
tail-is None None size = refl
tail-is None (Some m) size = simp (append_assoc, selectors-are) refl
tail-is (Some p) None size = simp (append_assoc, text_json-is) refl
tail-is (Some p) (Some m) size = simp (append_assoc, text_json-is, selectors-are) refl

match-leading : (condition : Option SelectorMatch) → match_member condition ≡ leading_member (codes "\"match\":") (λ m. match_json m.mode) condition
match-leading None = refl
match-leading (Some m) = refl

-- the optional keys, the last of them first
abbrev with_match : PageQuery → Members
with_match q = if_due (codes "match") match_data q.filter.selectors (page_tail q.filter.parent q.filter.selectors q.size)

abbrev with_identity : PageQuery → Members
with_identity q = if_due (codes "identity") string q.filter.identity (with_match q)

abbrev with_from : PageQuery → Members
with_from q = if_due (codes "from") uuid_data q.from (with_identity q)

abbrev with_domain : PageQuery → Members
with_domain q = if_due (codes "domain") string q.filter.domain (with_from q)

match-before : (key : List ℕ) (q : PageQuery) → slice_cmp nat_cmp key (codes "match") ≡ Less → slice_cmp nat_cmp key (codes "op") ≡ Less → IsBefore key (with_match q)
match-before key q m o = before_due key (codes "match") match_data q.filter.selectors (page_tail q.filter.parent q.filter.selectors q.size) m (tail-before (codes "match") q.filter.parent q.filter.selectors q.size refl) (tail-before key q.filter.parent q.filter.selectors q.size o)

identity-before : (key : List ℕ) (q : PageQuery) → slice_cmp nat_cmp key (codes "identity") ≡ Less → slice_cmp nat_cmp key (codes "match") ≡ Less → slice_cmp nat_cmp key (codes "op") ≡ Less → IsBefore key (with_identity q)
identity-before key q i m o = before_due key (codes "identity") string q.filter.identity (with_match q) i (match-before (codes "identity") q refl refl) (match-before key q m o)

from-before : (key : List ℕ) (q : PageQuery) → slice_cmp nat_cmp key (codes "from") ≡ Less → slice_cmp nat_cmp key (codes "identity") ≡ Less → slice_cmp nat_cmp key (codes "match") ≡ Less → slice_cmp nat_cmp key (codes "op") ≡ Less → IsBefore key (with_from q)
from-before key q f i m o = before_due key (codes "from") uuid_data q.from (with_identity q) f (identity-before (codes "from") q refl refl refl) (identity-before key q i m o)

domain-before : (q : PageQuery) → IsBefore (codes "at") (with_domain q)
domain-before q = before_due (codes "at") (codes "domain") string q.filter.domain (with_from q) refl (from-before (codes "domain") q refl refl refl refl) (from-before (codes "at") q refl refl refl refl)

abbrev page_parts : PageQuery → List (List ℕ)
page_parts q =
    leading_member (codes "\"at\":") decimal q.at
    ∷ leading_member (codes "\"domain\":") text_json q.filter.domain
    ∷ leading_member (codes "\"from\":") uuid_json q.from
    ∷ leading_member (codes "\"identity\":") text_json q.filter.identity
    ∷ match_member q.filter.selectors
    ∷ tail_parts q.filter.parent q.filter.selectors q.size

page-pieces : (q : PageQuery) → page_op_json q ≡ codes "{" ++ right (page_parts q)
unfolding page_op_json
page-pieces q = left-right (codes "{") (page_parts q)

match-is : (q : PageQuery) → match_member q.filter.selectors ++ right (tail_parts q.filter.parent q.filter.selectors q.size) ≡ members_text false (with_match q)
unfolding serde_json_on_literals
match-is q =
    ap (λ l. l ++ right (tail_parts q.filter.parent q.filter.selectors q.size)) (match-leading q.filter.selectors)
    ∙ (ap (λ l. leading_member (codes "\"match\":") (λ m. match_json m.mode) q.filter.selectors ++ l) (tail-is q.filter.parent q.filter.selectors q.size)
    ∙ leading-is (codes "match") (codes "\"match\":") (λ m. match_json m.mode) match_data q.filter.selectors (page_tail q.filter.parent q.filter.selectors q.size) refl (λ m. text_json-is _) (tail-before (codes "match") q.filter.parent q.filter.selectors q.size refl))

identity-is : (q : PageQuery) → leading_member (codes "\"identity\":") text_json q.filter.identity ++ members_text false (with_match q) ≡ members_text false (with_identity q)
unfolding serde_json_on_literals
identity-is q = leading-is (codes "identity") (codes "\"identity\":") text_json string q.filter.identity (with_match q) refl text_json-is (match-before (codes "identity") q refl refl)

from-is : (q : PageQuery) → leading_member (codes "\"from\":") uuid_json q.from ++ members_text false (with_identity q) ≡ members_text false (with_from q)
unfolding serde_json_on_literals
from-is q = leading-is (codes "from") (codes "\"from\":") uuid_json uuid_data q.from (with_identity q) refl (λ id. text_json-is (uuid_text id)) (identity-before (codes "from") q refl refl refl)

domain-is : (q : PageQuery) → leading_member (codes "\"domain\":") text_json q.filter.domain ++ members_text false (with_from q) ≡ members_text false (with_domain q)
unfolding serde_json_on_literals
domain-is q = leading-is (codes "domain") (codes "\"domain\":") text_json string q.filter.domain (with_from q) refl text_json-is (from-before (codes "domain") q refl refl refl refl)

at-is : (q : PageQuery) → leading_member (codes "\"at\":") decimal q.at ++ members_text false (with_domain q) ≡ members_text false (if_due (codes "at") whole q.at (with_domain q))
unfolding serde_json_on_literals
at-is q = leading-is (codes "at") (codes "\"at\":") decimal whole q.at (with_domain q) refl (λ n. refl) (domain-before q)

page_op_json-is : (q : PageQuery) → page_op_json q ≡ compact_text (page_op_data q)
page_op_json-is q =
    let a : List ℕ = leading_member (codes "\"at\":") decimal q.at in
    let d : List ℕ = leading_member (codes "\"domain\":") text_json q.filter.domain in
    let f : List ℕ = leading_member (codes "\"from\":") uuid_json q.from in
    let i : List ℕ = leading_member (codes "\"identity\":") text_json q.filter.identity in
    page-pieces q
    ∙ ap (λ l. 123 ∷ l) (
    ap (λ l. a ++ (d ++ (f ++ (i ++ l)))) (match-is q)
    ∙ (ap (λ l. a ++ (d ++ (f ++ l))) (identity-is q)
    ∙ (ap (λ l. a ++ (d ++ l)) (from-is q)
    ∙ (ap (λ l. a ++ l) (domain-is q)
    ∙ at-is q))))

-- ---- the other operations

set_agent_json-is : (a : Agent) → set_agent_json a ≡ compact_text (set_agent_data a)
unfolding set_agent_json serde_json_on_literals
set_agent_json-is a = simp (append_assoc, text_json-is, selectors-are) refl

set_bundle_json-is : (domain text : List ℕ) → set_bundle_json domain text ≡ compact_text (set_bundle_data domain text)
unfolding set_bundle_json serde_json_on_literals
set_bundle_json-is domain text = simp (append_assoc, text_json-is) refl

drop_bundle_json-is : (domain : List ℕ) (mode : DropMode) → drop_bundle_json domain mode ≡ compact_text (drop_bundle_data domain mode)
unfolding drop_bundle_json serde_json_on_literals
drop_bundle_json-is domain mode = simp (append_assoc, text_json-is) refl

-- an operation with one key
id_op_json-is : (id word : List ℕ) → keyed_op_json (codes "id") (uuid_json id) word ≡ compact_text (keyed_op_data (codes "id") (uuid_data id) word)
unfolding keyed_op_json serde_json_on_literals
id_op_json-is id word = simp (append_assoc, text_json-is) refl

agent_op_json-is : (id word : List ℕ) → keyed_op_json (codes "agent") (text_json id) word ≡ compact_text (keyed_op_data (codes "agent") (string id) word)
unfolding keyed_op_json serde_json_on_literals
agent_op_json-is id word = simp (append_assoc, text_json-is) refl

domain_op_json-is : (domain word : List ℕ) → keyed_op_json (codes "domain") (text_json domain) word ≡ compact_text (keyed_op_data (codes "domain") (string domain) word)
unfolding keyed_op_json serde_json_on_literals
domain_op_json-is domain word = simp (append_assoc, text_json-is) refl

before_op_json-is : (moment : ℕ) (word : List ℕ) → keyed_op_json (codes "before") (decimal moment) word ≡ compact_text (keyed_op_data (codes "before") (whole moment) word)
unfolding keyed_op_json serde_json_on_literals
before_op_json-is moment word =
    left-right (codes "{") (text_json (codes "before") ∷ codes ":" ∷ decimal moment ∷ codes ",\"op\":" ∷ text_json word ∷ codes "}" ∷ [])
    ∙ simp text_json-is refl

pub op_json-is : (o : Op) → op_json o ≡ compact_text (op_data o)
op_json-is (op.Create e) = entry_op_json-is (codes "create") e None
op_json-is (op.Update e expected) = entry_op_json-is (codes "update") e expected
op_json-is (op.Delete id expected) = delete_json-is id expected
op_json-is (op.Show id) = id_op_json-is id (codes "show")
op_json-is (op.ShowAgent id) = agent_op_json-is id (codes "show_agent")
op_json-is (op.ShowBundle domain) = domain_op_json-is domain (codes "show_bundle")
op_json-is (op.Children parent) = children_json-is parent
op_json-is (op.Page query) = page_op_json-is query
op_json-is (op.Authorised id) = agent_op_json-is id (codes "authorised")
op_json-is (op.Trust id) = agent_op_json-is id (codes "trust")
op_json-is (op.Prune moment) = before_op_json-is moment (codes "prune")
op_json-is (op.SetAgent agent) = set_agent_json-is agent
op_json-is (op.DropAgent id) = agent_op_json-is id (codes "drop_agent")
op_json-is (op.SetBundle domain text) = set_bundle_json-is domain text
op_json-is (op.DropBundle domain mode) = drop_bundle_json-is domain mode

-- ---- a batch, and a call

ops-are : (ops : List Op) → list_json op_json ops ≡ compact_text (list_data op_data ops)
ops-are ops = list_json-is op_json op_data op_json-is ops

abbrev batch_parts : ℕ → List Op → Option (List ℕ) → List (List ℕ)
batch_parts after ops token =
    decimal after
    ∷ codes ",\"ops\":" ∷ list_json op_json ops
    ∷ given_member (codes ",\"token\":") uuid_json token
    ∷ codes "}" ∷ []

batch_text-is : (after : ℕ) (ops : List Op) (token : Option (List ℕ)) (domain : List ℕ) → batch_json (record { domain = domain; ops = ops; after = after; token = token }) ≡ compact_text (batch_data (record { domain = domain; ops = ops; after = after; token = token }))
unfolding batch_json serde_json_on_literals
batch_text-is after ops None domain = left-right (codes "{\"after\":") (batch_parts after ops None) ∙ simp ops-are refl
batch_text-is after ops (Some t) domain = left-right (codes "{\"after\":") (batch_parts after ops (Some t)) ∙ simp (ops-are, text_json-is) refl

pub batch_json-is : BatchesAreCompact
batch_json-is batch = batch_text-is batch.after batch.ops batch.token batch.domain

replied-is : (replied : Option ℕ) → option_json decimal replied ≡ compact_text (option_data whole replied)
unfolding serde_json_on_literals
replied-is replied = option_json-is decimal whole (λ n. refl) replied

pub record_json-is : RecordsAreCompact
unfolding record_json serde_json_on_literals
record_json-is batch call invoked replied reply =
    left-right (codes "{\"batch\":") (
    batch_json batch
    ∷ codes ",\"call\":" ∷ decimal call
    ∷ codes ",\"invoked\":" ∷ decimal invoked
    ∷ codes ",\"replied\":" ∷ option_json decimal replied
    ∷ codes ",\"reply\":" ∷ reply_json call reply
    ∷ codes "}" ∷ [])
    ∙ simp (batch_json-is, replied-is, reply_json-is) refl

-- ---- no value has a float

entry_op-no_float : (word : List ℕ) (e : NewEntry) (jwt expected x509 : Option ℕ) → has_float (entry_op_value word e jwt expected x509) ≡ false
entry_op-no_float word e None None None = simp (texts-no_float, selectors-no_float) refl
entry_op-no_float word e None None (Some m) = simp (texts-no_float, selectors-no_float) refl
entry_op-no_float word e None (Some r) None = simp (texts-no_float, selectors-no_float) refl
entry_op-no_float word e None (Some r) (Some m) = simp (texts-no_float, selectors-no_float) refl
entry_op-no_float word e (Some n) None None = simp (texts-no_float, selectors-no_float) refl
entry_op-no_float word e (Some n) None (Some m) = simp (texts-no_float, selectors-no_float) refl
entry_op-no_float word e (Some n) (Some r) None = simp (texts-no_float, selectors-no_float) refl
entry_op-no_float word e (Some n) (Some r) (Some m) = simp (texts-no_float, selectors-no_float) refl

delete-no_float : (id : List ℕ) (expected : Option ℕ) → has_float (delete_data id expected) ≡ false
delete-no_float id None = refl
delete-no_float id (Some r) = refl

due-no_float : {A : Type 0} (key : List ℕ) (f : A → Data) (o : Option A) (ms : Members) → ((x : A) → has_float (f x) ≡ false) → IsBefore key ms → members_have_float ms ≡ false → members_have_float (if_due key f o ms) ≡ false
due-no_float key f None ms h b e = e
due-no_float key f (Some x) ms h b e = rw (put-front key (f x) ms b) (rw (h x) e)

tail-no_float : (parent : Option (List ℕ)) (condition : Option SelectorMatch) (size : ℕ) → members_have_float (page_tail parent condition size) ≡ false
tail-no_float None None size = refl
tail-no_float None (Some m) size = simp selectors-no_float refl
tail-no_float (Some p) None size = refl
tail-no_float (Some p) (Some m) size = simp selectors-no_float refl

page-no_float : (q : PageQuery) → has_float (page_op_data q) ≡ false
page-no_float q =
    let tail = tail-no_float q.filter.parent q.filter.selectors q.size in
    let m = due-no_float (codes "match") match_data q.filter.selectors (page_tail q.filter.parent q.filter.selectors q.size) (λ x. refl) (tail-before (codes "match") q.filter.parent q.filter.selectors q.size refl) tail in
    let i = due-no_float (codes "identity") string q.filter.identity (with_match q) (λ x. refl) (match-before (codes "identity") q refl refl) m in
    let f = due-no_float (codes "from") uuid_data q.from (with_identity q) (λ x. refl) (identity-before (codes "from") q refl refl refl) i in
    let d = due-no_float (codes "domain") string q.filter.domain (with_from q) (λ x. refl) (from-before (codes "domain") q refl refl refl refl) f in
    due-no_float (codes "at") whole q.at (with_domain q) (λ x. refl) (domain-before q) d

op-no_float : (o : Op) → has_float (op_data o) ≡ false
op-no_float (op.Create e) = entry_op-no_float (codes "create") e (given_lifetime e.jwt_svid_ttl) None (given_lifetime e.x509_svid_ttl)
op-no_float (op.Update e expected) = entry_op-no_float (codes "update") e (given_lifetime e.jwt_svid_ttl) expected (given_lifetime e.x509_svid_ttl)
op-no_float (op.Delete id expected) = delete-no_float id expected
op-no_float (op.Show id) = refl
op-no_float (op.ShowAgent id) = refl
op-no_float (op.ShowBundle domain) = refl
op-no_float (op.Children parent) = refl
op-no_float (op.Page query) = page-no_float query
op-no_float (op.Authorised id) = refl
op-no_float (op.Trust id) = refl
op-no_float (op.Prune moment) = refl
op-no_float (op.SetAgent agent) = simp selectors-no_float refl
op-no_float (op.DropAgent id) = refl
op-no_float (op.SetBundle domain text) = refl
op-no_float (op.DropBundle domain mode) = refl

ops-no_float : (ops : List Op) → has_float (list_data op_data ops) ≡ false
ops-no_float ops = list-no_float op_data op-no_float ops

batch_value-no_float : (after : ℕ) (ops : List Op) (token : Option (List ℕ)) (domain : List ℕ) → has_float (batch_data (record { domain = domain; ops = ops; after = after; token = token })) ≡ false
batch_value-no_float after ops None domain = simp ops-no_float refl
batch_value-no_float after ops (Some t) domain = simp ops-no_float refl

pub batch-no_float : BatchesHaveNoFloat
batch-no_float batch = batch_value-no_float batch.after batch.ops batch.token batch.domain

replied-no_float : (replied : Option ℕ) → has_float (option_data whole replied) ≡ false
replied-no_float replied = option-no_float whole (λ n. refl) replied

pub record-no_float : RecordsHaveNoFloat
record-no_float batch call invoked replied reply = simp (batch-no_float, replied-no_float, reply-no_float) refl
