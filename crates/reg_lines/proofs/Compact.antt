-- Printed texts are the compact texts of values.
use Rattle.std.proofs.Common.{◌≡◌, ◌||◌, ℕ, true, false, List, [], ◌∷◌, ◌++◌, map, Option, None, Some, refl, sym, ap, ◌∙◌, append_assoc, append-nil, arith}
use Rattle.std.specs.Prelude.{codes, decimal}
use Rattle.std.specs.List.{flat_map}
use Rattle.std.proofs.lemmas.Bool.Decides.{nat_tests}
use Rattle.serde_json.specs.Data.{Data, object, string, put, no_members}
use Rattle.serde_json.specs.View.{items_of}
use Rattle.serde_json.specs.Written.{compact_text, has_float, items_text}
use Rattle.serde_json.proofs.OnLiterals.{serde_json_on_literals}
use Rattle.reg_lines.specs.Json.{escaped, text_json, list_json, option_json}
use Rattle.spiffe_name.specs.Selector.{SelectorPair, selector_text}
use Rattle.entry_book.specs.Codes.{refusal_code, refusal_op}
use Rattle.entry_book.specs.Rows.{Entry}
use Rattle.entry_book.specs.declared.agent.Agent.{Agent}
use Rattle.entry_book.specs.declared.bundle.Bundle.{Bundle}
use Rattle.entry_book.specs.declared.limit.Limit.TheVariants as limit
use Rattle.spiffe_name.specs.declared.refusals.Failure.{Failure}
use Rattle.spiffe_name.specs.declared.refusals.Failure.TheVariants.{NoMemory, Refused}
use Rattle.entry_book.specs.declared.reply.OpRefusal.TheVariants as refused
use Rattle.entry_book.specs.declared.reply.ReplyOutcome.{ReplyOutcome}
use Rattle.entry_book.specs.declared.reply.ReplyOutcome.TheVariants as outcome
use Rattle.entry_book.specs.declared.reply.Refusal.{Refusal}
use Rattle.entry_book.specs.declared.reply.Refusal.TheVariants.{Full, NotYet, OfOp, TokenReused}
use Rattle.entry_book.specs.declared.reply.Reply.{Reply}
use Rattle.entry_book.specs.declared.reply.OpReply.{OpReply}
use Rattle.entry_book.specs.declared.reply.OpReply.TheVariants as replied
use Rattle.line_reading.specs.declared.fault.Code.{Code}
use Rattle.line_reading.specs.declared.fault.Fault.{Fault}
use Rattle.line_reading.specs.declared.fault.Field.{Field}
use Rattle.line_reading.specs.declared.refusal.LineRefusal.{LineRefusal}
use Rattle.reg_lines.specs.Refusals.{fault_json, failure_json, op_member, refusal_json, refused_line_json}
use Rattle.reg_lines.specs.Replies.{agent_json, bundle_json, detail_member, dropped_json, entry_json, given_lifetime, lifetime_member, op_reply_json, selector_json, uuid_json, uuid_text, under, done_json, done_of, refused_json, outcome_json, reply_json, page_json, page_of, conflict_json}
use Rattle.reg_lines.specs.Values.{whole, if_due, list_data, option_data, uuid_data, selector_data, agent_data, bundle_data, dropped_data, entry_data, op_reply_data, done_data, refused_data, outcome_data, reply_data, fault_data, failure_data, refusal_data, refused_line_data, page_data, conflict_data}

same_for_all : (f g : ℕ → List ℕ) → ((b : ℕ) → f b ≡ g b) → (s : List ℕ) → flat_map f s ≡ flat_map g s
same_for_all f g h [] = refl
same_for_all f g h (b ∷ s) = ap (λ l. l ++ flat_map f s) (h b) ∙ ap (λ l. g b ++ l) (same_for_all f g h s)

pub text_json-is : (s : List ℕ) → text_json s ≡ compact_text (string s)
unfolding text_json escaped serde_json_on_literals
text_json-is s = ap (λ l. 34 ∷ (l ++ 34 ∷ [])) (same_for_all escaped _ (λ b. grind (arith, nat_tests)) s)

later_items : {A : Type 0} (f : A → List ℕ) (g : A → Data) → ((x : A) → f x ≡ compact_text (g x)) → (xs : List A) → flat_map (λ y. codes "," ++ f y) xs ++ codes "]" ≡ items_text true (items_of (map g xs))
later_items f g h [] = refl
later_items f g h (x ∷ xs) =
    ap (λ l. 44 ∷ l) (append_assoc (f x) (flat_map (λ y. codes "," ++ f y) xs) (codes "]")
    ∙ (ap (λ l. f x ++ l) (later_items f g h xs) ∙ ap (λ l. l ++ items_text true (items_of (map g xs))) (h x)))

pub list_json-is : {A : Type 0} (f : A → List ℕ) (g : A → Data) → ((x : A) → f x ≡ compact_text (g x)) → (xs : List A) → list_json f xs ≡ compact_text (list_data g xs)
unfolding list_json
list_json-is f g h [] = refl
list_json-is f g h (x ∷ xs) =
    ap (λ l. 91 ∷ l) (append_assoc (f x) (flat_map (λ y. codes "," ++ f y) xs) (codes "]")
    ∙ (ap (λ l. f x ++ l) (later_items f g h xs) ∙ ap (λ l. l ++ items_text true (items_of (map g xs))) (h x)))

pub texts-are : (xs : List (List ℕ)) → list_json text_json xs ≡ compact_text (list_data string xs)
texts-are xs = list_json-is text_json string text_json-is xs

pub selectors-are : (xs : List SelectorPair) → list_json selector_json xs ≡ compact_text (list_data selector_data xs)
selectors-are xs = list_json-is selector_json selector_data (λ s. text_json-is (selector_text s)) xs

pub agent_json-is : (a : Agent) → agent_json a ≡ compact_text (agent_data a)
unfolding agent_json serde_json_on_literals
agent_json-is a = simp (append_assoc, text_json-is, selectors-are) refl

-- ---- texts one after another, joined from the left and from the right

abbrev pub left : List ℕ → List (List ℕ) → List ℕ
left a [] = a
left a (p ∷ ps) = left (a ++ p) ps

abbrev pub right : List (List ℕ) → List ℕ
right [] = []
right (p ∷ ps) = p ++ right ps

pub left-right : (a : List ℕ) (ps : List (List ℕ)) → left a ps ≡ a ++ right ps
left-right a [] = sym (append-nil a)
left-right a (p ∷ ps) = left-right (a ++ p) ps ∙ append_assoc a p (right ps)

-- the text and the value of an entry, by the lifetimes that are given
abbrev entry_text : Entry → Option ℕ → Option ℕ → List ℕ
entry_text e jwt x509 =
    codes "{\"domains\":" ++ list_json text_json e.domains
    ++ codes ",\"expiry\":" ++ decimal e.expiry
    ++ codes ",\"hint\":" ++ text_json e.hint
    ++ codes ",\"id\":" ++ uuid_json e.id
    ++ codes ",\"identity\":" ++ text_json e.identity
    ++ lifetime_member (codes ",\"jwt_svid_ttl\":") jwt
    ++ codes ",\"parent\":" ++ text_json e.parent
    ++ codes ",\"revision\":" ++ decimal e.revision
    ++ codes ",\"selectors\":" ++ list_json selector_json e.selectors
    ++ lifetime_member (codes ",\"x509_svid_ttl\":") x509
    ++ codes "}"

abbrev entry_value : Entry → Option ℕ → Option ℕ → Data
entry_value e jwt x509 = object (
    put (codes "domains") (list_data string e.domains) (
    put (codes "expiry") (whole e.expiry) (
    put (codes "hint") (string e.hint) (
    put (codes "id") (uuid_data e.id) (
    put (codes "identity") (string e.identity) (
    if_due (codes "jwt_svid_ttl") whole jwt (
    put (codes "parent") (string e.parent) (
    put (codes "revision") (whole e.revision) (
    put (codes "selectors") (list_data selector_data e.selectors) (
    if_due (codes "x509_svid_ttl") whole x509
    no_members))))))))))

abbrev entry_parts : Entry → Option ℕ → Option ℕ → List (List ℕ)
entry_parts e jwt x509 =
    list_json text_json e.domains
    ∷ codes ",\"expiry\":" ∷ decimal e.expiry
    ∷ codes ",\"hint\":" ∷ text_json e.hint
    ∷ codes ",\"id\":" ∷ text_json (uuid_text e.id)
    ∷ codes ",\"identity\":" ∷ text_json e.identity
    ∷ lifetime_member (codes ",\"jwt_svid_ttl\":") jwt
    ∷ codes ",\"parent\":" ∷ text_json e.parent
    ∷ codes ",\"revision\":" ∷ decimal e.revision
    ∷ codes ",\"selectors\":" ∷ list_json selector_json e.selectors
    ∷ lifetime_member (codes ",\"x509_svid_ttl\":") x509
    ∷ codes "}" ∷ []

entry_pieces : (e : Entry) (jwt x509 : Option ℕ) → entry_text e jwt x509 ≡ codes "{\"domains\":" ++ right (entry_parts e jwt x509)
entry_pieces e jwt x509 = left-right (codes "{\"domains\":") (entry_parts e jwt x509)

entry_text-is : (e : Entry) (jwt x509 : Option ℕ) → entry_text e jwt x509 ≡ compact_text (entry_value e jwt x509)
unfolding serde_json_on_literals
entry_text-is e None None = entry_pieces e None None ∙ simp (text_json-is, texts-are, selectors-are) refl
entry_text-is e None (Some m) = entry_pieces e None (Some m) ∙ simp (text_json-is, texts-are, selectors-are) refl
entry_text-is e (Some n) None = entry_pieces e (Some n) None ∙ simp (text_json-is, texts-are, selectors-are) refl
entry_text-is e (Some n) (Some m) = entry_pieces e (Some n) (Some m) ∙ simp (text_json-is, texts-are, selectors-are) refl

pub entry_json-is : (e : Entry) → entry_json e ≡ compact_text (entry_data e)
unfolding entry_json
entry_json-is e = entry_text-is e (given_lifetime e.jwt_svid_ttl) (given_lifetime e.x509_svid_ttl)

bundle_json-is : (b : Bundle) → bundle_json b ≡ compact_text (bundle_data b)
unfolding bundle_json serde_json_on_literals
bundle_json-is b = simp (append_assoc, text_json-is) refl

ids-are : (ids : List (List ℕ)) → list_json uuid_json ids ≡ compact_text (list_data uuid_data ids)
ids-are ids = list_json-is uuid_json uuid_data (λ id. text_json-is (uuid_text id)) ids

dropped_json-is : (deleted dissociated : List (List ℕ)) → dropped_json deleted dissociated ≡ compact_text (dropped_data deleted dissociated)
unfolding dropped_json serde_json_on_literals
dropped_json-is deleted dissociated =
    left-right (codes "{\"deleted\":") (
    list_json uuid_json deleted
    ∷ codes ",\"dissociated\":" ∷ list_json uuid_json dissociated
    ∷ codes "}" ∷ [])
    ∙ simp ids-are refl

pub option_json-is : {A : Type 0} (f : A → List ℕ) (g : A → Data) → ((x : A) → f x ≡ compact_text (g x)) → (o : Option A) → option_json f o ≡ compact_text (option_data g o)
unfolding serde_json_on_literals
option_json-is f g h None = refl
option_json-is f g h (Some x) = h x

entries-are : (es : List Entry) → list_json entry_json es ≡ compact_text (list_data entry_data es)
entries-are es = list_json-is entry_json entry_data entry_json-is es

entry_shown-is : (e : Option Entry) → option_json entry_json e ≡ compact_text (option_data entry_data e)
entry_shown-is e = option_json-is entry_json entry_data entry_json-is e

agent_shown-is : (a : Option Agent) → option_json agent_json a ≡ compact_text (option_data agent_data a)
agent_shown-is a = option_json-is agent_json agent_data agent_json-is a

bundle_shown-is : (b : Option Bundle) → option_json bundle_json b ≡ compact_text (option_data bundle_data b)
bundle_shown-is b = option_json-is bundle_json bundle_data bundle_json-is b

next-is : (next : Option (List ℕ)) → option_json uuid_json next ≡ compact_text (option_data uuid_data next)
next-is next = option_json-is uuid_json uuid_data (λ id. text_json-is (uuid_text id)) next

page_json-is : (es : List Entry) (next : Option (List ℕ)) → page_json es next ≡ compact_text (page_data es next)
unfolding page_of serde_json_on_literals
page_json-is es next =
    left-right (codes "{\"entries\":") (
    list_json entry_json es
    ∷ codes ",\"next\":" ∷ option_json uuid_json next
    ∷ codes "}" ∷ [])
    ∙ simp (entries-are, next-is) refl

bundles-are : (bs : List Bundle) → list_json bundle_json bs ≡ compact_text (list_data bundle_data bs)
bundles-are bs = list_json-is bundle_json bundle_data bundle_json-is bs

pub op_reply_json-is : (r : OpReply) → op_reply_json r ≡ compact_text (op_reply_data r)
unfolding under serde_json_on_literals
op_reply_json-is (replied.Entry e) = simp (append_assoc, text_json-is, entry_json-is) refl
op_reply_json-is (replied.EntryShown e) = simp (append_assoc, text_json-is, entry_shown-is) refl
op_reply_json-is (replied.Entries es) = simp (append_assoc, text_json-is, entries-are) refl
op_reply_json-is (replied.Page es next) = page_json-is es next
op_reply_json-is (replied.Agent a) = simp (append_assoc, text_json-is, agent_json-is) refl
op_reply_json-is (replied.AgentShown a) = simp (append_assoc, text_json-is, agent_shown-is) refl
op_reply_json-is (replied.Bundle b) = simp (append_assoc, text_json-is, bundle_json-is) refl
op_reply_json-is (replied.BundleShown b) = simp (append_assoc, text_json-is, bundle_shown-is) refl
op_reply_json-is (replied.Bundles bs) = simp (append_assoc, text_json-is, bundles-are) refl
op_reply_json-is (replied.Pruned ids) = simp (append_assoc, text_json-is, ids-are) refl
op_reply_json-is (replied.Dropped deleted dissociated) = dropped_json-is deleted dissociated

replies-are : (rs : List OpReply) → list_json op_reply_json rs ≡ compact_text (list_data op_reply_data rs)
replies-are rs = list_json-is op_reply_json op_reply_data op_reply_json-is rs

done_json-is : (call place : ℕ) (rs : List OpReply) (word : List ℕ) → done_json call place rs word ≡ compact_text (done_data call place rs word)
unfolding done_of serde_json_on_literals
done_json-is call place rs word =
    left-right (codes "{\"call\":") (
    decimal call
    ∷ codes ",\"place\":" ∷ decimal place
    ∷ codes ",\"replies\":" ∷ list_json op_reply_json rs
    ∷ codes ",\"result\":" ∷ text_json word
    ∷ codes "}" ∷ [])
    ∙ simp (text_json-is, replies-are) refl

abbrev refused_pieces : ℕ → ℕ → Refusal → List (List ℕ)
refused_pieces call place r =
    decimal call
    ∷ codes ",\"code\":" ∷ text_json (refusal_code r)
    ∷ detail_member r
    ∷ op_member (refusal_op r)
    ∷ codes ",\"place\":" ∷ decimal place
    ∷ codes ",\"result\":\"refused\"}" ∷ []

refused_json-pieces : (call place : ℕ) (r : Refusal) → refused_json call place r ≡ codes "{\"call\":" ++ right (refused_pieces call place r)
unfolding refused_json
refused_json-pieces call place r = left-right (codes "{\"call\":") (refused_pieces call place r)

refused_json-is : (call place : ℕ) (r : Refusal) → refused_json call place r ≡ compact_text (refused_data call place r)
unfolding serde_json_on_literals
refused_json-is call place NotYet = refused_json-pieces call place NotYet ∙ simp (append_assoc, text_json-is) refl
refused_json-is call place TokenReused = refused_json-pieces call place TokenReused ∙ simp (append_assoc, text_json-is) refl
refused_json-is call place (OfOp n refused.IdTaken) = refused_json-pieces call place (OfOp n refused.IdTaken) ∙ simp (append_assoc, text_json-is) refl
refused_json-is call place (OfOp n (refused.Similar id)) = refused_json-pieces call place (OfOp n (refused.Similar id)) ∙ simp (append_assoc, text_json-is) refl
refused_json-is call place (OfOp n refused.NoEntry) = refused_json-pieces call place (OfOp n refused.NoEntry) ∙ simp (append_assoc, text_json-is) refl
refused_json-is call place (OfOp n refused.StaleRevision) = refused_json-pieces call place (OfOp n refused.StaleRevision) ∙ simp (append_assoc, text_json-is) refl
refused_json-is call place (OfOp n (refused.NoBundle domain)) = refused_json-pieces call place (OfOp n (refused.NoBundle domain)) ∙ simp (append_assoc, text_json-is) refl
refused_json-is call place (OfOp n refused.BundleInUse) = refused_json-pieces call place (OfOp n refused.BundleInUse) ∙ simp (append_assoc, text_json-is) refl
refused_json-is call place (OfOp n refused.NoAgent) = refused_json-pieces call place (OfOp n refused.NoAgent) ∙ simp (append_assoc, text_json-is) refl
refused_json-is call place (OfOp n refused.VersionGone) = refused_json-pieces call place (OfOp n refused.VersionGone) ∙ simp (append_assoc, text_json-is) refl
refused_json-is call place (Full limit.History) = refused_json-pieces call place (Full limit.History) ∙ simp (append_assoc, text_json-is) refl
refused_json-is call place (Full limit.Entries) = refused_json-pieces call place (Full limit.Entries) ∙ simp (append_assoc, text_json-is) refl
refused_json-is call place (Full limit.Agents) = refused_json-pieces call place (Full limit.Agents) ∙ simp (append_assoc, text_json-is) refl
refused_json-is call place (Full limit.Bundles) = refused_json-pieces call place (Full limit.Bundles) ∙ simp (append_assoc, text_json-is) refl
refused_json-is call place (Full limit.Tokens) = refused_json-pieces call place (Full limit.Tokens) ∙ simp (append_assoc, text_json-is) refl

outcome_json-is : (call place : ℕ) (o : ReplyOutcome) → outcome_json call place o ≡ compact_text (outcome_data call place o)
outcome_json-is call place (outcome.Committed rs) = done_json-is call place rs (codes "committed")
outcome_json-is call place (outcome.Answered rs) = done_json-is call place rs (codes "answered")
outcome_json-is call place (outcome.Repeated rs) = done_json-is call place rs (codes "repeated")
outcome_json-is call place (outcome.Refused r) = refused_json-is call place r

pub reply_json-is : (call : ℕ) (reply : Reply) → reply_json call reply ≡ compact_text (reply_data call reply)
reply_json-is call reply = outcome_json-is call reply.place reply.outcome

pub conflict_json-is : (call place : ℕ) → conflict_json call place ≡ compact_text (conflict_data call place)
unfolding conflict_json serde_json_on_literals
conflict_json-is call place =
    left-right (codes "{\"call\":") (decimal call ∷ codes ",\"place\":" ∷ decimal place ∷ codes ",\"result\":\"conflict\"}" ∷ [])
    ∙ refl

fault_json-is : (line : ℕ) (c : Code) (field : Option Field) (op : Option ℕ) → fault_json line (record { code = c; field = field; op = op }) ≡ compact_text (fault_data line (record { code = c; field = field; op = op }))
unfolding fault_json serde_json_on_literals
fault_json-is line c None None = simp (append_assoc, text_json-is) refl
fault_json-is line c None (Some n) = simp (append_assoc, text_json-is) refl
fault_json-is line c (Some field) None = simp (append_assoc, text_json-is) refl
fault_json-is line c (Some field) (Some n) = simp (append_assoc, text_json-is) refl

pub refused_line_json-is : (line : ℕ) (code : List ℕ) → refused_line_json line code ≡ compact_text (refused_line_data line code)
unfolding refused_line_json serde_json_on_literals
refused_line_json-is line code =
    left-right (codes "{\"code\":") (text_json code ∷ codes ",\"line\":" ∷ decimal line ∷ codes "}" ∷ [])
    ∙ simp text_json-is refl

failure_json-is : (line : ℕ) (e : Failure Fault) → failure_json line e ≡ compact_text (failure_data line e)
failure_json-is line NoMemory = refused_line_json-is line (codes "L6")
failure_json-is line (Refused f) = fault_json-is line f.code f.field f.op

pub refusal_json-is : (r : LineRefusal) → refusal_json r ≡ compact_text (refusal_data r)
refusal_json-is r = failure_json-is r.line r.failure

-- ---- no value has a float

pub list-no_float : {A : Type 0} (g : A → Data) → ((x : A) → has_float (g x) ≡ false) → (xs : List A) → has_float (list_data g xs) ≡ false
list-no_float g h [] = refl
list-no_float g h (x ∷ xs) = ap (λ b. b || has_float (list_data g xs)) (h x) ∙ list-no_float g h xs

pub texts-no_float : (xs : List (List ℕ)) → has_float (list_data string xs) ≡ false
texts-no_float xs = list-no_float string (λ x. refl) xs

pub selectors-no_float : (xs : List SelectorPair) → has_float (list_data selector_data xs) ≡ false
selectors-no_float xs = list-no_float selector_data (λ x. refl) xs

entry_value-no_float : (e : Entry) (jwt x509 : Option ℕ) → has_float (entry_value e jwt x509) ≡ false
entry_value-no_float e None None = simp (texts-no_float, selectors-no_float) refl
entry_value-no_float e None (Some m) = simp (texts-no_float, selectors-no_float) refl
entry_value-no_float e (Some n) None = simp (texts-no_float, selectors-no_float) refl
entry_value-no_float e (Some n) (Some m) = simp (texts-no_float, selectors-no_float) refl

entry-no_float : (e : Entry) → has_float (entry_data e) ≡ false
entry-no_float e = entry_value-no_float e (given_lifetime e.jwt_svid_ttl) (given_lifetime e.x509_svid_ttl)

agent-no_float : (a : Agent) → has_float (agent_data a) ≡ false
agent-no_float a = simp selectors-no_float refl

entries-no_float : (es : List Entry) → has_float (list_data entry_data es) ≡ false
entries-no_float es = list-no_float entry_data entry-no_float es

bundle-no_float : (b : Bundle) → has_float (bundle_data b) ≡ false
bundle-no_float b = refl

bundles-no_float : (bs : List Bundle) → has_float (list_data bundle_data bs) ≡ false
bundles-no_float bs = list-no_float bundle_data bundle-no_float bs

ids-no_float : (ids : List (List ℕ)) → has_float (list_data uuid_data ids) ≡ false
ids-no_float ids = list-no_float uuid_data (λ id. refl) ids

pub option-no_float : {A : Type 0} (g : A → Data) → ((x : A) → has_float (g x) ≡ false) → (o : Option A) → has_float (option_data g o) ≡ false
option-no_float g h None = refl
option-no_float g h (Some x) = h x

op_reply-no_float : (r : OpReply) → has_float (op_reply_data r) ≡ false
op_reply-no_float (replied.Entry e) = simp entry-no_float refl
op_reply-no_float (replied.EntryShown e) = simp (option-no_float entry_data entry-no_float) refl
op_reply-no_float (replied.Entries es) = simp entries-no_float refl
op_reply-no_float (replied.Page es next) = simp (entries-no_float, option-no_float uuid_data (λ id. refl)) refl
op_reply-no_float (replied.Agent a) = simp agent-no_float refl
op_reply-no_float (replied.AgentShown a) = simp (option-no_float agent_data agent-no_float) refl
op_reply-no_float (replied.Bundle b) = simp bundle-no_float refl
op_reply-no_float (replied.BundleShown b) = simp (option-no_float bundle_data bundle-no_float) refl
op_reply-no_float (replied.Bundles bs) = simp bundles-no_float refl
op_reply-no_float (replied.Pruned ids) = simp ids-no_float refl
op_reply-no_float (replied.Dropped deleted dissociated) = simp ids-no_float refl

replies-no_float : (rs : List OpReply) → has_float (list_data op_reply_data rs) ≡ false
replies-no_float rs = list-no_float op_reply_data op_reply-no_float rs

outcome-no_float : (call place : ℕ) (o : ReplyOutcome) → has_float (outcome_data call place o) ≡ false
outcome-no_float call place (outcome.Committed rs) = simp replies-no_float refl
outcome-no_float call place (outcome.Answered rs) = simp replies-no_float refl
outcome-no_float call place (outcome.Repeated rs) = simp replies-no_float refl
outcome-no_float call place (outcome.Refused NotYet) = refl
outcome-no_float call place (outcome.Refused TokenReused) = refl
outcome-no_float call place (outcome.Refused (OfOp n refused.IdTaken)) = refl
outcome-no_float call place (outcome.Refused (OfOp n (refused.Similar id))) = refl
outcome-no_float call place (outcome.Refused (OfOp n refused.NoEntry)) = refl
outcome-no_float call place (outcome.Refused (OfOp n refused.StaleRevision)) = refl
outcome-no_float call place (outcome.Refused (OfOp n (refused.NoBundle domain))) = refl
outcome-no_float call place (outcome.Refused (OfOp n refused.BundleInUse)) = refl
outcome-no_float call place (outcome.Refused (OfOp n refused.NoAgent)) = refl
outcome-no_float call place (outcome.Refused (OfOp n refused.VersionGone)) = refl
outcome-no_float call place (outcome.Refused (Full limit.History)) = refl
outcome-no_float call place (outcome.Refused (Full limit.Entries)) = refl
outcome-no_float call place (outcome.Refused (Full limit.Agents)) = refl
outcome-no_float call place (outcome.Refused (Full limit.Bundles)) = refl
outcome-no_float call place (outcome.Refused (Full limit.Tokens)) = refl

pub reply-no_float : (call : ℕ) (reply : Reply) → has_float (reply_data call reply) ≡ false
reply-no_float call reply = outcome-no_float call reply.place reply.outcome

pub conflict-no_float : (call place : ℕ) → has_float (conflict_data call place) ≡ false
conflict-no_float call place = refl

fault-no_float : (line : ℕ) (c : Code) (field : Option Field) (op : Option ℕ) → has_float (fault_data line (record { code = c; field = field; op = op })) ≡ false
fault-no_float line c None None = refl
fault-no_float line c None (Some n) = refl
fault-no_float line c (Some field) None = refl
fault-no_float line c (Some field) (Some n) = refl

failure-no_float : (line : ℕ) (e : Failure Fault) → has_float (failure_data line e) ≡ false
failure-no_float line NoMemory = refl
failure-no_float line (Refused f) = fault-no_float line f.code f.field f.op

pub refusal-no_float : (r : LineRefusal) → has_float (refusal_data r) ≡ false
refusal-no_float r = failure-no_float r.line r.failure
