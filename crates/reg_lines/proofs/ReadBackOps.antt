-- The printed value of an operation parses to that operation.
use Rattle.std.proofs.Common.{◌≡◌, ℕ, Bool, true, false, List, [], ◌∷◌, Option, None, Some, Result, Ok, refl, ap, ◌∙◌}
use Rattle.std.specs.Prelude.{◌&&◌, codes, option_map}
use Rattle.std.specs.List.{AllByRecursion, list_all}
use Rattle.std.proofs.lemmas.Bool.{false≢true}
use Rattle.serde_json.specs.Data.{Data, object, string, Members, no_members, put}
use Rattle.serde_json.specs.Find.{get, get_member}
use Rattle.rand_chacha.specs.ChaCha.{ChaCha}
use Rattle.entry_book.specs.declared.agent.Agent.{Agent}
use Rattle.entry_book.specs.declared.entry.NewEntry.{NewEntry}
use Rattle.entry_book.specs.declared.mode.DropMode.{DropMode}
use Rattle.entry_book.specs.declared.op.Op.{Op}
use Rattle.entry_book.specs.declared.op.Op.TheVariants as op
use Rattle.entry_book.specs.declared.page.PageQuery.{PageQuery}
use Rattle.entry_book.specs.declared.page.SelectorMatch.{SelectorMatch}
use Rattle.line_reading.specs.declared.fault.Fault.{Fault}
use Rattle.line_reading.specs.declared.fault.Key.{Key}
use Rattle.line_reading.specs.declared.fault.Key.TheVariants as key
use Rattle.line_reading.specs.declared.ids.MissingId.{MissingId}
use Rattle.line_reading.specs.declared.ids.MissingId.TheVariants as missing
use Rattle.line_reading.specs.Codes.{key_name}
use Rattle.line_reading.specs.Fields.{◌>>=◌, with_ids, uuid_in, text_in, uuid_or_drawn_at, new_uuid_at, is_known_key, least_other, no_others}
use Rattle.line_reading.specs.Operations.{agent_in, authorised_in, children_in, create_in, delete_in, drop_agent_in, drop_bundle_in, entry_in, filter_in, named_op, op_in, page_in, prune_in, selector_match, set_agent_in, set_bundle_in, show_agent_in, show_bundle_in, show_in, trust_in, update_in}
use Rattle.reg_lines.specs.RecordLines.{mode_text}
use Rattle.reg_lines.specs.RecordValues.{selectors_data, entry_op_data, match_data, op_data, page_op_data}
use Rattle.reg_lines.specs.ReadBack.{IsDomainText, IsIdText, IsUuid, IsWrittenAgent, IsWrittenEntry, IsWrittenPage, OpsReadBack}
use Rattle.reg_lines.specs.Replies.{given_lifetime}
use Rattle.reg_lines.specs.Values.{if_due, list_data, selector_data, uuid_data, whole}
use Rattle.reg_lines.proofs.ReadBack.{Due, condition_selectors-back, domain-back, domains-back, due-map, found, id-back, known, lifetime-back, match-back, members_due, mode-back, number-back, optional_domain-back, optional_id-back, optional_number-back, optional_text-back, optional_uuid-back, or_none, selectors-back, text-back, uuid-back}

both_true : (a b : Bool) → (a && b) ≡ true → (a ≡ true) × (b ≡ true)
both_true true b e = (refl, e)
both_true false b e = absurd (false≢true e)

all_known : (keys : List Key) (xs : List Due) → list_all (λ x. is_known_key keys x.0) xs ≡ true → AllByRecursion (λ x. is_known_key keys x.0 ≡ true) xs
all_known keys [] e = tt
all_known keys (x ∷ xs) e =
    let p = both_true (is_known_key keys x.0) _ e in
    (p.0, all_known keys xs p.1)

no_others-known : (keys : List Key) (ms : Members) → least_other keys ms ≡ None → no_others keys ms ≡ Ok tt
no_others-known keys ms e = rw e refl

pub only : (keys : List Key) (xs : List Due) → list_all (λ x. is_known_key keys x.0) xs ≡ true → no_others keys (members_due xs) ≡ Ok tt
only keys xs e = no_others-known keys (members_due xs) (known keys xs (all_known keys xs e))

-- one more key
pub next-put : (k : List ℕ) (d : Data) (ms ns : Members) → ms ≡ ns → put k d ms ≡ put k d ns
next-put k d ms ns e = ap (put k d) e

pub next-due : {A : Type 0} (k : List ℕ) (f : A → Data) (o : Option A) (ms ns : Members) → ms ≡ ns → if_due k f o ms ≡ if_due k (λ d. d) (option_map f o) ns
next-due k f o ms ns e = due-map k f o ms ∙ ap (if_due k (λ d. d) (option_map f o)) e

-- the name of an operation decides which reader reads its other keys
named : (missing : MissingId) (ids : ChaCha) (ms : Members) (word : List ℕ) (r : Result (Op × ChaCha) Fault) → get_member (codes "op") ms ≡ Some (string word) → named_op missing ids word (object ms) ms ≡ r → op_in missing ids (object ms) ≡ r
unfolding op_in
named missing ids ms word r e h = rw (text-back key.Op (object ms) word e) h

undrawn : (ids : ChaCha) (r : Result Op Fault) (o : Op) → r ≡ Ok o → with_ids ids r ≡ Ok (o, ids)
undrawn ids r o e = ap (with_ids ids) e

-- ---- entries

new_uuid-back : (m : MissingId) (ids : ChaCha) (k : Key) (d : Data) (id : List ℕ) → get (key_name k) d ≡ Some (uuid_data id) → IsUuid id → new_uuid_at m ids k d ≡ Ok (id, ids)
unfolding uuid_or_drawn_at uuid_in text_in
new_uuid-back missing.Drawn ids k d id e h = rw e (rw h refl)
new_uuid-back missing.Refused ids k d id e h = rw (uuid-back k d id e h) refl

record IsEntryAt (d : Data) (e : NewEntry) : Type 0 where
  parent : get (key_name key.Parent) d ≡ Some (string e.parent)
  identity : get (key_name key.Identity) d ≡ Some (string e.identity)
  selectors : get (key_name key.Selectors) d ≡ Some (list_data selector_data e.selectors)
  hint : get (key_name key.Hint) d ≡ Some (string e.hint)
  domains : get (key_name key.Domains) d ≡ Some (list_data string e.domains)
  expiry : get (key_name key.Expiry) d ≡ Some (whole e.expiry)
  x509 : get (key_name key.X509SvidTtl) d ≡ option_map whole (given_lifetime e.x509_svid_ttl)
  jwt : get (key_name key.JwtSvidTtl) d ≡ option_map whole (given_lifetime e.jwt_svid_ttl)

entry-back : (d : Data) (e : NewEntry) → IsWrittenEntry e → IsEntryAt d e → entry_in e.id d ≡ Ok e
unfolding entry_in
entry-back d e w a =
    rw (id-back key.Parent d e.parent a.parent w.parent)
    (rw (id-back key.Identity d e.identity a.identity w.identity)
    (rw (selectors-back key.Selectors d e.selectors a.selectors w.selectors)
    (rw (optional_text-back key.Hint d e.hint a.hint)
    (rw (domains-back key.Domains d e.domains a.domains w.domains)
    (rw (optional_number-back key.Expiry d (Some e.expiry) a.expiry)
    (rw (optional_number-back key.X509SvidTtl d (given_lifetime e.x509_svid_ttl) a.x509)
    (rw (optional_number-back key.JwtSvidTtl d (given_lifetime e.jwt_svid_ttl) a.jwt)
    (rw (lifetime-back e.x509_svid_ttl) (rw (lifetime-back e.jwt_svid_ttl) refl)))))))))

abbrev entry_due : List ℕ → NewEntry → Option ℕ → List Due
entry_due word e expected =
    (codes "domains", Some (list_data string e.domains))
    ∷ (codes "expiry", Some (whole e.expiry))
    ∷ (codes "hint", Some (string e.hint))
    ∷ (codes "id", Some (uuid_data e.id))
    ∷ (codes "identity", Some (string e.identity))
    ∷ (codes "jwt_svid_ttl", option_map whole (given_lifetime e.jwt_svid_ttl))
    ∷ (codes "op", Some (string word))
    ∷ (codes "parent", Some (string e.parent))
    ∷ (codes "revision", option_map whole expected)
    ∷ (codes "selectors", Some (list_data selector_data e.selectors))
    ∷ (codes "x509_svid_ttl", option_map whole (given_lifetime e.x509_svid_ttl))
    ∷ []

entry-due : (word : List ℕ) (e : NewEntry) (expected : Option ℕ) → entry_op_data word e expected ≡ object (members_due (entry_due word e expected))
entry-due word e expected =
    ap object (
    next-put (codes "domains") (list_data string e.domains) _ _ (
    next-put (codes "expiry") (whole e.expiry) _ _ (
    next-put (codes "hint") (string e.hint) _ _ (
    next-put (codes "id") (uuid_data e.id) _ _ (
    next-put (codes "identity") (string e.identity) _ _ (
    next-due (codes "jwt_svid_ttl") whole (given_lifetime e.jwt_svid_ttl) _ _ (
    next-put (codes "op") (string word) _ _ (
    next-put (codes "parent") (string e.parent) _ _ (
    next-due (codes "revision") whole expected _ _ (
    next-put (codes "selectors") (list_data selector_data e.selectors) _ _ (
    next-due (codes "x509_svid_ttl") whole (given_lifetime e.x509_svid_ttl) _ _ refl)))))))))))

entry-at : (word : List ℕ) (e : NewEntry) (expected : Option ℕ) → IsEntryAt (object (members_due (entry_due word e expected))) e
entry-at word e expected = record {
  parent = found (codes "parent") (entry_due word e expected);
  identity = found (codes "identity") (entry_due word e expected);
  selectors = found (codes "selectors") (entry_due word e expected);
  hint = found (codes "hint") (entry_due word e expected);
  domains = found (codes "domains") (entry_due word e expected);
  expiry = found (codes "expiry") (entry_due word e expected);
  x509 = found (codes "x509_svid_ttl") (entry_due word e expected) ∙ or_none _;
  jwt = found (codes "jwt_svid_ttl") (entry_due word e expected) ∙ or_none _;
}

abbrev create_keys : List Key
create_keys = key.Op ∷ key.Id ∷ key.Parent ∷ key.Identity ∷ key.Selectors ∷ key.Hint ∷ key.Domains ∷ key.Expiry ∷ key.X509SvidTtl ∷ key.JwtSvidTtl ∷ []

abbrev create_due : NewEntry → List Due
create_due e =
    (codes "domains", Some (list_data string e.domains))
    ∷ (codes "expiry", Some (whole e.expiry))
    ∷ (codes "hint", Some (string e.hint))
    ∷ (codes "id", Some (uuid_data e.id))
    ∷ (codes "identity", Some (string e.identity))
    ∷ (codes "jwt_svid_ttl", option_map whole (given_lifetime e.jwt_svid_ttl))
    ∷ (codes "op", Some (string (codes "create")))
    ∷ (codes "parent", Some (string e.parent))
    ∷ (codes "selectors", Some (list_data selector_data e.selectors))
    ∷ (codes "x509_svid_ttl", option_map whole (given_lifetime e.x509_svid_ttl))
    ∷ []

-- a create has no expected revision: its members are the same
create-same : (e : NewEntry) → members_due (entry_due (codes "create") e None) ≡ members_due (create_due e)
create-same e = refl

create_in-back : (m : MissingId) (ids : ChaCha) (d : Data) (ms : Members) (e : NewEntry) → get (key_name key.Id) d ≡ Some (uuid_data e.id) → IsWrittenEntry e → IsEntryAt d e → no_others create_keys ms ≡ Ok tt → create_in m ids d ms ≡ Ok (op.Create e, ids)
unfolding create_in
create_in-back m ids d ms e i w a n = rw (new_uuid-back m ids key.Id d e.id i w.id) (rw (entry-back d e w a) (rw n refl))

create-back : (m : MissingId) (ids : ChaCha) (e : NewEntry) → IsWrittenEntry e → op_in m ids (op_data (op.Create e)) ≡ Ok (op.Create e, ids)
create-back m ids e w =
    let ms : Members = members_due (entry_due (codes "create") e None) in
    ap (op_in m ids) (entry-due (codes "create") e None)
    ∙ named m ids ms (codes "create") (Ok (op.Create e, ids)) (found (codes "op") (entry_due (codes "create") e None))
    (create_in-back m ids (object ms) ms e (found (codes "id") (entry_due (codes "create") e None)) w (entry-at (codes "create") e None)
    (only create_keys (create_due e) refl))

abbrev update_keys : List Key
update_keys = key.Op ∷ key.Id ∷ key.Parent ∷ key.Identity ∷ key.Selectors ∷ key.Hint ∷ key.Domains ∷ key.Expiry ∷ key.X509SvidTtl ∷ key.JwtSvidTtl ∷ key.Revision ∷ []

update_in-back : (d : Data) (ms : Members) (e : NewEntry) (expected : Option ℕ) → get (key_name key.Id) d ≡ Some (uuid_data e.id) → get (key_name key.Revision) d ≡ option_map whole expected → IsWrittenEntry e → IsEntryAt d e → no_others update_keys ms ≡ Ok tt → update_in d ms ≡ Ok (op.Update e expected)
unfolding update_in
update_in-back d ms e expected i r w a n = rw (uuid-back key.Id d e.id i w.id) (rw (entry-back d e w a) (rw (optional_number-back key.Revision d expected r) (rw n refl)))

update-back : (m : MissingId) (ids : ChaCha) (e : NewEntry) (expected : Option ℕ) → IsWrittenEntry e → op_in m ids (op_data (op.Update e expected)) ≡ Ok (op.Update e expected, ids)
update-back m ids e expected w =
    let xs : List Due = entry_due (codes "update") e expected in
    let ms : Members = members_due xs in
    ap (op_in m ids) (entry-due (codes "update") e expected)
    ∙ named m ids ms (codes "update") (Ok (op.Update e expected, ids)) (found (codes "op") xs)
    (undrawn ids (update_in (object ms) ms) (op.Update e expected)
    (update_in-back (object ms) ms e expected (found (codes "id") xs) (found (codes "revision") xs ∙ or_none _) w (entry-at (codes "update") e expected) (only update_keys xs refl)))

-- ---- operations with few keys

delete_in-back : (d : Data) (ms : Members) (id : List ℕ) (expected : Option ℕ) → get (key_name key.Id) d ≡ Some (uuid_data id) → get (key_name key.Revision) d ≡ option_map whole expected → IsUuid id → no_others (key.Op ∷ key.Id ∷ key.Revision ∷ []) ms ≡ Ok tt → delete_in d ms ≡ Ok (op.Delete id expected)
unfolding delete_in
delete_in-back d ms id expected i r h n = rw (uuid-back key.Id d id i h) (rw (optional_number-back key.Revision d expected r) (rw n refl))

delete-back : (m : MissingId) (ids : ChaCha) (id : List ℕ) (expected : Option ℕ) → IsUuid id → op_in m ids (op_data (op.Delete id expected)) ≡ Ok (op.Delete id expected, ids)
delete-back m ids id expected h =
    let xs : List Due = (codes "id", Some (uuid_data id)) ∷ (codes "op", Some (string (codes "delete"))) ∷ (codes "revision", option_map whole expected) ∷ [] in
    let ms : Members = members_due xs in
    ap (λ rest. op_in m ids (object (put (codes "id") (uuid_data id) (put (codes "op") (string (codes "delete")) rest)))) (next-due (codes "revision") whole expected no_members no_members refl)
    ∙ named m ids ms (codes "delete") (Ok (op.Delete id expected, ids)) (found (codes "op") xs)
    (undrawn ids (delete_in (object ms) ms) (op.Delete id expected)
    (delete_in-back (object ms) ms id expected (found (codes "id") xs) (found (codes "revision") xs ∙ or_none _) h (only (key.Op ∷ key.Id ∷ key.Revision ∷ []) xs refl)))

show_in-back : (d : Data) (ms : Members) (id : List ℕ) → get (key_name key.Id) d ≡ Some (uuid_data id) → IsUuid id → no_others (key.Op ∷ key.Id ∷ []) ms ≡ Ok tt → show_in d ms ≡ Ok (op.Show id)
unfolding show_in
show_in-back d ms id i h n = rw (uuid-back key.Id d id i h) (rw n refl)

show-back : (m : MissingId) (ids : ChaCha) (id : List ℕ) → IsUuid id → op_in m ids (op_data (op.Show id)) ≡ Ok (op.Show id, ids)
show-back m ids id h =
    let xs : List Due = (codes "id", Some (uuid_data id)) ∷ (codes "op", Some (string (codes "show"))) ∷ [] in
    let ms : Members = members_due xs in
    named m ids ms (codes "show") (Ok (op.Show id, ids)) (found (codes "op") xs)
    (undrawn ids (show_in (object ms) ms) (op.Show id)
    (show_in-back (object ms) ms id (found (codes "id") xs) h (only (key.Op ∷ key.Id ∷ []) xs refl)))

children_in-back : (d : Data) (ms : Members) (parent : List ℕ) → get (key_name key.Parent) d ≡ Some (string parent) → IsIdText parent → no_others (key.Op ∷ key.Parent ∷ []) ms ≡ Ok tt → children_in d ms ≡ Ok (op.Children parent)
unfolding children_in
children_in-back d ms parent e h n = rw (id-back key.Parent d parent e h) (rw n refl)

children-back : (m : MissingId) (ids : ChaCha) (parent : List ℕ) → IsIdText parent → op_in m ids (op_data (op.Children parent)) ≡ Ok (op.Children parent, ids)
children-back m ids parent h =
    let xs : List Due = (codes "op", Some (string (codes "children"))) ∷ (codes "parent", Some (string parent)) ∷ [] in
    let ms : Members = members_due xs in
    named m ids ms (codes "children") (Ok (op.Children parent, ids)) (found (codes "op") xs)
    (undrawn ids (children_in (object ms) ms) (op.Children parent)
    (children_in-back (object ms) ms parent (found (codes "parent") xs) h (only (key.Op ∷ key.Parent ∷ []) xs refl)))

prune_in-back : (d : Data) (ms : Members) (moment : ℕ) → get (key_name key.Before) d ≡ Some (whole moment) → no_others (key.Op ∷ key.Before ∷ []) ms ≡ Ok tt → prune_in d ms ≡ Ok (op.Prune moment)
unfolding prune_in
prune_in-back d ms moment e n = rw (number-back key.Before d moment e) (rw n refl)

prune-back : (m : MissingId) (ids : ChaCha) (moment : ℕ) → op_in m ids (op_data (op.Prune moment)) ≡ Ok (op.Prune moment, ids)
prune-back m ids moment =
    let xs : List Due = (codes "before", Some (whole moment)) ∷ (codes "op", Some (string (codes "prune"))) ∷ [] in
    let ms : Members = members_due xs in
    named m ids ms (codes "prune") (Ok (op.Prune moment, ids)) (found (codes "op") xs)
    (undrawn ids (prune_in (object ms) ms) (op.Prune moment)
    (prune_in-back (object ms) ms moment (found (codes "before") xs) (only (key.Op ∷ key.Before ∷ []) xs refl)))

-- ---- agents

abbrev agent_due : List ℕ → List ℕ → List Due
agent_due word id = (codes "agent", Some (string id)) ∷ (codes "op", Some (string word)) ∷ []

agent_in-back : (word id : List ℕ) → IsIdText id → agent_in (object (members_due (agent_due word id))) (members_due (agent_due word id)) ≡ Ok id
unfolding agent_in
agent_in-back word id h =
    let xs : List Due = agent_due word id in
    ap (λ r. r >>= (λ agent. no_others (key.Op ∷ key.Agent ∷ []) (members_due xs) >>= (λ none. Ok agent))) (id-back key.Agent (object (members_due xs)) id (found (codes "agent") xs) h)
    ∙ ap (λ r. r >>= (λ none. Ok id)) (only (key.Op ∷ key.Agent ∷ []) xs refl)

abbrev of_agent : (List ℕ → Op) → Result (List ℕ) Fault → Result Op Fault
of_agent f r = r >>= (λ agent. Ok (f agent))

show_agent-back : (m : MissingId) (ids : ChaCha) (id : List ℕ) → IsIdText id → op_in m ids (op_data (op.ShowAgent id)) ≡ Ok (op.ShowAgent id, ids)
unfolding show_agent_in
show_agent-back m ids id h =
    let xs : List Due = agent_due (codes "show_agent") id in
    named m ids (members_due xs) (codes "show_agent") (Ok (op.ShowAgent id, ids)) (found (codes "op") xs)
    (undrawn ids (show_agent_in (object (members_due xs)) (members_due xs)) (op.ShowAgent id) (ap (of_agent op.ShowAgent) (agent_in-back (codes "show_agent") id h)))

authorised-back : (m : MissingId) (ids : ChaCha) (id : List ℕ) → IsIdText id → op_in m ids (op_data (op.Authorised id)) ≡ Ok (op.Authorised id, ids)
unfolding authorised_in
authorised-back m ids id h =
    let xs : List Due = agent_due (codes "authorised") id in
    named m ids (members_due xs) (codes "authorised") (Ok (op.Authorised id, ids)) (found (codes "op") xs)
    (undrawn ids (authorised_in (object (members_due xs)) (members_due xs)) (op.Authorised id) (ap (of_agent op.Authorised) (agent_in-back (codes "authorised") id h)))

trust-back : (m : MissingId) (ids : ChaCha) (id : List ℕ) → IsIdText id → op_in m ids (op_data (op.Trust id)) ≡ Ok (op.Trust id, ids)
unfolding trust_in
trust-back m ids id h =
    let xs : List Due = agent_due (codes "trust") id in
    named m ids (members_due xs) (codes "trust") (Ok (op.Trust id, ids)) (found (codes "op") xs)
    (undrawn ids (trust_in (object (members_due xs)) (members_due xs)) (op.Trust id) (ap (of_agent op.Trust) (agent_in-back (codes "trust") id h)))

drop_agent-back : (m : MissingId) (ids : ChaCha) (id : List ℕ) → IsIdText id → op_in m ids (op_data (op.DropAgent id)) ≡ Ok (op.DropAgent id, ids)
unfolding drop_agent_in
drop_agent-back m ids id h =
    let xs : List Due = agent_due (codes "drop_agent") id in
    named m ids (members_due xs) (codes "drop_agent") (Ok (op.DropAgent id, ids)) (found (codes "op") xs)
    (undrawn ids (drop_agent_in (object (members_due xs)) (members_due xs)) (op.DropAgent id) (ap (of_agent op.DropAgent) (agent_in-back (codes "drop_agent") id h)))

set_agent_in-back : (d : Data) (ms : Members) (a : Agent) → get (key_name key.Agent) d ≡ Some (string a.id) → get (key_name key.Selectors) d ≡ Some (list_data selector_data a.selectors) → IsWrittenAgent a → no_others (key.Op ∷ key.Agent ∷ key.Selectors ∷ []) ms ≡ Ok tt → set_agent_in d ms ≡ Ok (op.SetAgent a)
unfolding set_agent_in
set_agent_in-back d ms a i s w n = rw (id-back key.Agent d a.id i w.id) (rw (selectors-back key.Selectors d a.selectors s w.selectors) (rw n refl))

set_agent-back : (m : MissingId) (ids : ChaCha) (a : Agent) → IsWrittenAgent a → op_in m ids (op_data (op.SetAgent a)) ≡ Ok (op.SetAgent a, ids)
set_agent-back m ids a w =
    let xs : List Due = (codes "agent", Some (string a.id)) ∷ (codes "op", Some (string (codes "set_agent"))) ∷ (codes "selectors", Some (list_data selector_data a.selectors)) ∷ [] in
    let ms : Members = members_due xs in
    named m ids ms (codes "set_agent") (Ok (op.SetAgent a, ids)) (found (codes "op") xs)
    (undrawn ids (set_agent_in (object ms) ms) (op.SetAgent a)
    (set_agent_in-back (object ms) ms a (found (codes "agent") xs) (found (codes "selectors") xs) w (only (key.Op ∷ key.Agent ∷ key.Selectors ∷ []) xs refl)))

-- ---- bundles

show_bundle_in-back : (d : Data) (ms : Members) (domain : List ℕ) → get (key_name key.Domain) d ≡ Some (string domain) → IsDomainText domain → no_others (key.Op ∷ key.Domain ∷ []) ms ≡ Ok tt → show_bundle_in d ms ≡ Ok (op.ShowBundle domain)
unfolding show_bundle_in
show_bundle_in-back d ms domain e h n = rw (domain-back key.Domain d domain e h) (rw n refl)

show_bundle-back : (m : MissingId) (ids : ChaCha) (domain : List ℕ) → IsDomainText domain → op_in m ids (op_data (op.ShowBundle domain)) ≡ Ok (op.ShowBundle domain, ids)
show_bundle-back m ids domain h =
    let xs : List Due = (codes "domain", Some (string domain)) ∷ (codes "op", Some (string (codes "show_bundle"))) ∷ [] in
    let ms : Members = members_due xs in
    named m ids ms (codes "show_bundle") (Ok (op.ShowBundle domain, ids)) (found (codes "op") xs)
    (undrawn ids (show_bundle_in (object ms) ms) (op.ShowBundle domain)
    (show_bundle_in-back (object ms) ms domain (found (codes "domain") xs) h (only (key.Op ∷ key.Domain ∷ []) xs refl)))

set_bundle_in-back : (d : Data) (ms : Members) (domain text : List ℕ) → get (key_name key.Domain) d ≡ Some (string domain) → get (key_name key.Text) d ≡ Some (string text) → IsDomainText domain → no_others (key.Op ∷ key.Domain ∷ key.Text ∷ []) ms ≡ Ok tt → set_bundle_in d ms ≡ Ok (op.SetBundle domain text)
unfolding set_bundle_in
set_bundle_in-back d ms domain text e t h n = rw (domain-back key.Domain d domain e h) (rw (text-back key.Text d text t) (rw n refl))

set_bundle-back : (m : MissingId) (ids : ChaCha) (domain text : List ℕ) → IsDomainText domain → op_in m ids (op_data (op.SetBundle domain text)) ≡ Ok (op.SetBundle domain text, ids)
set_bundle-back m ids domain text h =
    let xs : List Due = (codes "domain", Some (string domain)) ∷ (codes "op", Some (string (codes "set_bundle"))) ∷ (codes "text", Some (string text)) ∷ [] in
    let ms : Members = members_due xs in
    named m ids ms (codes "set_bundle") (Ok (op.SetBundle domain text, ids)) (found (codes "op") xs)
    (undrawn ids (set_bundle_in (object ms) ms) (op.SetBundle domain text)
    (set_bundle_in-back (object ms) ms domain text (found (codes "domain") xs) (found (codes "text") xs) h (only (key.Op ∷ key.Domain ∷ key.Text ∷ []) xs refl)))

drop_bundle_in-back : (d : Data) (ms : Members) (domain : List ℕ) (mode : DropMode) → get (key_name key.Domain) d ≡ Some (string domain) → get (key_name key.Mode) d ≡ Some (string (mode_text mode)) → IsDomainText domain → no_others (key.Op ∷ key.Domain ∷ key.Mode ∷ []) ms ≡ Ok tt → drop_bundle_in d ms ≡ Ok (op.DropBundle domain mode)
unfolding drop_bundle_in
drop_bundle_in-back d ms domain mode e t h n = rw (domain-back key.Domain d domain e h) (rw (mode-back key.Mode d mode t) (rw n refl))

drop_bundle-back : (m : MissingId) (ids : ChaCha) (domain : List ℕ) (mode : DropMode) → IsDomainText domain → op_in m ids (op_data (op.DropBundle domain mode)) ≡ Ok (op.DropBundle domain mode, ids)
drop_bundle-back m ids domain mode h =
    let xs : List Due = (codes "domain", Some (string domain)) ∷ (codes "mode", Some (string (mode_text mode))) ∷ (codes "op", Some (string (codes "drop_bundle"))) ∷ [] in
    let ms : Members = members_due xs in
    named m ids ms (codes "drop_bundle") (Ok (op.DropBundle domain mode, ids)) (found (codes "op") xs)
    (undrawn ids (drop_bundle_in (object ms) ms) (op.DropBundle domain mode)
    (drop_bundle_in-back (object ms) ms domain mode (found (codes "domain") xs) (found (codes "mode") xs) h (only (key.Op ∷ key.Domain ∷ key.Mode ∷ []) xs refl)))

-- ---- pages

condition-back : (o : Option SelectorMatch) → selector_match (option_map (λ m. m.selectors) o) (option_map (λ m. m.mode) o) ≡ Ok o
condition-back None = refl
condition-back (Some m) = refl

record IsPageAt (d : Data) (q : PageQuery) : Type 0 where
  size : get (key_name key.Size) d ≡ Some (whole q.size)
  at : get (key_name key.At) d ≡ option_map whole q.at
  from : get (key_name key.From) d ≡ option_map uuid_data q.from
  parent : get (key_name key.Parent) d ≡ option_map string q.filter.parent
  identity : get (key_name key.Identity) d ≡ option_map string q.filter.identity
  domain : get (key_name key.Domain) d ≡ option_map string q.filter.domain
  selectors : get (key_name key.Selectors) d ≡ option_map selectors_data q.filter.selectors
  match : get (key_name key.Match) d ≡ option_map match_data q.filter.selectors

filter-back : (d : Data) (q : PageQuery) → IsWrittenPage q → IsPageAt d q → filter_in d ≡ Ok q.filter
unfolding filter_in
filter-back d q w a =
    rw (optional_id-back key.Parent d q.filter.parent a.parent w.parent)
    (rw (optional_id-back key.Identity d q.filter.identity a.identity w.identity)
    (rw (optional_domain-back key.Domain d q.filter.domain a.domain w.domain)
    (rw (condition_selectors-back key.Selectors d q.filter.selectors a.selectors w.selectors)
    (rw (match-back key.Match d q.filter.selectors a.match)
    (rw (condition-back q.filter.selectors) refl)))))

abbrev page_keys : List Key
page_keys = key.Op ∷ key.Size ∷ key.At ∷ key.From ∷ key.Parent ∷ key.Identity ∷ key.Domain ∷ key.Selectors ∷ key.Match ∷ []

page_in-back : (d : Data) (ms : Members) (q : PageQuery) → IsWrittenPage q → IsPageAt d q → no_others page_keys ms ≡ Ok tt → page_in d ms ≡ Ok (op.Page q)
unfolding page_in
page_in-back d ms q w a n =
    rw (number-back key.Size d q.size a.size)
    (rw (optional_number-back key.At d q.at a.at)
    (rw (optional_uuid-back key.From d q.from a.from w.from)
    (rw (filter-back d q w a) (rw n refl))))

abbrev page_due : PageQuery → List Due
page_due q =
    (codes "at", option_map whole q.at)
    ∷ (codes "domain", option_map string q.filter.domain)
    ∷ (codes "from", option_map uuid_data q.from)
    ∷ (codes "identity", option_map string q.filter.identity)
    ∷ (codes "match", option_map match_data q.filter.selectors)
    ∷ (codes "op", Some (string (codes "page")))
    ∷ (codes "parent", option_map string q.filter.parent)
    ∷ (codes "selectors", option_map selectors_data q.filter.selectors)
    ∷ (codes "size", Some (whole q.size))
    ∷ []

page-due : (q : PageQuery) → page_op_data q ≡ object (members_due (page_due q))
page-due q =
    ap object (
    next-due (codes "at") whole q.at _ _ (
    next-due (codes "domain") string q.filter.domain _ _ (
    next-due (codes "from") uuid_data q.from _ _ (
    next-due (codes "identity") string q.filter.identity _ _ (
    next-due (codes "match") match_data q.filter.selectors _ _ (
    next-put (codes "op") (string (codes "page")) _ _ (
    next-due (codes "parent") string q.filter.parent _ _ (
    next-due (codes "selectors") selectors_data q.filter.selectors _ _ refl))))))))

page-at : (q : PageQuery) → IsPageAt (object (members_due (page_due q))) q
page-at q = record {
  size = found (codes "size") (page_due q);
  at = found (codes "at") (page_due q) ∙ or_none _;
  from = found (codes "from") (page_due q) ∙ or_none _;
  parent = found (codes "parent") (page_due q) ∙ or_none _;
  identity = found (codes "identity") (page_due q) ∙ or_none _;
  domain = found (codes "domain") (page_due q) ∙ or_none _;
  selectors = found (codes "selectors") (page_due q) ∙ or_none _;
  match = found (codes "match") (page_due q) ∙ or_none _;
}

page-back : (m : MissingId) (ids : ChaCha) (q : PageQuery) → IsWrittenPage q → op_in m ids (op_data (op.Page q)) ≡ Ok (op.Page q, ids)
page-back m ids q w =
    let xs : List Due = page_due q in
    let ms : Members = members_due xs in
    ap (op_in m ids) (page-due q)
    ∙ named m ids ms (codes "page") (Ok (op.Page q, ids)) (found (codes "op") xs)
    (undrawn ids (page_in (object ms) ms) (op.Page q) (page_in-back (object ms) ms q w (page-at q) (only page_keys xs refl)))

-- ---- any operation

pub op-back : OpsReadBack
op-back (op.Create e) m ids h = create-back m ids e h
op-back (op.Update e expected) m ids h = update-back m ids e expected h
op-back (op.Delete id expected) m ids h = delete-back m ids id expected h
op-back (op.Show id) m ids h = show-back m ids id h
op-back (op.ShowAgent id) m ids h = show_agent-back m ids id h
op-back (op.ShowBundle domain) m ids h = show_bundle-back m ids domain h
op-back (op.Children parent) m ids h = children-back m ids parent h
op-back (op.Page query) m ids h = page-back m ids query h
op-back (op.Authorised id) m ids h = authorised-back m ids id h
op-back (op.Trust id) m ids h = trust-back m ids id h
op-back (op.Prune moment) m ids h = prune-back m ids moment
op-back (op.SetAgent agent) m ids h = set_agent-back m ids agent h
op-back (op.DropAgent id) m ids h = drop_agent-back m ids id h
op-back (op.SetBundle domain text) m ids h = set_bundle-back m ids domain text h
op-back (op.DropBundle domain mode) m ids h = drop_bundle-back m ids domain mode h
