-- In the values of the lines of records the keys of each object are in order, as `put` keeps them, and no value nests deep. With
-- the type invariants of `IsTyped`, such a value is what its text parses to.
use Rattle.std.proofs.Common.{◌≡◌, ℕ, suc, true, List, [], ◌∷◌, map, Option, None, Some, refl}
use Rattle.std.specs.Prelude.{codes}
use Rattle.json.proofs.Printed.Utf8.{are_ascii, IsUtf8-are_ascii}
use Rattle.serde_json.specs.Data.{Data, object, string, Members, no_members, put}
use Rattle.serde_json.specs.View.{items_of}
use Rattle.entry_book.specs.Batches.{Batch}
use Rattle.entry_book.specs.Rows.{Entry}
use Rattle.entry_book.specs.declared.agent.Agent.{Agent}
use Rattle.entry_book.specs.declared.bundle.Bundle.{Bundle}
use Rattle.entry_book.specs.declared.entry.NewEntry.{NewEntry}
use Rattle.entry_book.specs.declared.mode.DropMode.{DropMode}
use Rattle.entry_book.specs.declared.op.Op.{Op}
use Rattle.entry_book.specs.declared.op.Op.TheVariants as op
use Rattle.entry_book.specs.declared.page.PageQuery.{PageQuery}
use Rattle.entry_book.specs.declared.reply.OpReply.{OpReply}
use Rattle.entry_book.specs.declared.reply.OpReply.TheVariants as replied
use Rattle.entry_book.specs.declared.reply.ReplyOutcome.{ReplyOutcome}
use Rattle.entry_book.specs.declared.reply.ReplyOutcome.TheVariants as outcome
use Rattle.entry_book.specs.declared.reply.Refusal.{Refusal}
use Rattle.entry_book.specs.declared.reply.Reply.{Reply}
use Rattle.reg_lines.specs.RecordValues.{selectors_data, batch_data, children_data, delete_data, drop_bundle_data, entry_op_data, keyed_op_data, match_data, op_data, page_op_data, record_data, set_agent_data, set_bundle_data}
use Rattle.reg_lines.specs.Values.{agent_data, bundle_data, done_data, entry_data, if_due, list_data, op_reply_data, option_data, outcome_data, refused_data, selector_data, uuid_data, whole}
use Rattle.reg_lines.proofs.Canonical.{IsCanonical, ItemsAreCanonical, MembersAreCanonical, put-canonical}

-- ---- parts

record Canonical (n : ℕ) (d : Data) : Type 0 where
  is : IsCanonical n d

record Ordered (n : ℕ) (ms : Members) : Type 0 where
  are : MembersAreCanonical n ms

abbrev AreCanonical : {A : Type 0} → ℕ → (A → Data) → Type 0
AreCanonical n f = (x : _) → Canonical n (f x)

text : (n : ℕ) (s : List ℕ) → Canonical n (string s)
text n s = record { is = tt }

num : (n x : ℕ) → Canonical n (whole x)
num n x = record { is = tt }

none : (n : ℕ) → Ordered n no_members
none n = record { are = tt }

of_members : (n : ℕ) (ms : Members) → Ordered n ms → Canonical (suc n) (object ms)
of_members n ms h = record { is = h.are }

into : (n : ℕ) (k : List ℕ) (d : Data) (ms : Members) → are_ascii k ≡ true → Canonical n d → Ordered n ms → Ordered n (put k d ms)
into n k d ms a h m = record { are = put-canonical n k d ms (IsUtf8-are_ascii k a) h.is m.are }

due : {A : Type 0} (n : ℕ) (k : List ℕ) (f : A → Data) (o : Option A) (ms : Members) → are_ascii k ≡ true → AreCanonical n f → Ordered n ms → Ordered n (if_due k f o ms)
due n k f None ms a h m = m
due n k f (Some x) ms a h m = into n k (f x) ms a (h x) m

items : {A : Type 0} (n : ℕ) (f : A → Data) (xs : List A) → AreCanonical n f → ItemsAreCanonical n (items_of (map f xs))
items n f [] h = tt
items n f (x ∷ xs) h = ((h x).is, items n f xs h)

list : {A : Type 0} (n : ℕ) (f : A → Data) (xs : List A) → AreCanonical n f → Canonical (suc n) (list_data f xs)
list n f xs h = record { is = items n f xs h }

option : {A : Type 0} (n : ℕ) (f : A → Data) (o : Option A) → AreCanonical n f → Canonical n (option_data f o)
option n f None h = record { is = tt }
option n f (Some x) h = h x

-- ---- operations

entry_op-canonical : (n : ℕ) (word : List ℕ) (e : NewEntry) (expected : Option ℕ) → Canonical (suc (suc n)) (entry_op_data word e expected)
entry_op-canonical n word e expected =
    of_members (suc n) _ (into (suc n) (codes "domains") _ _ refl (list n string e.domains (λ x. text n _)) (
    into (suc n) (codes "expiry") _ _ refl (num (suc n) _) (
    into (suc n) (codes "hint") _ _ refl (text (suc n) _) (
    into (suc n) (codes "id") _ _ refl (text (suc n) _) (
    into (suc n) (codes "identity") _ _ refl (text (suc n) _) (
    due (suc n) (codes "jwt_svid_ttl") whole _ _ refl (λ x. num (suc n) _) (
    into (suc n) (codes "op") _ _ refl (text (suc n) _) (
    into (suc n) (codes "parent") _ _ refl (text (suc n) _) (
    due (suc n) (codes "revision") whole _ _ refl (λ x. num (suc n) _) (
    into (suc n) (codes "selectors") _ _ refl (list n selector_data e.selectors (λ x. text n _)) (
    due (suc n) (codes "x509_svid_ttl") whole _ no_members refl (λ x. num (suc n) _) (none _))))))))))))

delete-canonical : (n : ℕ) (id : List ℕ) (expected : Option ℕ) → Canonical (suc n) (delete_data id expected)
delete-canonical n id expected =
    of_members n _ (into n (codes "id") _ _ refl (text n _) (
    into n (codes "op") _ _ refl (text n _) (
    due n (codes "revision") whole _ no_members refl (λ x. num n _) (none _))))

keyed-canonical : (n : ℕ) (key : List ℕ) (value : Data) (word : List ℕ) → are_ascii key ≡ true → Canonical n value → Canonical (suc n) (keyed_op_data key value word)
keyed-canonical n key value word a h = of_members n _ (into n key _ _ a h (into n (codes "op") _ no_members refl (text n _) (none _)))

children-canonical : (n : ℕ) (parent : List ℕ) → Canonical (suc n) (children_data parent)
children-canonical n parent = of_members n _ (into n (codes "op") _ _ refl (text n _) (into n (codes "parent") _ no_members refl (text n _) (none _)))

page-canonical : (n : ℕ) (q : PageQuery) → Canonical (suc (suc n)) (page_op_data q)
page-canonical n q =
    of_members (suc n) _ (due (suc n) (codes "at") whole _ _ refl (λ x. num (suc n) _) (
    due (suc n) (codes "domain") string _ _ refl (λ x. text (suc n) _) (
    due (suc n) (codes "from") uuid_data _ _ refl (λ x. text (suc n) _) (
    due (suc n) (codes "identity") string _ _ refl (λ x. text (suc n) _) (
    due (suc n) (codes "match") match_data _ _ refl (λ x. text (suc n) _) (
    into (suc n) (codes "op") _ _ refl (text (suc n) _) (
    due (suc n) (codes "parent") string _ _ refl (λ x. text (suc n) _) (
    due (suc n) (codes "selectors") selectors_data _ _ refl (λ m. list n selector_data m.selectors (λ x. text n _)) (
    into (suc n) (codes "size") _ no_members refl (num (suc n) _) (none _))))))))))

set_agent-canonical : (n : ℕ) (a : Agent) → Canonical (suc (suc n)) (set_agent_data a)
set_agent-canonical n a =
    of_members (suc n) _ (into (suc n) (codes "agent") _ _ refl (text (suc n) _) (
    into (suc n) (codes "op") _ _ refl (text (suc n) _) (
    into (suc n) (codes "selectors") _ no_members refl (list n selector_data a.selectors (λ x. text n _)) (none _))))

set_bundle-canonical : (n : ℕ) (domain pem : List ℕ) → Canonical (suc n) (set_bundle_data domain pem)
set_bundle-canonical n domain pem =
    of_members n _ (into n (codes "domain") _ _ refl (text n _) (
    into n (codes "op") _ _ refl (text n _) (
    into n (codes "text") _ no_members refl (text n _) (none _))))

drop_bundle-canonical : (n : ℕ) (domain : List ℕ) (mode : DropMode) → Canonical (suc n) (drop_bundle_data domain mode)
drop_bundle-canonical n domain mode =
    of_members n _ (into n (codes "domain") _ _ refl (text n _) (
    into n (codes "mode") _ _ refl (text n _) (
    into n (codes "op") _ no_members refl (text n _) (none _))))

op-canonical : (n : ℕ) (o : Op) → Canonical (suc (suc n)) (op_data o)
op-canonical n (op.Create e) = entry_op-canonical n (codes "create") e None
op-canonical n (op.Update e expected) = entry_op-canonical n (codes "update") e expected
op-canonical n (op.Delete id expected) = delete-canonical (suc n) id expected
op-canonical n (op.Show id) = keyed-canonical (suc n) (codes "id") (uuid_data id) (codes "show") refl (text (suc n) _)
op-canonical n (op.ShowAgent id) = keyed-canonical (suc n) (codes "agent") (string id) (codes "show_agent") refl (text (suc n) _)
op-canonical n (op.ShowBundle domain) = keyed-canonical (suc n) (codes "domain") (string domain) (codes "show_bundle") refl (text (suc n) _)
op-canonical n (op.Children parent) = children-canonical (suc n) parent
op-canonical n (op.Page query) = page-canonical n query
op-canonical n (op.Authorised id) = keyed-canonical (suc n) (codes "agent") (string id) (codes "authorised") refl (text (suc n) _)
op-canonical n (op.Trust id) = keyed-canonical (suc n) (codes "agent") (string id) (codes "trust") refl (text (suc n) _)
op-canonical n (op.Prune moment) = keyed-canonical (suc n) (codes "before") (whole moment) (codes "prune") refl (num (suc n) _)
op-canonical n (op.SetAgent agent) = set_agent-canonical n agent
op-canonical n (op.DropAgent id) = keyed-canonical (suc n) (codes "agent") (string id) (codes "drop_agent") refl (text (suc n) _)
op-canonical n (op.SetBundle domain pem) = set_bundle-canonical (suc n) domain pem
op-canonical n (op.DropBundle domain mode) = drop_bundle-canonical (suc n) domain mode

batch_canonical : (n : ℕ) (batch : Batch) → Canonical (suc (suc (suc (suc n)))) (batch_data batch)
batch_canonical n batch =
    let m : ℕ = suc (suc (suc n)) in
    of_members m _ (into m (codes "after") _ _ refl (num m _) (
    into m (codes "ops") _ _ refl (list (suc (suc n)) op_data batch.ops (op-canonical n)) (
    due m (codes "token") uuid_data _ no_members refl (λ x. text m _) (none _))))

-- ---- replies

entry-canonical : (n : ℕ) (e : Entry) → Canonical (suc (suc n)) (entry_data e)
entry-canonical n e =
    of_members (suc n) _ (into (suc n) (codes "domains") _ _ refl (list n string e.domains (λ x. text n _)) (
    into (suc n) (codes "expiry") _ _ refl (num (suc n) _) (
    into (suc n) (codes "hint") _ _ refl (text (suc n) _) (
    into (suc n) (codes "id") _ _ refl (text (suc n) _) (
    into (suc n) (codes "identity") _ _ refl (text (suc n) _) (
    due (suc n) (codes "jwt_svid_ttl") whole _ _ refl (λ x. num (suc n) _) (
    into (suc n) (codes "parent") _ _ refl (text (suc n) _) (
    into (suc n) (codes "revision") _ _ refl (num (suc n) _) (
    into (suc n) (codes "selectors") _ _ refl (list n selector_data e.selectors (λ x. text n _)) (
    due (suc n) (codes "x509_svid_ttl") whole _ no_members refl (λ x. num (suc n) _) (none _)))))))))))

agent-canonical : (n : ℕ) (a : Agent) → Canonical (suc (suc n)) (agent_data a)
agent-canonical n a =
    of_members (suc n) _ (into (suc n) (codes "id") _ _ refl (text (suc n) _) (
    into (suc n) (codes "selectors") _ no_members refl (list n selector_data a.selectors (λ x. text n _)) (none _)))

bundle-canonical : (n : ℕ) (b : Bundle) → Canonical (suc n) (bundle_data b)
bundle-canonical n b =
    of_members n _ (into n (codes "domain") _ _ refl (text n _) (
    into n (codes "sequence") _ _ refl (num n _) (
    into n (codes "text") _ no_members refl (text n _) (none _))))

-- an object with one key
alone : (n : ℕ) (k : List ℕ) (d : Data) → are_ascii k ≡ true → Canonical n d → Canonical (suc n) (object (put k d no_members))
alone n k d a h = of_members n _ (into n k d no_members a h (none _))

op_reply-canonical : (n : ℕ) (r : OpReply) → Canonical (suc (suc (suc (suc n)))) (op_reply_data r)
op_reply-canonical n (replied.Entry e) = alone (suc (suc (suc n))) (codes "entry") (entry_data e) refl (entry-canonical (suc n) e)
op_reply-canonical n (replied.EntryShown e) = alone (suc (suc (suc n))) (codes "entry") _ refl (option (suc (suc (suc n))) entry_data e (entry-canonical (suc n)))
op_reply-canonical n (replied.Entries es) = alone (suc (suc (suc n))) (codes "entries") _ refl (list (suc (suc n)) entry_data es (entry-canonical n))
op_reply-canonical n (replied.Page es next) =
    let m : ℕ = suc (suc (suc n)) in
    of_members m _ (into m (codes "entries") _ _ refl (list (suc (suc n)) entry_data es (entry-canonical n)) (
    into m (codes "next") _ no_members refl (option m uuid_data next (λ x. text m _)) (none _)))
op_reply-canonical n (replied.Agent a) = alone (suc (suc (suc n))) (codes "agent") (agent_data a) refl (agent-canonical (suc n) a)
op_reply-canonical n (replied.AgentShown a) = alone (suc (suc (suc n))) (codes "agent") _ refl (option (suc (suc (suc n))) agent_data a (agent-canonical (suc n)))
op_reply-canonical n (replied.Bundle b) = alone (suc (suc (suc n))) (codes "bundle") (bundle_data b) refl (bundle-canonical (suc (suc n)) b)
op_reply-canonical n (replied.BundleShown b) = alone (suc (suc (suc n))) (codes "bundle") _ refl (option (suc (suc (suc n))) bundle_data b (bundle-canonical (suc (suc n))))
op_reply-canonical n (replied.Bundles bs) = alone (suc (suc (suc n))) (codes "bundles") _ refl (list (suc (suc n)) bundle_data bs (bundle-canonical (suc n)))
op_reply-canonical n (replied.Pruned ids) = alone (suc (suc (suc n))) (codes "pruned") _ refl (list (suc (suc n)) uuid_data ids (λ x. text (suc (suc n)) _))
op_reply-canonical n (replied.Dropped deleted dissociated) =
    let m : ℕ = suc (suc (suc n)) in
    of_members m _ (into m (codes "deleted") _ _ refl (list (suc (suc n)) uuid_data deleted (λ x. text (suc (suc n)) _)) (
    into m (codes "dissociated") _ no_members refl (list (suc (suc n)) uuid_data dissociated (λ x. text (suc (suc n)) _)) (none _)))

done-canonical : (n call place : ℕ) (rs : List OpReply) (word : List ℕ) → Canonical (suc (suc (suc (suc (suc (suc n)))))) (done_data call place rs word)
done-canonical n call place rs word =
    let m : ℕ = suc (suc (suc (suc (suc n)))) in
    of_members m _ (into m (codes "call") _ _ refl (num m _) (
    into m (codes "place") _ _ refl (num m _) (
    into m (codes "replies") _ _ refl (list (suc (suc (suc (suc n)))) op_reply_data rs (op_reply-canonical n)) (
    into m (codes "result") _ no_members refl (text m _) (none _)))))

refused-canonical : (n call place : ℕ) (r : Refusal) → Canonical (suc n) (refused_data call place r)
refused-canonical n call place r =
    of_members n _ (into n (codes "call") _ _ refl (num n _) (
    into n (codes "code") _ _ refl (text n _) (
    due n (codes "detail") string _ _ refl (λ x. text n _) (
    due n (codes "op") whole _ _ refl (λ x. num n _) (
    into n (codes "place") _ _ refl (num n _) (
    into n (codes "result") _ no_members refl (text n _) (none _)))))))

outcome-canonical : (n call place : ℕ) (o : ReplyOutcome) → Canonical (suc (suc (suc (suc (suc (suc n)))))) (outcome_data call place o)
outcome-canonical n call place (outcome.Committed rs) = done-canonical n call place rs (codes "committed")
outcome-canonical n call place (outcome.Answered rs) = done-canonical n call place rs (codes "answered")
outcome-canonical n call place (outcome.Repeated rs) = done-canonical n call place rs (codes "repeated")
outcome-canonical n call place (outcome.Refused r) = refused-canonical (suc (suc (suc (suc (suc n))))) call place r

-- ---- a record

record_canonical : (n : ℕ) (batch : Batch) (call invoked : ℕ) (replied : Option ℕ) (reply : Reply) → Canonical (suc (suc (suc (suc (suc (suc (suc n))))))) (record_data batch call invoked replied reply)
record_canonical n batch call invoked replied reply =
    let m : ℕ = suc (suc (suc (suc (suc (suc n))))) in
    of_members m _ (into m (codes "batch") _ _ refl (batch_canonical (suc (suc n)) batch) (
    into m (codes "call") _ _ refl (num m _) (
    into m (codes "invoked") _ _ refl (num m _) (
    into m (codes "replied") _ _ refl (option m whole replied (λ x. num m _)) (
    into m (codes "reply") _ no_members refl (outcome-canonical n call reply.place reply.outcome) (none _))))))

pub batch-canonical : (batch : Batch) → IsCanonical 4 (batch_data batch)
batch-canonical batch = (batch_canonical 0 batch).is

pub record-canonical : (batch : Batch) (call invoked : ℕ) (replied : Option ℕ) (reply : Reply) → IsCanonical 7 (record_data batch call invoked replied reply)
record-canonical batch call invoked replied reply = (record_canonical 0 batch call invoked replied reply).is
