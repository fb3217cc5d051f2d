-- The tables find no fault exactly if the direct words say so.
use Rattle.std.proofs.Common.{◌≡◌, ◌≢◌, ◌↔◌, ℕ, ◌<◌, ◌≤◌, Bool, true, false, not, ◌||◌, cond, List, [], ◌∷◌, length, Option, Some, None, IfSome, refl, ap, arith}
use Rattle.std.specs.Prelude.{⊤, bytes_eq, nat_lt}
use Rattle.std.proofs.lemmas.Bool.{both_ways}
use Rattle.std.proofs.lemmas.Bool.Decides.{nat_tests}
use Rattle.spiffe_name.specs.Id.{server_text}
use Rattle.spiffe_name.specs.Selector.{SelectorPair}
use Rattle.entry_book.specs.declared.agent.Agent.{Agent}
use Rattle.entry_book.specs.declared.entry.NewEntry.{NewEntry}
use Rattle.entry_book.specs.declared.fault.OpFault.{OpFault}
use Rattle.entry_book.specs.declared.op.Op.{Op}
use Rattle.entry_book.specs.declared.page.PageQuery.{PageQuery}
use Rattle.entry_book.specs.declared.page.SelectorMatch.{SelectorMatch}
use Rattle.entry_book.specs.declared.op.Op.TheVariants.{Create, Update, Delete, Show, ShowAgent, ShowBundle, Children, Page, Authorised, Trust, Prune, SetAgent, DropAgent, SetBundle, DropBundle}
use Rattle.entry_book.specs.Rows.{Bytes, IsId, IsProperEntry, IsProperAgent}
use Rattle.entry_book.specs.Faultless.{IsIdOf, IsAgentIdOf, FaultlessEntry, FaultlessAgent, FaultlessBundle, FaultlessOp, FaultlessPage}
use Rattle.entry_book.specs.Batches.{entry_fault, parent_fault, agent_id_fault, agent_fault, own_domain_fault, bundle_fault, op_fault, is_foreign, has_no_path, if_given, is_outside, page_fault, IsProperOp, IsProperPage}
use Rattle.entry_book.proofs.Ids.{not_false, some, id_of, from_id_of, agent_id_of, from_agent_id_of}
use Rattle.entry_book.proofs.Servers.{apart_from}
use Rattle.entry_book.proofs.Sets.{text_same}

-- ---- one line of a table

passes : (b : Bool) (f : OpFault) (later : Option OpFault) → cond b (Some f) later ≡ None → (b ≡ false) × (later ≡ None)
passes true f later h = cc
passes false f later h = (refl, h)

passed : (b : Bool) (f : OpFault) (later : Option OpFault) → b ≡ false → later ≡ None → cond b (Some f) later ≡ None
passed b f later h k = rw h k

neither : (a b : Bool) → (a || b) ≡ false → (a ≡ false) × (b ≡ false)
neither true b h = cc
neither false b h = (refl, h)

not_either : (a b : Bool) → a ≡ false → b ≡ false → (a || b) ≡ false
not_either a b h k = rw h k

at_most : (m n : ℕ) → nat_lt m n ≡ false → n ≤ m
at_most m n h = grind (arith, nat_tests)

at_least : (m n : ℕ) → nat_lt n m ≡ false → m ≤ n
at_least m n h = grind (arith, nat_tests)

not_more : (m n : ℕ) → n ≤ m → nat_lt m n ≡ false
not_more m n h = grind (arith, nat_tests)

within : (xs : List SelectorPair) → is_outside xs ≡ false → (0 < length xs) × (length xs ≤ 16)
within [] h = cc
within (x ∷ xs) h = (omega arith, at_most 16 (length (x ∷ xs)) (neither _ _ h).1)

not_outside : (xs : List SelectorPair) → 0 < length xs → length xs ≤ 16 → is_outside xs ≡ false
not_outside [] s l = absurd (omega arith)
not_outside (x ∷ xs) s l = not_either _ _ (some x xs) (not_more 16 (length (x ∷ xs)) l)

differ : (x y : Bytes) → bytes_eq x y ≡ false → x ≢ y
differ x y h = λ e. both_ways (bytes_eq x y) h (text_same x y e)

-- ---- an entry

entry_none : (own_domain : Bytes) (e : NewEntry) → IsId e.parent → IsId e.identity → entry_fault own_domain e ≡ None → FaultlessEntry own_domain e
unfolding entry_fault
entry_none own_domain e p i h =
    let a = passes _ _ _ h in
    let foreign = neither _ _ a.0 in
    let b = passes _ _ _ a.1 in
    let bare = neither _ _ b.0 in
    let c = passes _ _ _ b.1 in
    let d = passes _ _ _ c.1 in
    let selectors = within e.selectors d.0 in
    let t = passes _ _ _ d.1 in
    let u = passes _ _ _ t.1 in
    record {
      parent = id_of own_domain e.parent p foreign.0 bare.0;
      identity = id_of own_domain e.identity i foreign.1 bare.1;
      not_server = differ e.identity (server_text own_domain) c.0;
      some_selectors = selectors.0;
      selectors = selectors.1;
      domains = at_most 8 (length e.domains) t.0;
      hint = at_most 1024 (length e.hint) u.0;
    }

none_entry : (own_domain : Bytes) (e : NewEntry) → FaultlessEntry own_domain e → entry_fault own_domain e ≡ None
unfolding entry_fault
none_entry own_domain e h =
    let p = from_id_of own_domain e.parent h.parent in
    let i = from_id_of own_domain e.identity h.identity in
    passed _ _ _ (not_either _ _ p.0 i.0)
    (passed _ _ _ (not_either _ _ p.1 i.1)
    (passed _ _ _ (apart_from e.identity (server_text own_domain) h.not_server)
    (passed _ _ _ (not_outside e.selectors h.some_selectors h.selectors)
    (passed _ _ _ (not_more 8 (length e.domains) h.domains)
    (passed _ _ _ (not_more 1024 (length e.hint) h.hint) refl)))))

pub entry_faults : (own_domain : Bytes) (e : NewEntry) → IsProperEntry e → (entry_fault own_domain e ≡ None) ↔ FaultlessEntry own_domain e
entry_faults own_domain e p = (entry_none own_domain e p.parent p.identity, none_entry own_domain e)

-- ---- a parent and an agent that are queried

parent_faults : (own_domain id : Bytes) → IsId id → (parent_fault own_domain id ≡ None) ↔ IsIdOf own_domain id
unfolding parent_fault
parent_faults own_domain id i = (
  λ h. let a = passes _ _ _ h in let b = passes _ _ _ a.1 in id_of own_domain id i a.0 b.0,
  λ v. let r = from_id_of own_domain id v in passed _ _ _ r.0 (passed _ _ _ r.1 refl),
)

-- ---- a page

given_ids : (own_domain : Bytes) (o : Option Bytes) → IfSome o IsId → if_given (is_foreign own_domain) o ≡ false → if_given has_no_path o ≡ false → IfSome o (IsIdOf own_domain)
given_ids own_domain None i f n = tt
given_ids own_domain (Some id) i f n = id_of own_domain id i f n

from_given_ids : (own_domain : Bytes) (o : Option Bytes) → IfSome o (IsIdOf own_domain) → (if_given (is_foreign own_domain) o ≡ false) × (if_given has_no_path o ≡ false)
from_given_ids own_domain None h = (refl, refl)
from_given_ids own_domain (Some id) h = from_id_of own_domain id h

abbrev AreFew : SelectorMatch → Type 0
AreFew m = (0 < length m.selectors) × (length m.selectors ≤ 16)

given_few : (o : Option SelectorMatch) → if_given (λ m. is_outside m.selectors) o ≡ false → IfSome o AreFew
given_few None h = tt
given_few (Some m) h = within m.selectors h

from_given_few : (o : Option SelectorMatch) → IfSome o AreFew → if_given (λ m. is_outside m.selectors) o ≡ false
from_given_few None h = refl
from_given_few (Some m) h = not_outside m.selectors h.0 h.1

page_faults : (own_domain : Bytes) (q : PageQuery) → IsProperPage q → (page_fault own_domain q ≡ None) ↔ FaultlessPage own_domain q
unfolding page_fault
page_faults own_domain q p = (
  λ h.
      let a = passes _ _ _ h in
      let foreign = neither _ _ a.0 in
      let b = passes _ _ _ a.1 in
      let bare = neither _ _ b.0 in
      let c = passes _ _ _ b.1 in
      let d = passes _ _ _ c.1 in
      let s = neither _ _ d.0 in
      record {
        parent = given_ids own_domain q.filter.parent p.parent foreign.0 bare.0;
        identity = given_ids own_domain q.filter.identity p.identity foreign.1 bare.1;
        selectors = given_few q.filter.selectors c.0;
        some_room = at_least 1 q.size s.0;
        size = at_most 500 q.size s.1;
      },
  λ v.
      let r = from_given_ids own_domain q.filter.parent v.parent in
      let i = from_given_ids own_domain q.filter.identity v.identity in
      passed _ _ _ (not_either _ _ r.0 i.0)
      (passed _ _ _ (not_either _ _ r.1 i.1)
      (passed _ _ _ (from_given_few q.filter.selectors v.selectors)
      (passed _ _ _ (not_either _ _ (not_more q.size 1 v.some_room) (not_more 500 q.size v.size)) refl))),
)

asked_faults : (own_domain id : Bytes) → IsId id → (agent_id_fault own_domain id ≡ None) ↔ IsAgentIdOf own_domain id
unfolding agent_id_fault
asked_faults own_domain id i = (
  λ h. let a = passes _ _ _ h in let b = passes _ _ _ a.1 in agent_id_of own_domain id i a.0 (not_false _ b.0),
  λ v. let r = from_agent_id_of own_domain id v in passed _ _ _ r.0 (passed _ _ _ (ap not r.1) refl),
)

-- ---- an agent

pub agent_faults : (own_domain : Bytes) (a : Agent) → IsProperAgent a → (agent_fault own_domain a ≡ None) ↔ FaultlessAgent own_domain a
unfolding agent_fault
agent_faults own_domain a p = (
  λ h. let f = passes _ _ _ h in let s = passes _ _ _ f.1 in let n = passes _ _ _ s.1 in record { id = agent_id_of own_domain a.id p.id f.0 (not_false _ n.0); selectors = at_most 64 (length a.selectors) s.0 },
  λ v. let r = from_agent_id_of own_domain a.id v.id in passed _ _ _ r.0 (passed _ _ _ (not_more 64 (length a.selectors) v.selectors) (passed _ _ _ (ap not r.1) refl)),
)

-- ---- a bundle

own_faults : (own_domain domain : Bytes) → (own_domain_fault own_domain domain ≡ None) ↔ (domain ≢ own_domain)
unfolding own_domain_fault
own_faults own_domain domain = (λ h. differ domain own_domain (passes _ _ _ h).0, λ n. passed _ _ _ (apart_from domain own_domain n) refl)

pub bundle_faults : (own_domain domain text : Bytes) → (bundle_fault own_domain domain text ≡ None) ↔ FaultlessBundle own_domain domain text
unfolding bundle_fault
bundle_faults own_domain domain text = (
  λ h. let o = passes _ _ _ h in let t = passes _ _ _ o.1 in record { not_own = differ domain own_domain o.0; short = at_most 65536 (length text) t.0 },
  λ v. passed _ _ _ (apart_from domain own_domain v.not_own) (passed _ _ _ (not_more 65536 (length text) v.short) refl),
)

-- ---- an operation

never : {X : Type 0} (x : X) → (x ≡ x) ↔ ⊤
never x = (λ e. tt, λ t. refl)

pub op_faults : (own_domain : Bytes) (op : Op) → IsProperOp op → (op_fault own_domain op ≡ None) ↔ FaultlessOp own_domain op
op_faults own_domain (Create e) p = entry_faults own_domain e p
op_faults own_domain (Update e expected) p = entry_faults own_domain e p
op_faults own_domain (Delete k expected) p = never None
op_faults own_domain (Show k) p = never None
op_faults own_domain (ShowAgent k) p = asked_faults own_domain k p
op_faults own_domain (ShowBundle domain) p = never None
op_faults own_domain (Children parent) p = parent_faults own_domain parent p
op_faults own_domain (Page q) p = page_faults own_domain q p
op_faults own_domain (Authorised k) p = asked_faults own_domain k p
op_faults own_domain (Trust k) p = asked_faults own_domain k p
op_faults own_domain (Prune moment) p = never None
op_faults own_domain (SetAgent a) p = agent_faults own_domain a p
op_faults own_domain (DropAgent k) p = asked_faults own_domain k p
op_faults own_domain (SetBundle domain text) p = bundle_faults own_domain domain text
op_faults own_domain (DropBundle domain mode) p = own_faults own_domain domain
