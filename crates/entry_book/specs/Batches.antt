-- Which lists of operations are a batch, and which batches are read-only.
use Rattle.std.specs.Prelude.{◌≡◌, ⊤, ℕ, ◌+◌, Bool, true, false, not, ◌&&◌, ◌||◌, ◌==◌, List, [], ◌∷◌, length, codes, nat_lt, nat_eq, Option, Some, None, IfSome, is_some, bytes_eq, if◌then◌else◌}
use Rattle.std.specs.List.{AllByRecursion, list_all, starts_with}
use Rattle.spiffe_name.specs.Failures.{refuse_if}
use Rattle.spiffe_name.specs.Domain.{IsDomain}
use Rattle.spiffe_name.specs.Id.{domain_of, path_of, server_text}
use Rattle.spiffe_name.specs.Selector.{SelectorPair}
use Rattle.spiffe_name.specs.SelectorSet.{IsSelectorSet}
use Rattle.entry_book.specs.declared.agent.Agent.{Agent}
use Rattle.entry_book.specs.declared.entry.NewEntry.{NewEntry}
use Rattle.entry_book.specs.declared.op.Op.{Op}
use Rattle.entry_book.specs.declared.page.PageQuery.{PageQuery}
use Rattle.entry_book.specs.declared.op.Op.TheVariants.{Create, Update, Delete, Show, ShowAgent, ShowBundle, Children, Page, Authorised, Trust, Prune, SetAgent, DropAgent, SetBundle, DropBundle}
use Rattle.entry_book.specs.declared.fault.OpFault.{OpFault}
use Rattle.entry_book.specs.declared.fault.OpFault.TheVariants.{ForeignId, EmptyPath, ServerIdentity, Selectors, TooManyDomains, HintTooLong, PageSize, AgentPath, OwnDomainBundle, BundleTooLong}
use Rattle.entry_book.specs.declared.fault.BatchRefusal.{BatchRefusal}
use Rattle.entry_book.specs.declared.fault.BatchRefusal.TheVariants.{NoOps, TooManyOps, OfOp, PastPageNotAlone, TokenOnQuery}
use Rattle.entry_book.specs.Rows.{Bytes, IsId, IsProperEntry, IsProperAgent}

-- A batch: the trust domain that it was made for, its operations in order, the minimum place at which it may run, and
-- optionally a token, a UUID under which its commit is stored.
pub record Batch : Type 0 where
  pub domain : Bytes
  pub ops : List Op
  pub after : ℕ
  pub token : Option Bytes

-- ---- which batches are read-only

-- whether an operation is read-only
abbrev pub is_question : Op → Bool
is_question (Create e) = false
is_question (Update e expected) = false
is_question (Delete k expected) = false
is_question (Show k) = true
is_question (ShowAgent k) = true
is_question (ShowBundle d) = true
is_question (Children p) = true
is_question (Page q) = true
is_question (Authorised k) = true
is_question (Trust k) = true
is_question (Prune moment) = false
is_question (SetAgent a) = false
is_question (DropAgent k) = false
is_question (SetBundle d text) = false
is_question (DropBundle d mode) = false

-- whether a batch of these operations is read-only
abbrev pub is_query : List Op → Bool
is_query ops = list_all is_question ops

-- ---- which batches read an earlier book: a page that gives the number of a book reads that book

-- the number of the book that the operation reads, if it is a page that gives one
abbrev pub place_asked : Op → Option ℕ
place_asked (Page q) = q.at
place_asked op = None

-- the number that the first operation gives, if it is a page that gives one; in a batch, such a page is the only operation
abbrev pub past_place : List Op → Option ℕ
past_place [] = None
past_place (op ∷ ops) = place_asked op

-- ---- the table of faults: within an operation the fault with the least code, then operation by operation

-- whether an ID is of another trust domain
abbrev pub is_foreign : Bytes → Bytes → Bool
is_foreign domain id = not (bytes_eq (domain_of id) domain)

-- whether the path of an ID is empty
abbrev pub has_no_path : Bytes → Bool
has_no_path id = length (path_of id) == 0

-- whether the number of selectors isn't 1 to 16
abbrev pub is_outside : List SelectorPair → Bool
is_outside selectors = length selectors == 0 || nat_lt 16 (length selectors)

-- whether a path is that of an agent's ID
abbrev pub is_agent_path : Bytes → Bool
is_agent_path path = starts_with nat_eq path (codes "/spire/agent/")

-- the fault of an entry that is created or updated
unfoldable pub entry_fault : Bytes → NewEntry → Option OpFault
entry_fault domain e =
    refuse_if (is_foreign domain e.parent || is_foreign domain e.identity) ForeignId (
    refuse_if (has_no_path e.parent || has_no_path e.identity) EmptyPath (
    refuse_if (bytes_eq e.identity (server_text domain)) ServerIdentity (
    refuse_if (is_outside e.selectors) Selectors (
    refuse_if (nat_lt 8 (length e.domains)) TooManyDomains (
    refuse_if (nat_lt 1024 (length e.hint)) HintTooLong
    None)))))

-- the fault of a parent in a query
unfoldable pub parent_fault : Bytes → Bytes → Option OpFault
parent_fault domain parent =
    refuse_if (is_foreign domain parent) ForeignId (
    refuse_if (has_no_path parent) EmptyPath
    None)

-- whether a part of a filter is given and this holds of it
abbrev pub if_given : {X : Type 0} → (X → Bool) → Option X → Bool
if_given p None = false
if_given p (Some x) = p x

-- the fault of a page: of the IDs and selectors that its filter gives, and of its size
unfoldable pub page_fault : Bytes → PageQuery → Option OpFault
page_fault domain q =
    refuse_if (if_given (is_foreign domain) q.filter.parent || if_given (is_foreign domain) q.filter.identity) ForeignId (
    refuse_if (if_given has_no_path q.filter.parent || if_given has_no_path q.filter.identity) EmptyPath (
    refuse_if (if_given (λ m. is_outside m.selectors) q.filter.selectors) Selectors (
    refuse_if (nat_lt q.size 1 || nat_lt 500 q.size) PageSize
    None)))

-- the fault of an agent that is queried or dropped
unfoldable pub agent_id_fault : Bytes → Bytes → Option OpFault
agent_id_fault domain id =
    refuse_if (is_foreign domain id) ForeignId (
    refuse_if (not (is_agent_path (path_of id))) AgentPath
    None)

-- the fault of an agent that is set; it may have no selectors
unfoldable pub agent_fault : Bytes → Agent → Option OpFault
agent_fault domain a =
    refuse_if (is_foreign domain a.id) ForeignId (
    refuse_if (nat_lt 64 (length a.selectors)) Selectors (
    refuse_if (not (is_agent_path (path_of a.id))) AgentPath
    None))

-- the fault of a bundle that is dropped
unfoldable pub own_domain_fault : Bytes → Bytes → Option OpFault
own_domain_fault domain d =
    refuse_if (bytes_eq d domain) OwnDomainBundle
    None

-- the fault of a bundle that is set
unfoldable pub bundle_fault : Bytes → Bytes → Bytes → Option OpFault
bundle_fault domain d text =
    refuse_if (bytes_eq d domain) OwnDomainBundle (
    refuse_if (nat_lt 65536 (length text)) BundleTooLong
    None)

-- the fault of an operation in a batch for this trust domain
abbrev pub op_fault : Bytes → Op → Option OpFault
op_fault domain (Create e) = entry_fault domain e
op_fault domain (Update e expected) = entry_fault domain e
op_fault domain (Delete k expected) = None
op_fault domain (Show k) = None
op_fault domain (ShowAgent k) = agent_id_fault domain k
op_fault domain (ShowBundle d) = None
op_fault domain (Children p) = parent_fault domain p
op_fault domain (Page q) = page_fault domain q
op_fault domain (Authorised k) = agent_id_fault domain k
op_fault domain (Trust k) = agent_id_fault domain k
op_fault domain (Prune moment) = None
op_fault domain (SetAgent a) = agent_fault domain a
op_fault domain (DropAgent k) = agent_id_fault domain k
op_fault domain (SetBundle d text) = bundle_fault domain d text
op_fault domain (DropBundle d mode) = own_domain_fault domain d

-- the fault of operation n, if it has one; otherwise `later`
abbrev pub or_later : Option OpFault → ℕ → Option BatchRefusal → Option BatchRefusal
or_later (Some fault) n later = Some (OfOp n fault)
or_later None n later = later

-- the first fault of an operation, with its index counted from n; or `later` if no operation has a fault
abbrev pub ops_refusal : Bytes → ℕ → List Op → Option BatchRefusal → Option BatchRefusal
ops_refusal domain n [] later = later
ops_refusal domain n (op ∷ ops) later = or_later (op_fault domain op) n (ops_refusal domain (n + 1) ops later)

-- the index, counted from n, of the first page that gives the number of a book
abbrev pub first_past : ℕ → List Op → Option ℕ
first_past n [] = None
first_past n (op ∷ ops) = if is_some (place_asked op) then Some n else first_past (n + 1) ops

-- the same, if there are several operations
abbrev pub first_past_of_many : List Op → Option ℕ
first_past_of_many ops = if nat_lt 1 (length ops) then first_past 0 ops else None

-- why operations without a fault aren't a batch: for a page of an earlier book, or for a query with a token
abbrev pub or_token : Option ℕ → List Op → Option Bytes → Option BatchRefusal
or_token (Some n) ops token = Some (PastPageNotAlone n)
or_token None ops token = refuse_if (is_some token && is_query ops) TokenOnQuery None

-- The first refusal that applies to these operations with this token, if any. A list is a batch exactly if there is none.
unfoldable pub batch_refusal : Bytes → List Op → Option Bytes → Option BatchRefusal
batch_refusal domain ops token =
    refuse_if (length ops == 0) NoOps (
    refuse_if (nat_lt 64 (length ops)) TooManyOps (
    ops_refusal domain 0 ops (or_token (first_past_of_many ops) ops token)))

-- ---- the invariants of the types of an operation's parts

-- The parts of a query for a page satisfy the invariants of their types.
pub record IsProperPage (q : PageQuery) : Type 0 where
  pub from : IfSome q.from (λ k. length k ≡ 16)
  pub parent : IfSome q.filter.parent IsId
  pub identity : IfSome q.filter.identity IsId
  pub domain : IfSome q.filter.domain IsDomain
  pub selectors : IfSome q.filter.selectors (λ m. IsSelectorSet m.selectors)

-- the parts of an operation satisfy the invariants of their types
abbrev pub IsProperOp : Op → Type 0
IsProperOp (Create e) = IsProperEntry e
IsProperOp (Update e expected) = IsProperEntry e
IsProperOp (Delete k expected) = length k ≡ 16
IsProperOp (Show k) = length k ≡ 16
IsProperOp (ShowAgent k) = IsId k
IsProperOp (ShowBundle d) = IsDomain d
IsProperOp (Children p) = IsId p
IsProperOp (Page q) = IsProperPage q
IsProperOp (Authorised k) = IsId k
IsProperOp (Trust k) = IsId k
IsProperOp (Prune moment) = ⊤
IsProperOp (SetAgent a) = IsProperAgent a
IsProperOp (DropAgent k) = IsId k
IsProperOp (SetBundle d text) = IsDomain d
IsProperOp (DropBundle d mode) = IsDomain d

-- A batch that was made for this trust domain: none of the faults applies, and its parts satisfy the invariants of their types.
pub record IsMadeFor (own_domain : Bytes) (batch : Batch) : Type 0 where
  pub domain_is : batch.domain ≡ own_domain
  pub no_fault : batch_refusal batch.domain batch.ops batch.token ≡ None
  pub proper : AllByRecursion IsProperOp batch.ops
  pub token : IfSome batch.token (λ k. length k ≡ 16)
