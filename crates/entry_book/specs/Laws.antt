-- The theorems about the book. Each is a clause of a function of the module `laws`.
use Rattle.std.specs.Prelude.{◌≡◌, ◌↔◌, ◌⊎◌, ℕ, suc, ◌+◌, ◌*◌, ◌^◌, ◌<◌, ◌≤◌, ◌&&◌, true, false, List, [], ◌∷◌, ◌++◌, length, filter, map, take, Option, Some, None, Ok, Err, IfOk, MatchResult, IfSome, is_some, option_to_list, slice_get, Contains, ⊤}
use Rattle.std.specs.List.{AllByRecursion}
use Rattle.spiffe_name.specs.Id.{server_text}
use Rattle.entry_book.specs.declared.agent.Agent.{Agent}
use Rattle.entry_book.specs.declared.entry.NewEntry.{NewEntry}
use Rattle.entry_book.specs.declared.fault.OpFault.{OpFault}
use Rattle.entry_book.specs.declared.fault.BatchRefusal.TheVariants as batch
use Rattle.entry_book.specs.declared.op.Op.{Op}
use Rattle.entry_book.specs.declared.mode.DropMode.{DropMode}
use Rattle.entry_book.specs.declared.op.Op.TheVariants.{Create, Update, Delete, Show, ShowAgent, ShowBundle, Children, Page, Authorised, Trust, Prune, SetAgent, DropAgent, SetBundle, DropBundle}
use Rattle.entry_book.specs.declared.reply.OpReply.TheVariants as replied
use Rattle.entry_book.specs.declared.kept.KeptBatch.{KeptBatch}
use Rattle.entry_book.specs.declared.limit.Limit.{Limit}
use Rattle.entry_book.specs.declared.limit.Limit.TheVariants as limit
use Rattle.entry_book.specs.declared.reply.OpReply.{OpReply}
use Rattle.entry_book.specs.declared.reply.OpRefusal.{OpRefusal}
use Rattle.entry_book.specs.declared.reply.OpRefusal.TheVariants.{VersionGone}
use Rattle.entry_book.specs.declared.reply.ReplyOutcome.TheVariants.{Committed, Answered, Repeated, Refused}
use Rattle.entry_book.specs.declared.reply.Refusal.{Refusal}
use Rattle.entry_book.specs.declared.reply.Refusal.TheVariants.{NotYet, TokenReused, OfOp, Full}
use Rattle.entry_book.specs.declared.reply.Reply.{Reply}
use Rattle.entry_book.specs.Rows.{Bytes, Entry, entry_key, agent_key, bundle_key, IsDomainSet, domain_set, IsProperEntry, IsProperAgent}
use Rattle.entry_book.specs.Order.{Within, Ascending}
use Rattle.entry_book.specs.Book.{Book, AscendingBook}
use Rattle.entry_book.specs.Writes.{RowWrite, wrote_entry, wrote_agent, wrote_bundle, wrote_token, after, FitsBook, FitAll}
use Rattle.entry_book.specs.NamedRows.{row_written, rows_named, token_of}
use Rattle.entry_book.specs.Authorised.{authorised, ends_within, starts, EndsChain, Holds}
use Rattle.entry_book.specs.Ops.{OpEffect, op_of}
use Rattle.entry_book.specs.Runs.{RunEffect, RefusedOp, run}
use Rattle.entry_book.specs.Effects.{Creates, CreateRefused, Updates, UpdateRefused, Deletes, DeleteRefused, ShowsRow, ListsChildren, ListsAuthorised, ListsTrust, LacksAgent, Prunes, SetsAgent, DropsAgent, SetsBundle, DropsBundle, DropBundleRefused}
use Rattle.entry_book.specs.Limits.{limit_passed, IsWithinLimits}
use Rattle.entry_book.specs.Batches.{Batch, IsMadeFor, IsProperOp, is_query, past_place, entry_fault, agent_fault, bundle_fault, op_fault, batch_refusal}
use Rattle.entry_book.specs.Faultless.{FaultlessEntry, FaultlessAgent, FaultlessBundle, FaultlessOp}
use Rattle.entry_book.specs.History.{PlainState, RepresentsFrom, IsAlike, IsFirst, IsHistory, CommitAll, first_books, starting_at, last_book, last_or, place_of, batch_writes, LeadToBooks, refuses, repeats, adds_within, kept_under, verdict, verdict_run, books_after, books_from, replies_from, commits, is_repeated, reply_to}
use Rattle.entry_book.specs.SameOps.{ops_eq}
use Rattle.entry_book.specs.Lawful.{Lawful}
use Rattle.entry_book.specs.Pages.{comes_after, last_id, listed, matches_by, next_of, passes, passing}
use Rattle.entry_book.specs.Listings.{IsPage, ListsPage, Matches, PageAfterPage, Passes}
use Rattle.entry_book.specs.declared.page.Filter.{Filter}
use Rattle.entry_book.specs.declared.page.MatchMode.{MatchMode}
use Rattle.entry_book.specs.declared.page.PageQuery.{PageQuery}
use Rattle.spiffe_name.specs.Selector.{SelectorPair}
use Rattle.spiffe_name.specs.SelectorSet.{is_within}

-- ---- membership

-- `Within` and `Contains`, membership at some index, agree on lists of texts
abbrev pub WithinIsContains : Type 0
WithinIsContains = (xs : List Bytes) (x : Bytes) → Within xs x ↔ Contains xs x

-- lists of rows in order that have the same members are equal
abbrev pub OneList : {X : Type 0} → (X → Bytes) → Type 0
OneList {X} key = (xs ys : List X) → Ascending key xs → Ascending key ys → ((x : X) → Within xs x ↔ Within ys x) → xs ≡ ys

-- the set of the domains of a list is the only set with its members
abbrev pub OneDomainSet : Type 0
OneDomainSet = (set domains : List Bytes) → IsDomainSet set → ((x : Bytes) → Contains set x ↔ Contains domains x) → set ≡ domain_set domains

-- the test `is_within` of two lists of selectors is true exactly if each member of the first is one of the second
abbrev pub SelectorsWithin : Type 0
SelectorsWithin = (a b : List SelectorPair) → (is_within a b ≡ true) ↔ ((s : SelectorPair) → Within a s → Within b s)

-- ---- authorised entries

-- the authorised entries are exactly those in which some chain for the agent ends
abbrev pub EndsOfChains : Type 0
EndsOfChains = (server : Bytes) (a : Agent) (b : Book) (e : Entry) → Within (authorised server a b) e ↔ EndsChain server a b e

-- each of them occurs once, in the order of ids, if the book's entries are in order
abbrev pub AuthorisedInOrder : Type 0
AuthorisedInOrder = (server : Bytes) (a : Agent) (b : Book) → Ascending entry_key b.entries → Ascending entry_key (authorised server a b)

-- the book's aliases that the agent holds are among them
abbrev pub HeldIsAuthorised : Type 0
HeldIsAuthorised = (server : Bytes) (a : Agent) (b : Book) (e : Entry) → Within b.entries e → Holds server a e → Within (authorised server a b) e

-- and so are its entries whose parent is the agent or the identity of one of them
abbrev pub ChildIsAuthorised : Type 0
ChildIsAuthorised = (server : Bytes) (a : Agent) (b : Book) (e : Entry) → Within b.entries e → (e.parent ≡ a.id) ⊎ ((c : Entry) × Within (authorised server a b) c × (e.parent ≡ c.identity)) → Within (authorised server a b) e

-- in a lawful book, the agent itself holds each alias that is one of them
abbrev pub AliasIsHeld : Type 0
AliasIsHeld = (own_domain : Bytes) (most : ℕ) (a : Agent) (b : Book) (e : Entry) → Lawful own_domain most b → Within b.agents a → Within (authorised (server_text own_domain) a b) e → e.parent ≡ server_text own_domain → Holds (server_text own_domain) a e

-- they don't depend on the agents of the book
abbrev pub OthersDontMatter : Type 0
OthersDontMatter = (server : Bytes) (a : Agent) (b : Book) (others : List Agent) → authorised server a (record b { agents = others }) ≡ authorised server a b

-- the computed test: an entry with which a chain may begin ends one, however short
abbrev pub ChainBegins : Type 0
ChainBegins = (server : Bytes) (a : Agent) (es : List Entry) (n : ℕ) (e : Entry) → starts server a e ≡ true → ends_within server a es n e ≡ true

-- an entry ends a chain of at most n + 2 entries exactly if a chain may begin with it, or if its parent is the identity of an
-- entry of the list that ends a chain of at most n + 1
abbrev pub ChainGoesOn : Type 0
ChainGoesOn = (server : Bytes) (a : Agent) (es : List Entry) (n : ℕ) (e : Entry) → (ends_within server a es (suc n) e ≡ true) ↔ ((starts server a e ≡ true) ⊎ ((c : Entry) × Within es c × (e.parent ≡ c.identity) × (ends_within server a es n c ≡ true)))

-- a longer chain than the list of entries reaches no other entry of it
abbrev pub ChainIsShort : Type 0
ChainIsShort = (server : Bytes) (a : Agent) (es : List Entry) (e : Entry) (n : ℕ) → Within es e → ends_within server a es n e ≡ true → ends_within server a es (length es) e ≡ true

-- ---- operations, in the book of a trust domain whose rows are in order

abbrev pub CreateEffect : Type 0
CreateEffect = (own_domain : Bytes) (e : NewEntry) (b : Book) → AscendingBook b → MatchResult (op_of own_domain (Create e) b) (Creates e b) (CreateRefused e b)

abbrev pub UpdateEffect : Type 0
UpdateEffect = (own_domain : Bytes) (e : NewEntry) (expected : Option ℕ) (b : Book) → AscendingBook b → MatchResult (op_of own_domain (Update e expected) b) (Updates e expected b) (UpdateRefused e expected b)

abbrev pub DeleteEffect : Type 0
DeleteEffect = (own_domain : Bytes) (k : Bytes) (expected : Option ℕ) (b : Book) → AscendingBook b → MatchResult (op_of own_domain (Delete k expected) b) (Deletes k expected b) (DeleteRefused k expected b)

abbrev pub ShowEffect : Type 0
ShowEffect = (own_domain : Bytes) (k : Bytes) (b : Book) → AscendingBook b → MatchResult (op_of own_domain (Show k) b) (ShowsRow entry_key b.entries replied.EntryShown k) (λ refusal. ⊥)

abbrev pub ShowAgentEffect : Type 0
ShowAgentEffect = (own_domain : Bytes) (k : Bytes) (b : Book) → AscendingBook b → MatchResult (op_of own_domain (ShowAgent k) b) (ShowsRow agent_key b.agents replied.AgentShown k) (λ refusal. ⊥)

abbrev pub ShowBundleEffect : Type 0
ShowBundleEffect = (own_domain : Bytes) (k : Bytes) (b : Book) → AscendingBook b → MatchResult (op_of own_domain (ShowBundle k) b) (ShowsRow bundle_key b.bundles replied.BundleShown k) (λ refusal. ⊥)

abbrev pub ChildrenEffect : Type 0
ChildrenEffect = (own_domain : Bytes) (p : Bytes) (b : Book) → AscendingBook b → MatchResult (op_of own_domain (Children p) b) (ListsChildren p b) (λ refusal. ⊥)

abbrev pub PageEffect : Type 0
PageEffect = (own_domain : Bytes) (q : PageQuery) (b : Book) → AscendingBook b → MatchResult (op_of own_domain (Page q) b) (ListsPage q b) (λ refusal. ⊥)

abbrev pub AuthorisedEffect : Type 0
AuthorisedEffect = (own_domain : Bytes) (k : Bytes) (b : Book) → AscendingBook b → MatchResult (op_of own_domain (Authorised k) b) (ListsAuthorised (server_text own_domain) k b) (LacksAgent k b)

abbrev pub TrustEffect : Type 0
TrustEffect = (own_domain : Bytes) (k : Bytes) (b : Book) → AscendingBook b → MatchResult (op_of own_domain (Trust k) b) (ListsTrust (server_text own_domain) k b) (LacksAgent k b)

abbrev pub PruneEffect : Type 0
PruneEffect = (own_domain : Bytes) (moment : ℕ) (b : Book) → AscendingBook b → MatchResult (op_of own_domain (Prune moment) b) (Prunes moment b) (λ refusal. ⊥)

abbrev pub SetAgentEffect : Type 0
SetAgentEffect = (own_domain : Bytes) (a : Agent) (b : Book) → AscendingBook b → MatchResult (op_of own_domain (SetAgent a) b) (SetsAgent a b) (λ refusal. ⊥)

abbrev pub DropAgentEffect : Type 0
DropAgentEffect = (own_domain : Bytes) (k : Bytes) (b : Book) → AscendingBook b → MatchResult (op_of own_domain (DropAgent k) b) (DropsAgent k b) (LacksAgent k b)

abbrev pub SetBundleEffect : Type 0
SetBundleEffect = (own_domain : Bytes) (domain text : Bytes) (b : Book) → AscendingBook b → MatchResult (op_of own_domain (SetBundle domain text) b) (SetsBundle domain text b) (λ refusal. ⊥)

abbrev pub DropBundleEffect : Type 0
DropBundleEffect = (own_domain : Bytes) (domain : Bytes) (mode : DropMode) (b : Book) → AscendingBook b → MatchResult (op_of own_domain (DropBundle domain mode) b) (DropsBundle domain mode b) (DropBundleRefused domain mode b)

-- the effect of an operation on a book
abbrev pub EffectOf : Bytes → Op → Book → OpEffect → Type 0
EffectOf own_domain (Create e) b = Creates e b
EffectOf own_domain (Update e expected) b = Updates e expected b
EffectOf own_domain (Delete k expected) b = Deletes k expected b
EffectOf own_domain (Show k) b = ShowsRow entry_key b.entries replied.EntryShown k
EffectOf own_domain (ShowAgent k) b = ShowsRow agent_key b.agents replied.AgentShown k
EffectOf own_domain (ShowBundle k) b = ShowsRow bundle_key b.bundles replied.BundleShown k
EffectOf own_domain (Children p) b = ListsChildren p b
EffectOf own_domain (Page q) b = ListsPage q b
EffectOf own_domain (Authorised k) b = ListsAuthorised (server_text own_domain) k b
EffectOf own_domain (Trust k) b = ListsTrust (server_text own_domain) k b
EffectOf own_domain (Prune moment) b = Prunes moment b
EffectOf own_domain (SetAgent a) b = SetsAgent a b
EffectOf own_domain (DropAgent k) b = DropsAgent k b
EffectOf own_domain (SetBundle domain text) b = SetsBundle domain text b
EffectOf own_domain (DropBundle domain mode) b = DropsBundle domain mode b

-- a refusal of an operation on a book
abbrev pub RefusalOf : Op → Book → OpRefusal → Type 0
RefusalOf (Create e) b = CreateRefused e b
RefusalOf (Update e expected) b = UpdateRefused e expected b
RefusalOf (Delete k expected) b = DeleteRefused k expected b
RefusalOf (Show k) b = λ r. ⊥
RefusalOf (ShowAgent k) b = λ r. ⊥
RefusalOf (ShowBundle k) b = λ r. ⊥
RefusalOf (Children p) b = λ r. ⊥
RefusalOf (Page q) b = λ r. ⊥
RefusalOf (Authorised k) b = LacksAgent k b
RefusalOf (Trust k) b = LacksAgent k b
RefusalOf (Prune moment) b = λ r. ⊥
RefusalOf (SetAgent a) b = λ r. ⊥
RefusalOf (DropAgent k) b = LacksAgent k b
RefusalOf (SetBundle domain text) b = λ r. ⊥
RefusalOf (DropBundle domain mode) b = DropBundleRefused domain mode b

-- the words determine the result: an operation that has such an effect is accepted, with that reply and that book afterwards
abbrev pub AcceptedAsSaid : Type 0
AcceptedAsSaid = (own_domain : Bytes) (op : Op) (b : Book) (d : OpEffect) → AscendingBook b → EffectOf own_domain op b d → MatchResult (op_of own_domain op b) (λ c. (c.reply ≡ d.reply) × (after c.writes b ≡ after d.writes b)) (λ r. ⊥)

-- and on a lawful book, an operation for which a refusal is due is refused with it
abbrev pub RefusedAsSaid : Type 0
RefusedAsSaid = (own_domain : Bytes) (most : ℕ) (op : Op) (b : Book) (r : OpRefusal) → Lawful own_domain most b → RefusalOf op b r → op_of own_domain op b ≡ Err r

-- two writes of the same row
abbrev pub SameRow : RowWrite → RowWrite → Type 0
SameRow (wrote_entry c) (wrote_entry d) = c.key ≡ d.key
SameRow (wrote_agent c) (wrote_agent d) = c.key ≡ d.key
SameRow (wrote_bundle c) (wrote_bundle d) = c.key ≡ d.key
SameRow (wrote_token c) (wrote_token d) = c.key ≡ d.key
SameRow w v = ⊥

-- no two of these writes are of one row
abbrev pub DifferentRows : List RowWrite → Type 0
DifferentRows [] = ⊤
DifferentRows (w ∷ ws) = AllByRecursion (λ v. SameRow w v → ⊥) ws × DifferentRows ws

-- an operation writes a row at most once, so that each write finds its row as the operation found it
abbrev pub WritesOnce : Type 0
WritesOnce = (own_domain : Bytes) (op : Op) (b : Book) → AscendingBook b → IfOk (op_of own_domain op b) (λ d. DifferentRows d.writes × AllByRecursion (λ w. FitsBook w b) d.writes)

-- an operation writes the rows that `rows_named` gives, in this order, and no other row
abbrev pub WritesNamed : Type 0
WritesNamed = (own_domain : Bytes) (op : Op) (b : Book) → IfOk (op_of own_domain op b) (λ d. map row_written d.writes ≡ rows_named op b)

-- ---- lists of writes

-- writing two lists joined is writing one after the other
abbrev pub WritesJoined : Type 0
WritesJoined = (first second : List RowWrite) (b : Book) → after (first ++ second) b ≡ after second (after first b)

-- writes that find the rows that they name keep the rows in order
abbrev pub WritesKeepOrder : Type 0
WritesKeepOrder = (ws : List RowWrite) (b : Book) → AscendingBook b → FitAll ws b → AscendingBook (after ws b)

-- each write of an operation finds the row that it names, on the book that the earlier ones left
abbrev pub OpFits : Type 0
OpFits = (own_domain : Bytes) (op : Op) (b : Book) → AscendingBook b → IfOk (op_of own_domain op b) (λ d. FitAll d.writes b)

-- ---- the run of a batch

-- The run stops at operation n, counted from 0: all earlier ones are accepted, and it is refused on the book that they left.
pub record StopsAt (domain : Bytes) (ops : List Op) (b : Book) (n : ℕ) (r : OpRefusal) : Type 0 where
  pub front : List Op
  pub op : Op
  pub rest : List Op
  pub split : ops ≡ front ++ op ∷ rest
  pub index : n ≡ length front
  pub done : RunEffect
  pub accepted : run domain front b ≡ Ok done
  pub refused : op_of domain op (after done.writes b) ≡ Err r

-- a run is refused for operation n and this reason exactly if it stops there
abbrev pub RunStops : Type 0
RunStops = (domain : Bytes) (ops : List Op) (b : Book) (n : ℕ) (r : OpRefusal) → (run domain ops b ≡ Err (record { op = n; reason = r })) ↔ StopsAt domain ops b n r

-- One more operation adds its reply and its writes if the book that the others left accepts it; otherwise the run is
-- refused for it.
abbrev pub RunExtends : Type 0
RunExtends = (domain : Bytes) (ops : List Op) (op : Op) (b : Book) (t : RunEffect) → run domain ops b ≡ Ok t → MatchResult (op_of domain op (after t.writes b)) (λ d. run domain (ops ++ op ∷ []) b ≡ Ok (record { replies = t.replies ++ d.reply ∷ []; writes = t.writes ++ d.writes })) (λ r. run domain (ops ++ op ∷ []) b ≡ Err (record { op = length ops; reason = r }))

-- a run of no operations has no replies and no writes
abbrev pub RunOfNone : Type 0
RunOfNone = (domain : Bytes) (b : Book) → run domain [] b ≡ Ok (record { replies = []; writes = [] })

-- a run has one reply for each operation
abbrev pub RunReplies : Type 0
RunReplies = (domain : Bytes) (ops : List Op) (b : Book) → IfOk (run domain ops b) (λ t. length t.replies ≡ length ops)

-- a read-only batch writes nothing
abbrev pub QueryWrites : Type 0
QueryWrites = (domain : Bytes) (ops : List Op) (b : Book) → is_query ops ≡ true → IfOk (run domain ops b) (λ t. t.writes ≡ [])

-- each write of a run finds the row that it names, on the book that the earlier ones left, and the rows stay in order
abbrev pub RunFits : Type 0
RunFits = (domain : Bytes) (ops : List Op) (b : Book) → AscendingBook b → IfOk (run domain ops b) (λ t. FitAll t.writes b × AscendingBook (after t.writes b))

-- a run of operations without faults leaves a lawful book lawful, and raises the bound on revisions and sequences by 1 for each
-- operation
abbrev pub RunKeeps : Type 0
RunKeeps = (own_domain : Bytes) (m : ℕ) (ops : List Op) (b : Book) → AllByRecursion IsProperOp ops → AllByRecursion (λ op. op_fault own_domain op ≡ None) ops → Lawful own_domain m b → IfOk (run own_domain ops b) (λ t. Lawful own_domain (m + length ops) (after t.writes b))

-- ---- the table of faults

-- operation n has this fault, and those before it have none
pub record FaultAt (domain : Bytes) (ops : List Op) (n : ℕ) (f : OpFault) : Type 0 where
  pub front : List Op
  pub op : Op
  pub rest : List Op
  pub split : ops ≡ front ++ op ∷ rest
  pub index : n ≡ length front
  pub none_before : AllByRecursion (λ other. op_fault domain other ≡ None) front
  pub fault : op_fault domain op ≡ Some f

-- a batch is refused for having no operations exactly if it has none
abbrev pub NoOpsRefused : Type 0
NoOpsRefused = (domain : Bytes) (ops : List Op) (token : Option Bytes) → (batch_refusal domain ops token ≡ Some batch.NoOps) ↔ (ops ≡ [])

-- a batch is refused for too many operations exactly if it has more than 64
abbrev pub TooManyRefused : Type 0
TooManyRefused = (domain : Bytes) (ops : List Op) (token : Option Bytes) → (batch_refusal domain ops token ≡ Some batch.TooManyOps) ↔ (64 < length ops)

-- a batch is refused for operation n and this fault exactly if it has at most 64 operations and this is the first fault
abbrev pub FirstFault : Type 0
FirstFault = (domain : Bytes) (ops : List Op) (token : Option Bytes) (n : ℕ) (f : OpFault) → (batch_refusal domain ops token ≡ Some (batch.OfOp n f)) ↔ ((length ops ≤ 64) × FaultAt domain ops n f)

-- 1 to 64 operations, none of which has a fault
pub record AreFaultless (domain : Bytes) (ops : List Op) : Type 0 where
  pub some : 0 < length ops
  pub few : length ops ≤ 64
  pub none : AllByRecursion (λ op. op_fault domain op ≡ None) ops

-- no page of these operations gives the number of a book
abbrev pub ReadLastBook : List Op → Type 0
ReadLastBook ops = (q : PageQuery) → Within ops (Page q) → q.at ≡ None

-- Operation n is the first page that gives the number of a book.
pub record PastPageAt (ops : List Op) (n : ℕ) : Type 0 where
  pub front : List Op
  pub query : PageQuery
  pub rest : List Op
  pub split : ops ≡ front ++ Page query ∷ rest
  pub index : n ≡ length front
  pub none_before : ReadLastBook front
  pub place : ℕ
  pub asked : query.at ≡ Some place

-- no page that gives the number of a book comes together with another operation
abbrev pub ArePagesAlone : List Op → Type 0
ArePagesAlone ops = 1 < length ops → ReadLastBook ops

-- a batch is refused for page n exactly if no operation has a fault, there are several, and page n is the first that gives
-- a book's number
abbrev pub PastPageRefused : Type 0
PastPageRefused = (domain : Bytes) (ops : List Op) (token : Option Bytes) (n : ℕ) → (batch_refusal domain ops token ≡ Some (batch.PastPageNotAlone n)) ↔ (AreFaultless domain ops × (1 < length ops) × PastPageAt ops n)

-- it is refused for its token exactly if none of the above applies and it is a query with a token
abbrev pub TokenRefused : Type 0
TokenRefused = (domain : Bytes) (ops : List Op) (token : Option Bytes) → (batch_refusal domain ops token ≡ Some batch.TokenOnQuery) ↔ (AreFaultless domain ops × ArePagesAlone ops × (is_some token ≡ true) × (is_query ops ≡ true))

-- a list is accepted as a batch exactly if none of these refusals applies
abbrev pub NoFault : Type 0
NoFault = (domain : Bytes) (ops : List Op) (token : Option Bytes) → (batch_refusal domain ops token ≡ None) ↔ (AreFaultless domain ops × ArePagesAlone ops × (is_some token ≡ true → is_query ops ≡ false))

-- new entries, agents, bundles and operations have no fault exactly if they are what the direct words say
abbrev pub EntryFaults : Type 0
EntryFaults = (own_domain : Bytes) (e : NewEntry) → IsProperEntry e → (entry_fault own_domain e ≡ None) ↔ FaultlessEntry own_domain e

abbrev pub AgentFaults : Type 0
AgentFaults = (own_domain : Bytes) (a : Agent) → IsProperAgent a → (agent_fault own_domain a ≡ None) ↔ FaultlessAgent own_domain a

abbrev pub BundleFaults : Type 0
BundleFaults = (own_domain domain text : Bytes) → (bundle_fault own_domain domain text ≡ None) ↔ FaultlessBundle own_domain domain text

abbrev pub OpFaults : Type 0
OpFaults = (own_domain : Bytes) (op : Op) → IsProperOp op → (op_fault own_domain op ≡ None) ↔ FaultlessOp own_domain op

-- ---- the verdict on a batch

-- It is a refusal, a repeat, or that of the run on the book that the batch reads, in which its token isn't in use.
abbrev pub VerdictCases : Type 0
VerdictCases = (batch : Batch) (place : ℕ) (read : Option Book) → ((r : Refusal) × (verdict batch place read ≡ refuses r)) ⊎ ((n : ℕ) × (replies : List OpReply) × (verdict batch place read ≡ repeats n replies)) ⊎ ((b : Book) × (read ≡ Some b) × (kept_under batch.token b ≡ None) × (verdict batch place read ≡ verdict_run batch place b))

-- the run of a batch of changes, if it isn't refused, adds the book after its writes, unless that passes a limit
abbrev pub ChangesVerdict : Type 0
ChangesVerdict = (batch : Batch) (n : ℕ) (b : Book) (t : RunEffect) → is_query batch.ops ≡ false → run batch.domain batch.ops b ≡ Ok t → verdict_run batch n b ≡ adds_within (limit_passed n (after (batch_writes batch (n + 1) t) b)) t.replies (after (batch_writes batch (n + 1) t) b)

-- a batch of changes reads the last book
abbrev pub ChangesReadLast : Type 0
ChangesReadLast = (own_domain : Bytes) (batch : Batch) → IsMadeFor own_domain batch → is_query batch.ops ≡ false → past_place batch.ops ≡ None

-- ---- histories

-- a history has a first book
abbrev pub HistoryBegins : Type 0
HistoryBegins = (first : List Book) (own_domain : Bytes) (books : List Book) → IsHistory first own_domain books → 0 < length books

-- a book that is added to a list is its last one
abbrev pub AddedIsLast : Type 0
AddedIsLast = (b : Book) (books : List Book) (added : Book) → last_or b (books ++ added ∷ []) ≡ added

-- a committed batch adds one book, which is then the last one and whose number is the reply's place
abbrev pub CommitAdds : Type 0
CommitAdds = (batch : Batch) (books : List Book) → 0 < length books → commits batch books ≡ true → ((b : Book) × (books_after batch books ≡ books ++ b ∷ []) × (last_book (books_after batch books) ≡ b)) × ((reply_to batch books).place ≡ length books)

-- any other batch leaves the list as it is; its place is the last book's number, unless it repeats a commit
abbrev pub OthersLeave : Type 0
OthersLeave = (batch : Batch) (books : List Book) → commits batch books ≡ false → (books_after batch books ≡ books) × (is_repeated (reply_to batch books).outcome ≡ false → (reply_to batch books).place ≡ place_of books)

-- a query is never committed
abbrev pub QueriesNeverCommit : Type 0
QueriesNeverCommit = (batch : Batch) (books : List Book) → is_query batch.ops ≡ true → commits batch books ≡ false

-- the reply to a batch on some books, and the books after it
abbrev pub HasOutcome : Batch → List Book → Reply → List Book → Type 0
HasOutcome batch books reply later = (reply_to batch books ≡ reply) × (books_after batch books ≡ later)

-- the book stores no batch under the token, if one is given
abbrev pub IsTokenFree : Option Bytes → Book → Type 0
IsTokenFree token b = IfSome token (λ t. (k : KeptBatch) → Within b.tokens k → k.token ≡ t → ⊥)

-- It may run at this place, no page of it gives the number of a book, and the last book stores no batch under its token.
pub record RunsOn (batch : Batch) (books : List Book) : Type 0 where
  pub reached : batch.after ≤ place_of books
  pub newest : ReadLastBook batch.ops
  pub not_kept : IsTokenFree batch.token (last_book books)

-- a batch whose minimum place isn't reached is refused for this, before any other check, and the books stay
abbrev pub EarlyRefused : Type 0
EarlyRefused = (batch : Batch) (books : List Book) → place_of books < batch.after → HasOutcome batch books (record { place = place_of books; outcome = Refused NotYet }) books

-- a batch with an operation that is refused is refused for it, and the books stay
abbrev pub OpRefuses : Type 0
OpRefuses = (batch : Batch) (books : List Book) (s : RefusedOp) → RunsOn batch books → run batch.domain batch.ops (last_book books) ≡ Err s → HasOutcome batch books (record { place = place_of books; outcome = Refused (OfOp s.op s.reason) }) books

-- any other query is answered, whatever the limits, and the books stay
abbrev pub QueriesAnswered : Type 0
QueriesAnswered = (batch : Batch) (books : List Book) (t : RunEffect) → RunsOn batch books → is_query batch.ops ≡ true → run batch.domain batch.ops (last_book books) ≡ Ok t → HasOutcome batch books (record { place = place_of books; outcome = Answered t.replies }) books

-- any other batch of changes that passes no limit adds the book after its writes, even if it equals the last one; the reply
-- has the new place
abbrev pub ChangesCommit : Type 0
ChangesCommit = (batch : Batch) (books : List Book) (t : RunEffect) → RunsOn batch books → is_query batch.ops ≡ false → run batch.domain batch.ops (last_book books) ≡ Ok t → limit_passed (place_of books) (after (batch_writes batch (place_of books + 1) t) (last_book books)) ≡ None → HasOutcome batch books (record { place = place_of books + 1; outcome = Committed t.replies }) (books ++ after (batch_writes batch (place_of books + 1) t) (last_book books) ∷ [])

-- but if a limit is passed, the batch is refused for the first such limit, and the books stay
abbrev pub FullRefused : Type 0
FullRefused = (batch : Batch) (books : List Book) (t : RunEffect) (limit : Limit) → RunsOn batch books → is_query batch.ops ≡ false → run batch.domain batch.ops (last_book books) ≡ Ok t → limit_passed (place_of books) (after (batch_writes batch (place_of books + 1) t) (last_book books)) ≡ Some limit → HasOutcome batch books (record { place = place_of books; outcome = Refused (Full limit) }) books

-- ---- earlier books

-- the same page without the number of a book
abbrev pub as_newest_page : Op → Op
as_newest_page (Page q) = Page (record q { at = None })
as_newest_page op = op

-- the same batch without the number of a book and without a minimum place
abbrev pub batch_now : Batch → Batch
batch_now batch = record batch { ops = map as_newest_page batch.ops; after = 0 }

-- a page of book n, one of the last 64, gets the reply that it got when book n was the last, and the books stay
abbrev pub PastAnswered : Type 0
PastAnswered = (own_domain : Bytes) (batch : Batch) (books : List Book) (q : PageQuery) (n : ℕ) → IsMadeFor own_domain batch → 0 < length books → batch.after ≤ place_of books → batch.ops ≡ Page q ∷ [] → q.at ≡ Some n → n ≤ place_of books → place_of books < n + 64 → HasOutcome batch books (record { place = place_of books; outcome = (reply_to (batch_now batch) (take (n + 1) books)).outcome }) books

-- a page of any other book is refused, and the books stay
abbrev pub GoneRefused : Type 0
GoneRefused = (batch : Batch) (books : List Book) (q : PageQuery) (n : ℕ) → batch.after ≤ place_of books → batch.ops ≡ Page q ∷ [] → q.at ≡ Some n → (place_of books < n) ⊎ (n + 64 ≤ place_of books) → HasOutcome batch books (record { place = place_of books; outcome = Refused (OfOp 0 VersionGone) }) books

-- ---- tokens

-- operations compare as equal exactly if the lists are equal
abbrev pub OpsCompared : Type 0
OpsCompared = (ops others : List Op) → (ops_eq ops others ≡ true) ↔ (ops ≡ others)

-- A commit with a token adds a row for it to the tokens, and leaves the other rows as its operations left them; this write is the
-- last. Without a token, it adds none.
pub record TokenWritten (batch : Batch) (n : ℕ) (b : Book) (t : RunEffect) : Type 0 where
  pub rows : (k : KeptBatch) → Within (after (batch_writes batch n t) b).tokens k ↔ (Within b.tokens k ⊎ ((batch.token ≡ Some k.token) × (k.ops ≡ batch.ops) × (k.place ≡ n) × (k.replies ≡ t.replies)))
  pub others : after (batch_writes batch n t) b ≡ record (after t.writes b) { tokens = (after (batch_writes batch n t) b).tokens }
  pub last : map row_written (batch_writes batch n t) ≡ map row_written t.writes ++ map token_of (option_to_list batch.token)

-- so it is with each accepted run of a batch whose token isn't in use
abbrev pub TokensWritten : Type 0
TokensWritten = (batch : Batch) (n : ℕ) (b : Book) → IsTokenFree batch.token b → IfOk (run batch.domain batch.ops b) (TokenWritten batch n b)

-- The stored batch is one of these, which follow the first books: it has this token and these operations, and was committed at
-- this place with these replies.
pub record WasCommitted (first : List Book) (batches : List Batch) (k : KeptBatch) : Type 0 where
  pub before : List Batch
  pub batch : Batch
  pub later : List Batch
  pub split : batches ≡ before ++ batch ∷ later
  pub token : batch.token ≡ Some k.token
  pub ops : batch.ops ≡ k.ops
  pub place : k.place ≡ length before + length first
  pub replied : reply_to batch (books_from first before) ≡ record { place = k.place; outcome = Committed k.replies }

-- Each batch that the last book of a history stores was committed, or the last of the first books stores it. The empty book
-- stores none.
abbrev pub KeptCommitted : Type 0
KeptCommitted = (first : List Book) (own_domain : Bytes) (batches : List Batch) (books : List Book) (k : KeptBatch) → LeadToBooks first own_domain batches books → Within (last_book books).tokens k → Within (last_book first).tokens k ⊎ WasCommitted first batches k

-- so if the history begins with the empty book, each stored batch was committed
abbrev pub AllCommitted : Type 0
AllCommitted = (own_domain : Bytes) (batches : List Batch) (books : List Book) (k : KeptBatch) → LeadToBooks first_books own_domain batches books → Within (last_book books).tokens k → WasCommitted first_books batches k

-- a batch that is stored stays stored, after any batches
abbrev pub KeptStays : Type 0
KeptStays = (first : List Book) (own_domain : Bytes) (books : List Book) (k : KeptBatch) (batches : List Batch) → IsHistory first own_domain books → Within (last_book books).tokens k → AllByRecursion (IsMadeFor own_domain) batches → Within (last_book (books_from books batches)).tokens k

-- a batch whose token is in use gets the stored reply if it has the same operations; the books stay
abbrev pub RepeatAnswered : Type 0
RepeatAnswered = (batch : Batch) (books : List Book) (k : KeptBatch) → AscendingBook (last_book books) → batch.after ≤ place_of books → ReadLastBook batch.ops → Within (last_book books).tokens k → batch.token ≡ Some k.token → k.ops ≡ batch.ops → HasOutcome batch books (record { place = k.place; outcome = Repeated k.replies }) books

-- with other operations, it is refused
abbrev pub ReuseRefused : Type 0
ReuseRefused = (batch : Batch) (books : List Book) (k : KeptBatch) → AscendingBook (last_book books) → batch.after ≤ place_of books → ReadLastBook batch.ops → Within (last_book books).tokens k → batch.token ≡ Some k.token → (k.ops ≡ batch.ops → ⊥) → HasOutcome batch books (record { place = place_of books; outcome = Refused TokenReused }) books

-- Once a batch is committed with a token, no other batch is committed with it. Later, after any batches, one with the same
-- operations gets the same replies and place, and one with other operations is refused, if its minimum place is reached.
-- The books stay.
pub record CommittedOnce (first : Reply) (replies : List OpReply) (batch other : Batch) (later : List Book) : Type 0 where
  pub no_more : commits other later ≡ false
  pub books_stay : books_after other later ≡ later
  pub repeated : other.after ≤ place_of later → other.ops ≡ batch.ops → reply_to other later ≡ record { place = first.place; outcome = Repeated replies }
  pub reused : other.after ≤ place_of later → (other.ops ≡ batch.ops → ⊥) → reply_to other later ≡ record { place = place_of later; outcome = Refused TokenReused }

-- so it is with each token of a history
abbrev pub ExactlyOnce : Type 0
ExactlyOnce = (first : List Book) (own_domain token : Bytes) (batch other : Batch) (between : List Batch) (books : List Book) (replies : List OpReply) → IsHistory first own_domain books → IsMadeFor own_domain batch → IsMadeFor own_domain other → AllByRecursion (IsMadeFor own_domain) between → batch.token ≡ Some token → other.token ≡ Some token → (reply_to batch books).outcome ≡ Committed replies → CommittedOnce (reply_to batch books) replies batch other (books_from (books_after batch books) between)

-- the reply to the batch that is stored, when it was committed
abbrev pub first_reply : KeptBatch → Reply
first_reply k = record { place = k.place; outcome = Committed k.replies }

-- the stored batch, with `after` 0, since `after` isn't stored
abbrev pub stored_batch : Bytes → KeptBatch → Batch
stored_batch own_domain k = record { domain = own_domain; ops = k.ops; after = 0; token = Some k.token }

-- So it is with each token that is in use, whether its batch is one of the history or the first books store it.
abbrev pub StoredOnce : Type 0
StoredOnce = (first : List Book) (own_domain : Bytes) (k : KeptBatch) (other : Batch) (between : List Batch) (books : List Book) → IsHistory first own_domain books → Within (last_book books).tokens k → IsMadeFor own_domain other → AllByRecursion (IsMadeFor own_domain) between → other.token ≡ Some k.token → CommittedOnce (first_reply k) k.replies (stored_batch own_domain k) other (books_from books between)

-- the limit is passed, and none before it is
abbrev pub IsFirstPassed : Limit → ℕ → Book → Type 0
IsFirstPassed limit.History place b = 2 ^ 48 ≤ place
IsFirstPassed limit.Entries place b = (place < 2 ^ 48) × (16384 < length b.entries)
IsFirstPassed limit.Agents place b = (place < 2 ^ 48) × (length b.entries ≤ 16384) × (4096 < length b.agents)
IsFirstPassed limit.Bundles place b = (place < 2 ^ 48) × (length b.entries ≤ 16384) × (length b.agents ≤ 4096) × (1024 < length b.bundles)
IsFirstPassed limit.Tokens place b = (place < 2 ^ 48) × (length b.entries ≤ 16384) × (length b.agents ≤ 4096) × (length b.bundles ≤ 1024) × (65536 < length b.tokens)

-- the reported limit is the first one that is passed, in this order
abbrev pub FirstLimit : Type 0
FirstLimit = (place : ℕ) (b : Book) (limit : Limit) → (limit_passed place b ≡ Some limit) ↔ IsFirstPassed limit place b

-- no limit is reported exactly if fewer than 2^48 batches are committed and the rows are within the limits
abbrev pub NoneIsPassed : Type 0
NoneIsPassed = (place : ℕ) (b : Book) → (limit_passed place b ≡ None) ↔ ((place < 2 ^ 48) × IsWithinLimits b)

-- each book of a history is within the limits
abbrev pub AllWithinLimits : Type 0
AllWithinLimits = (first : List Book) (own_domain : Bytes) (books : List Book) → IsHistory first own_domain books → (n : ℕ) (b : Book) → slice_get books n ≡ Some b → IsWithinLimits b

-- a history has at most 2^48 + 1 books
abbrev pub HistoryBounded : Type 0
HistoryBounded = (first : List Book) (own_domain : Bytes) (books : List Book) → IsHistory first own_domain books → length books ≤ 2 ^ 48 + 1

-- the books after one more batch
abbrev pub OneMore : Type 0
OneMore = (first : List Book) (batches : List Batch) (batch : Batch) → books_from first (batches ++ batch ∷ []) ≡ books_after batch (books_from first batches)

-- and whether all of these batches commit
abbrev pub OneMoreCommits : Type 0
OneMoreCommits = (first : List Book) (batches : List Batch) (batch : Batch) → CommitAll first (batches ++ batch ∷ []) ↔ (CommitAll first batches × (commits batch (books_from first batches) ≡ true))

-- n committed batches add n books
abbrev pub CountOfBooks : Type 0
CountOfBooks = (first : List Book) (batches : List Batch) → 0 < length first → CommitAll first batches → length (books_from first batches) ≡ length batches + length first

-- the book of the last number is the last one
abbrev pub LastIsThere : Type 0
LastIsThere = (books : List Book) → 0 < length books → slice_get books (place_of books) ≡ Some (last_book books)

-- a history continues with any batch that was made for its domain
abbrev pub HistoryExtends : Type 0
HistoryExtends = (first : List Book) (own_domain : Bytes) (batch : Batch) (books : List Book) → IsHistory first own_domain books → IsMadeFor own_domain batch → IsHistory first own_domain (books_after batch books)

-- the list with the empty book alone is one that a history may begin with
abbrev pub EmptyIsFirst : Type 0
EmptyIsFirst = (own_domain : Bytes) → IsFirst own_domain first_books

-- so is a list that begins at a place of at most 2^48 with a book that is lawful there and within the limits
abbrev pub StartIsFirst : Type 0
StartIsFirst = (own_domain : Bytes) (q : ℕ) (b : Book) → q ≤ 2 ^ 48 → Lawful own_domain (64 * q) b → IsWithinLimits b → IsFirst own_domain (starting_at q b)

-- and so is each history
abbrev pub HistoryIsFirst : Type 0
HistoryIsFirst = (first : List Book) (own_domain : Bytes) (books : List Book) → IsHistory first own_domain books → IsFirst own_domain books

-- Batches get the same replies on two lists that have the same length and the same last 64 books, and these stay alike.
abbrev pub AlikeAnswer : Type 0
AlikeAnswer = (books others : List Book) (batches : List Batch) → IsAlike books others → (replies_from books batches ≡ replies_from others batches) × IsAlike (books_from books batches) (books_from others batches)

-- ---- lawful books

-- a lawful book is lawful for any higher bound on revisions and sequences
abbrev pub LawfulWider : Type 0
LawfulWider = (own_domain : Bytes) (m n : ℕ) (b : Book) → m ≤ n → Lawful own_domain m b → Lawful own_domain n b

-- an operation without a fault leaves a lawful book lawful, and raises the bound by 1
abbrev pub OpKeeps : Type 0
OpKeeps = (own_domain : Bytes) (m : ℕ) (op : Op) (b : Book) → IsProperOp op → op_fault own_domain op ≡ None → Lawful own_domain m b → IfOk (op_of own_domain op b) (λ d. Lawful own_domain (m + 1) (after d.writes b))

-- each book of a history is lawful, and in book n no revision or sequence is above 64 n
abbrev pub LawfulHistory : Type 0
LawfulHistory = (first : List Book) (own_domain : Bytes) (books : List Book) → IsHistory first own_domain books → (n : ℕ) (b : Book) → slice_get books n ≡ Some b → Lawful own_domain (64 * n) b

-- so is each book in a list that a plain book's state represents
abbrev pub AllLawful : Type 0
AllLawful = (first : List Book) (state : PlainState) (books : List Book) → RepresentsFrom first state books → (n : ℕ) (b : Book) → slice_get books n ≡ Some b → Lawful state.domain (64 * n) b

-- an accepted batch turns a book that is lawful as book n into one that is lawful as book n + 1
abbrev pub BatchKeeps : Type 0
BatchKeeps = (own_domain : Bytes) (batch : Batch) (n : ℕ) (b : Book) → IsMadeFor own_domain batch → Lawful own_domain (64 * n) b → IfOk (run batch.domain batch.ops b) (λ t. Lawful own_domain (64 * (n + 1)) (after (batch_writes batch (n + 1) t) b))

-- and each of its writes finds the row that it names, if no batch is stored under its token
abbrev pub BatchFits : Type 0
BatchFits = (batch : Batch) (n : ℕ) (b : Book) → AscendingBook b → IsTokenFree batch.token b → IfOk (run batch.domain batch.ops b) (λ t. FitAll (batch_writes batch n t) b)

-- ---- pages

-- each mode, in the words of sets
abbrev pub MatchesAsSaid : Type 0
MatchesAsSaid = (mode : MatchMode) (given own_domain : List SelectorPair) → (matches_by mode given own_domain ≡ true) ↔ Matches mode given own_domain

-- a filter passes exactly the entries that satisfy each given part
abbrev pub PassesAsSaid : Type 0
PassesAsSaid = (f : Filter) (e : Entry) → (passes f e ≡ true) ↔ Passes f e

-- a page has exactly the first entries that pass and come after its start, as many as it has room for; there is a next page
-- exactly if more come
abbrev pub PageAsSaid : Type 0
PageAsSaid = (q : PageQuery) (b : Book) → AscendingBook b → IsPage q b (listed q b) (next_of q b)

-- and these words determine what a page has
abbrev pub OnePage : Type 0
OnePage = (q : PageQuery) (b : Book) (es fs : List Entry) (m n : Option Bytes) → IsPage q b es m → IsPage q b fs n → (es ≡ fs) × (m ≡ n)

-- filtering by the filter and the start of a page at once is filtering by the one and then by the other
abbrev pub PageInTurn : Type 0
PageInTurn = (q : PageQuery) (rows : List Entry) → filter (λ e. passes q.filter e && comes_after q.from e) rows ≡ filter (comes_after q.from) (filter (passes q.filter) rows)

-- the page after these entries begins after the last one
abbrev pub LastOfPage : Type 0
LastOfPage = (front : List Entry) (e : Entry) → last_id (front ++ e ∷ []) ≡ Some e.id

-- reading page after page from the start, with any size above 0, lists every entry that passes once, in order, and ends
abbrev pub PagesListAll : Type 0
PagesListAll = (q : PageQuery) (b : Book) → AscendingBook b → 0 < q.size → PageAfterPage q b None (passing q.filter b)

-- and no reading lists other entries
abbrev pub PagesListOnce : Type 0
PagesListOnce = (q : PageQuery) (b : Book) (es : List Entry) → AscendingBook b → 0 < q.size → PageAfterPage q b None es → es ≡ passing q.filter b
