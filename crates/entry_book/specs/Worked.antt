-- Worked books, computed: a cycle of parents, and an alias; and worked batches. The domain is `ex.org`.
use Rattle.std.specs.Prelude.{◌≡◌, ℕ, List, [], ◌∷◌, ◌++◌, Option, Some, None, codes}
use Rattle.spiffe_name.specs.Id.{server_text}
use Rattle.spiffe_name.specs.Selector.{SelectorPair}
use Rattle.entry_book.specs.declared.agent.Agent.{Agent}
use Rattle.entry_book.specs.declared.bundle.Bundle.{Bundle}
use Rattle.entry_book.specs.declared.entry.NewEntry.{NewEntry}
use Rattle.entry_book.specs.declared.mode.DropMode.TheVariants as mode
use Rattle.entry_book.specs.declared.op.Op.{Op}
use Rattle.entry_book.specs.declared.op.Op.TheVariants.{Create, Update, Delete, Show, ShowAgent, ShowBundle, Children, Page, Authorised, Trust, Prune, SetAgent, DropAgent, SetBundle, DropBundle}
use Rattle.entry_book.specs.declared.reply.OpReply.{OpReply}
use Rattle.entry_book.specs.declared.reply.OpReply.TheVariants as replied
use Rattle.entry_book.specs.declared.reply.OpRefusal.{OpRefusal}
use Rattle.entry_book.specs.declared.reply.OpRefusal.TheVariants.{IdTaken, Similar, StaleRevision, NoBundle, NoAgent, VersionGone}
use Rattle.entry_book.specs.declared.reply.ReplyOutcome.TheVariants.{Committed, Answered, Repeated, Refused}
use Rattle.entry_book.specs.declared.reply.Refusal.TheVariants.{NotYet, TokenReused, OfOp}
use Rattle.entry_book.specs.declared.reply.Reply.{Reply}
use Rattle.entry_book.specs.Rows.{Bytes, Entry, given_of}
use Rattle.entry_book.specs.Book.{Book}
use Rattle.entry_book.specs.Authorised.{authorised}
use Rattle.entry_book.specs.Visible.{ShowsSame, ShowsSameBundles}
use Rattle.entry_book.specs.Batches.{Batch}
use Rattle.entry_book.specs.History.{first_books, replies_from}

-- the ID of the server
abbrev pub server : Bytes
server = server_text (codes "ex.org")

-- the ID with this path
abbrev pub id_of : Bytes → Bytes
id_of path = codes "spiffe://ex.org" ++ path

-- the ID of the agent n1
abbrev pub agent_id : Bytes
agent_id = id_of (codes "/spire/agent/n1")

-- the UUID whose last byte is n, and whose other bytes are 0
abbrev pub worked_uuid : ℕ → Bytes
worked_uuid n = 0 ∷ 0 ∷ 0 ∷ 0 ∷ 0 ∷ 0 ∷ 0 ∷ 0 ∷ 0 ∷ 0 ∷ 0 ∷ 0 ∷ 0 ∷ 0 ∷ 0 ∷ n ∷ []

abbrev pub selector : Bytes → Bytes → SelectorPair
selector t v = record { type = t; value = v }

-- entry n with this parent, identity and selectors, at revision 0, with no hint, domains, expiry or lifetimes
abbrev pub entry : ℕ → Bytes → Bytes → List SelectorPair → Entry
entry n parent identity selectors = record { id = worked_uuid n; parent = parent; identity = identity; selectors = selectors; hint = []; domains = []; expiry = 0; x509_svid_ttl = 0; jwt_svid_ttl = 0; revision = 0 }

-- the agent n1 with these selectors
abbrev pub agent : List SelectorPair → Agent
agent selectors = record { id = agent_id; selectors = selectors }

-- the book of these entries and this agent
abbrev pub book : List Entry → Agent → Book
book entries a = record { entries = entries; agents = a ∷ []; bundles = []; tokens = [] }

-- ---- a cycle: the agent's entry A, B under A, and A again under B; and one entry that no chain reaches

abbrev pub cycle : List Entry
cycle = entry 1 agent_id (id_of (codes "/A")) (selector (codes "u") (codes "1") ∷ []) ∷ entry 2 (id_of (codes "/A")) (id_of (codes "/B")) (selector (codes "u") (codes "1") ∷ []) ∷ entry 3 (id_of (codes "/B")) (id_of (codes "/A")) (selector (codes "u") (codes "1") ∷ []) ∷ []

-- the entry that no chain reaches
abbrev pub stranger : Entry
stranger = entry 4 (id_of (codes "/C")) (id_of (codes "/A")) (selector (codes "u") (codes "1") ∷ [])

abbrev pub plain_agent : Agent
plain_agent = agent (selector (codes "x") (codes "1") ∷ [])

-- the authorised entries are those of the cycle, and not the other one
abbrev pub CycleIsAuthorised : Type 0
CycleIsAuthorised = authorised server plain_agent (book (cycle ++ stranger ∷ []) plain_agent) ≡ cycle

-- ---- an alias with two selectors, an entry under it, and one under that one

abbrev pub x1 : SelectorPair
x1 = selector (codes "x") (codes "1")

abbrev pub x2 : SelectorPair
x2 = selector (codes "x") (codes "2")

abbrev pub x3 : SelectorPair
x3 = selector (codes "x") (codes "3")

abbrev pub aliased : List Entry
aliased = entry 1 server (id_of (codes "/alias")) (x1 ∷ x2 ∷ []) ∷ entry 2 (id_of (codes "/alias")) (id_of (codes "/web")) (selector (codes "u") (codes "1") ∷ []) ∷ entry 3 (id_of (codes "/web")) (id_of (codes "/side")) (selector (codes "u") (codes "2") ∷ []) ∷ []

-- the agent's authorised entries, if it has these selectors
abbrev pub authorised_with : List SelectorPair → List Entry
authorised_with selectors = authorised server (agent selectors) (book aliased (agent selectors))

-- held with exactly the alias's selectors, and with one more; not held with one of the two, nor with none
abbrev pub AliasHeld : Type 0
AliasHeld = authorised_with (x1 ∷ x2 ∷ []) ≡ aliased

abbrev pub AliasHeldWithMore : Type 0
AliasHeldWithMore = authorised_with (x1 ∷ x2 ∷ x3 ∷ []) ≡ aliased

abbrev pub AliasNotHeld : Type 0
AliasNotHeld = authorised_with (x1 ∷ []) ≡ []

abbrev pub AliasNotHeldWithNone : Type 0
AliasNotHeldWithNone = authorised_with [] ≡ []

-- another agent of the book holds the alias, and the queried one doesn't
abbrev pub other_agent : Agent
other_agent = record { id = id_of (codes "/spire/agent/n2"); selectors = x1 ∷ x2 ∷ [] }

abbrev pub AliasOfAnother : Type 0
AliasOfAnother = authorised server (agent (x1 ∷ [])) (record { entries = aliased; agents = agent (x1 ∷ []) ∷ other_agent ∷ []; bundles = []; tokens = [] }) ≡ []

-- ---- two books that show an agent the same rows, and differ in others

-- the book with the cycle alone, and the one with another entry and another agent
abbrev pub cycle_book : Book
cycle_book = book cycle plain_agent

abbrev pub larger_book : Book
larger_book = record { entries = cycle ++ stranger ∷ []; agents = plain_agent ∷ other_agent ∷ []; bundles = []; tokens = [] }

abbrev pub LargerShowsSame : Type 0
LargerShowsSame = ShowsSame server agent_id cycle_book larger_book × ShowsSameBundles server agent_id cycle_book larger_book

-- ---- batches, run one after another

-- the batch of these operations, with no minimum place and no token
abbrev pub worked_batch : List Op → Batch
worked_batch ops = record { domain = codes "ex.org"; ops = ops; after = 0; token = None }

-- the reply at place n to a committed batch of one operation
abbrev pub committed : ℕ → OpReply → Reply
committed n r = record { place = n; outcome = Committed (r ∷ []) }

-- the reply at place n to a query of one operation
abbrev pub worked_answer : ℕ → OpReply → Reply
worked_answer n r = record { place = n; outcome = Answered (r ∷ []) }

-- the reply at place n to a batch that is refused for this operation
abbrev pub refused : ℕ → ℕ → OpRefusal → Reply
refused n op reason = record { place = n; outcome = Refused (OfOp op reason) }

abbrev pub u1 : List SelectorPair
u1 = selector (codes "u") (codes "1") ∷ []

abbrev pub web : ℕ → Entry
web n = entry n agent_id (id_of (codes "/web")) u1

abbrev pub api : ℕ → Entry
api n = entry n agent_id (id_of (codes "/api")) u1

abbrev pub create : Entry → Op
create e = Create (given_of e)

-- the agent is set, an entry is created under it, and its authorised entries are queried
abbrev pub FirstBatches : Type 0
FirstBatches = replies_from first_books (worked_batch (SetAgent plain_agent ∷ []) ∷ worked_batch (create (web 1) ∷ []) ∷ worked_batch (Authorised agent_id ∷ []) ∷ []) ≡ committed 1 (replied.Agent plain_agent) ∷ committed 2 (replied.Entry (web 1)) ∷ worked_answer 2 (replied.Entries (web 1 ∷ [])) ∷ []

-- on the empty book there is no agent, and no bundle
abbrev pub EmptyRefuses : Type 0
EmptyRefuses = replies_from first_books (worked_batch (Authorised agent_id ∷ []) ∷ worked_batch (Create (record (given_of (web 1)) { domains = codes "b.org" ∷ codes "c.org" ∷ [] }) ∷ []) ∷ []) ≡ refused 0 0 NoAgent ∷ refused 0 0 (NoBundle (codes "b.org")) ∷ []

-- a batch that is refused at its third operation leaves nothing of the first two: both can be added afterwards
abbrev pub NothingKept : Type 0
NothingKept = replies_from first_books (worked_batch (create (web 1) ∷ []) ∷ worked_batch (create (api 2) ∷ create (entry 3 agent_id (id_of (codes "/side")) u1) ∷ create (api 1) ∷ []) ∷ worked_batch (create (api 3) ∷ []) ∷ worked_batch (create (web 2) ∷ []) ∷ []) ≡ committed 1 (replied.Entry (web 1)) ∷ refused 1 2 IdTaken ∷ committed 2 (replied.Entry (api 3)) ∷ refused 2 0 (Similar (worked_uuid 1)) ∷ []

-- ---- bundles, revisions and expiries

abbrev pub all_committed : ℕ → List OpReply → Reply
all_committed n rs = record { place = n; outcome = Committed rs }

abbrev pub other_domain : Bytes
other_domain = codes "b.org"

abbrev pub set : Bytes → Op
set text = SetBundle other_domain text

abbrev pub bundle : Bytes → ℕ → Bundle
bundle text n = record { domain = other_domain; text = text; sequence = n }

-- a bundle that is set again has the next sequence, and one that was dropped before starts at 0
abbrev pub SequencesCount : Type 0
SequencesCount = replies_from first_books (worked_batch (set (codes "t1") ∷ []) ∷ worked_batch (set (codes "t2") ∷ []) ∷ worked_batch (DropBundle other_domain mode.Restrict ∷ []) ∷ worked_batch (set (codes "t1") ∷ []) ∷ []) ≡ committed 1 (replied.Bundle (bundle (codes "t1") 0)) ∷ committed 2 (replied.Bundle (bundle (codes "t2") 1)) ∷ committed 3 (replied.Dropped [] []) ∷ committed 4 (replied.Bundle (bundle (codes "t1") 0)) ∷ []

abbrev pub user : Entry
user = record (web 1) { domains = other_domain ∷ [] }

-- an entry is created and freed of the domain in one batch: revision 0 before, and revision 1 with no domain after
abbrev pub FreedInOneBatch : Type 0
FreedInOneBatch = replies_from first_books (worked_batch (set (codes "t1") ∷ []) ∷ worked_batch (create user ∷ Show (worked_uuid 1) ∷ DropBundle other_domain mode.Dissociate ∷ Show (worked_uuid 1) ∷ []) ∷ []) ≡ committed 1 (replied.Bundle (bundle (codes "t1") 0)) ∷ all_committed 2 (replied.Entry user ∷ replied.EntryShown (Some user) ∷ replied.Dropped [] (worked_uuid 1 ∷ []) ∷ replied.EntryShown (Some (record (web 1) { revision = 1 })) ∷ []) ∷ []

abbrev pub expiring : ℕ → Bytes → ℕ → Entry
expiring n path moment = record (entry n agent_id (id_of path) u1) { expiry = moment }

-- prune before 100: an expiry of 0 is none, that of 99 is before, and that of 100 isn't
abbrev pub PrunesBefore : Type 0
PrunesBefore = replies_from first_books (worked_batch (create (expiring 1 (codes "/a") 0) ∷ create (expiring 2 (codes "/b") 99) ∷ create (expiring 3 (codes "/c") 100) ∷ []) ∷ worked_batch (Prune 100 ∷ []) ∷ worked_batch (Children agent_id ∷ []) ∷ []) ≡ all_committed 1 (replied.Entry (expiring 1 (codes "/a") 0) ∷ replied.Entry (expiring 2 (codes "/b") 99) ∷ replied.Entry (expiring 3 (codes "/c") 100) ∷ []) ∷ committed 2 (replied.Pruned (worked_uuid 2 ∷ [])) ∷ worked_answer 2 (replied.Entries (expiring 1 (codes "/a") 0 ∷ expiring 3 (codes "/c") 100 ∷ [])) ∷ []

-- an entry that is created and updated is at revision 1: the delete that expects 0 is refused, and nothing is kept
abbrev pub StaleDelete : Type 0
StaleDelete = replies_from first_books (worked_batch (create (web 1) ∷ Update (given_of (api 1)) (Some 0) ∷ Delete (worked_uuid 1) (Some 0) ∷ []) ∷ worked_batch (Show (worked_uuid 1) ∷ []) ∷ []) ≡ refused 0 2 StaleRevision ∷ worked_answer 0 (replied.EntryShown None) ∷ []

-- ---- earlier books, places and tokens

abbrev pub page_of_all : Option ℕ → Op
page_of_all at = Page (record { size = 2; at = at; from = None; filter = record { parent = None; identity = None; domain = None; selectors = None } })

abbrev pub paged : ℕ → List Entry → Option Bytes → Reply
paged n es next = worked_answer n (replied.Page es next)

-- book 1 is still read when one of its entries is gone, book 0 has no entry, and book 3 isn't there yet
abbrev pub EarlierBooksRead : Type 0
EarlierBooksRead = replies_from first_books (worked_batch (create (web 1) ∷ create (api 2) ∷ create (entry 3 agent_id (id_of (codes "/side")) u1) ∷ []) ∷ worked_batch (Delete (worked_uuid 2) None ∷ []) ∷ worked_batch (page_of_all None ∷ []) ∷ worked_batch (page_of_all (Some 1) ∷ []) ∷ worked_batch (page_of_all (Some 0) ∷ []) ∷ worked_batch (page_of_all (Some 3) ∷ []) ∷ []) ≡ all_committed 1 (replied.Entry (web 1) ∷ replied.Entry (api 2) ∷ replied.Entry (entry 3 agent_id (id_of (codes "/side")) u1) ∷ []) ∷ committed 2 (replied.Entry (api 2)) ∷ paged 2 (web 1 ∷ entry 3 agent_id (id_of (codes "/side")) u1 ∷ []) None ∷ paged 2 (web 1 ∷ api 2 ∷ []) (Some (worked_uuid 2)) ∷ paged 2 [] None ∷ refused 2 0 VersionGone ∷ []

-- a batch with minimum place 1 is refused at place 0, before its operation is checked, and runs at place 1
abbrev pub LaterBatchWaits : Type 0
LaterBatchWaits = replies_from first_books (record (worked_batch (Authorised agent_id ∷ [])) { after = 1 } ∷ worked_batch (SetAgent plain_agent ∷ []) ∷ record (worked_batch (Authorised agent_id ∷ [])) { after = 1 } ∷ []) ≡ record { place = 0; outcome = Refused NotYet } ∷ committed 1 (replied.Agent plain_agent) ∷ worked_answer 1 (replied.Entries []) ∷ []

abbrev pub with_token : List Op → Batch
with_token ops = record (worked_batch ops) { token = Some (worked_uuid 9) }

-- The agent is set with a token, and dropped. Setting it again with this token gets the first reply, and it stays dropped.
-- Another batch with the token is refused.
abbrev pub TokenKeepsReplies : Type 0
TokenKeepsReplies = replies_from first_books (with_token (SetAgent plain_agent ∷ []) ∷ worked_batch (DropAgent agent_id ∷ []) ∷ with_token (SetAgent plain_agent ∷ []) ∷ with_token (SetAgent (agent (x2 ∷ [])) ∷ []) ∷ worked_batch (ShowAgent agent_id ∷ []) ∷ []) ≡ committed 1 (replied.Agent plain_agent) ∷ committed 2 (replied.Agent plain_agent) ∷ record { place = 1; outcome = Repeated (replied.Agent plain_agent ∷ []) } ∷ record { place = 2; outcome = Refused TokenReused } ∷ worked_answer 2 (replied.AgentShown None) ∷ []

-- a batch that is refused stores nothing under its token
abbrev pub RefusedTokenFree : Type 0
RefusedTokenFree = replies_from first_books (with_token (DropAgent agent_id ∷ []) ∷ with_token (SetAgent plain_agent ∷ []) ∷ []) ≡ refused 0 0 NoAgent ∷ committed 1 (replied.Agent plain_agent) ∷ []

-- ---- lifetimes, and queries

-- the first entry, without its revision, with these lifetimes
abbrev pub web_for : ℕ → ℕ → NewEntry
web_for x509 jwt = record { id = worked_uuid 1; parent = agent_id; identity = id_of (codes "/web"); selectors = u1; hint = codes "h"; domains = []; expiry = 7; x509_svid_ttl = x509; jwt_svid_ttl = jwt }

abbrev pub web_at : ℕ → ℕ → ℕ → Entry
web_at x509 jwt n = record { id = worked_uuid 1; parent = agent_id; identity = id_of (codes "/web"); selectors = u1; hint = codes "h"; domains = []; expiry = 7; x509_svid_ttl = x509; jwt_svid_ttl = jwt; revision = n }

-- lifetimes are stored as given, an update sets both, and entries are similar whatever their lifetimes
abbrev pub LifetimesKept : Type 0
LifetimesKept = replies_from first_books (worked_batch (Create (web_for 3600 60) ∷ []) ∷ worked_batch (Create (record (web_for 1 2) { id = worked_uuid 2 }) ∷ []) ∷ worked_batch (Update (web_for 0 0) None ∷ []) ∷ []) ≡ committed 1 (replied.Entry (web_at 3600 60 0)) ∷ refused 1 0 (Similar (worked_uuid 1)) ∷ committed 2 (replied.Entry (web_at 0 0 1)) ∷ []

-- no query adds a book
abbrev pub WorkedQueriesAddNoBook : Type 0
WorkedQueriesAddNoBook = replies_from first_books (worked_batch (SetAgent plain_agent ∷ []) ∷ worked_batch (ShowAgent agent_id ∷ []) ∷ worked_batch (ShowBundle other_domain ∷ []) ∷ worked_batch (Trust agent_id ∷ []) ∷ worked_batch (page_of_all None ∷ []) ∷ []) ≡ committed 1 (replied.Agent plain_agent) ∷ worked_answer 1 (replied.AgentShown (Some plain_agent)) ∷ worked_answer 1 (replied.BundleShown None) ∷ worked_answer 1 (replied.Bundles []) ∷ paged 1 [] None ∷ []
