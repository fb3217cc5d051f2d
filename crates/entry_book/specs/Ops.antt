-- What one operation does to the book that it finds: the first of its refusals that is due, in their order, or its reply
-- and its writes. The writes say row by row what changes, and the book afterwards is the book after them. `Effects` says
-- the same of all rows together. `.._over` is the result for the row that was found, if any; `.._when` is the result of a
-- test.
use Rattle.std.specs.Prelude.{ℕ, ◌+◌, Bool, true, false, not, List, [], ◌∷◌, ◌++◌, filter, map, Option, Some, None, Result, Ok, Err, is_some, bytes_eq, nat_eq, ◌&&◌, if◌then◌else◌}
use Rattle.std.specs.List.{list_any}
use Rattle.spiffe_name.specs.Id.{server_text}
use Rattle.spiffe_name.specs.SelectorSet.{set_eq}
use Rattle.entry_book.specs.declared.agent.Agent.{Agent}
use Rattle.entry_book.specs.declared.bundle.Bundle.{Bundle}
use Rattle.entry_book.specs.declared.entry.NewEntry.{NewEntry}
use Rattle.entry_book.specs.declared.mode.DropMode.{DropMode}
use Rattle.entry_book.specs.declared.mode.DropMode.TheVariants as mode
use Rattle.entry_book.specs.declared.op.Op.{Op}
use Rattle.entry_book.specs.declared.op.Op.TheVariants.{Create, Update, Delete, Show, ShowAgent, ShowBundle, Children, Page, Authorised, Trust, Prune, SetAgent, DropAgent, SetBundle, DropBundle}
use Rattle.entry_book.specs.declared.reply.OpReply.{OpReply}
use Rattle.entry_book.specs.declared.reply.OpReply.TheVariants as replied
use Rattle.entry_book.specs.declared.reply.OpRefusal.{OpRefusal}
use Rattle.entry_book.specs.declared.reply.OpRefusal.TheVariants.{IdTaken, Similar, NoEntry, StaleRevision, NoBundle, BundleInUse, NoAgent}
use Rattle.entry_book.specs.Rows.{Bytes, Entry, at_revision, entry_key}
use Rattle.entry_book.specs.Order.{first}
use Rattle.entry_book.specs.Book.{Book, entry_at, agent_at, bundle_at, group_of, children_of, names, users_of, expired_before}
use Rattle.entry_book.specs.Writes.{RowWrite, wrote_entry, wrote_agent, wrote_bundle}
use Rattle.entry_book.specs.Authorised.{authorised}
use Rattle.entry_book.specs.Pages.{listed, next_of}

-- What an accepted operation does: its reply, and its writes in order.
pub record OpEffect : Type 0 where
  pub reply : OpReply
  pub writes : List RowWrite

-- the reply and the writes of an operation, or why it is refused
abbrev pub OpResult : Type 0
OpResult = Result OpEffect OpRefusal

-- the operation is accepted, with this reply and these writes
abbrev pub done : OpReply → List RowWrite → OpResult
done r ws = Ok (record { reply = r; writes = ws })

-- ---- an entry that is put into the book is refused for a similar entry, then for a missing bundle; the reply is the entry

-- another entry with the same parent, identity and set of selectors: the first one in the order of ids
abbrev pub similar : Entry → Book → Option Entry
similar e b = first (filter (λ o. set_eq o.selectors e.selectors && not (bytes_eq o.id e.id)) (group_of e.parent e.identity b))

-- the first of these domains that has no bundle, if any
abbrev pub lacking : List Bytes → Book → Option Bytes
lacking [] b = None
lacking (d ∷ ds) b = if is_some (bundle_at d b) then lacking ds b else Some d

-- the write that puts an entry in place of the old one of its id, if there is one
abbrev pub put : Option Entry → Entry → RowWrite
put old e = wrote_entry (record { key = e.id; old = old; new = Some e })

-- puts the entry, unless this domain of it has no bundle
abbrev pub put_named : Option Bytes → Option Entry → Entry → OpResult
put_named (Some d) old e = Err (NoBundle d)
put_named None old e = done (replied.Entry e) (put old e ∷ [])

-- puts the entry, unless this other entry is similar or a domain has no bundle
abbrev pub put_unless_similar : Option Entry → Option Entry → Entry → Book → OpResult
put_unless_similar (Some o) old e b = Err (Similar o.id)
put_unless_similar None old e b = put_named (lacking e.domains b) old e

-- ---- create: refused for a taken id, then as above; the entry is at revision 0

abbrev pub create_over : Option Entry → Entry → Book → OpResult
create_over (Some o) e b = Err IdTaken
create_over None e b = put_unless_similar (similar e b) None e b

-- ---- update: refused for a missing entry, a stale revision, then as above; it replaces all but the id, at the next revision

-- a revision is expected, and it isn't the entry's
abbrev pub is_stale : Option ℕ → Entry → Bool
is_stale None e = false
is_stale (Some expected) e = not (nat_eq expected e.revision)

abbrev pub update_when : Bool → Entry → NewEntry → Book → OpResult
update_when true old e b = Err StaleRevision
update_when false old e b = put_unless_similar (similar (at_revision (old.revision + 1) e) b) (Some old) (at_revision (old.revision + 1) e) b

abbrev pub update_over : Option Entry → NewEntry → Option ℕ → Book → OpResult
update_over None e expected b = Err NoEntry
update_over (Some old) e expected b = update_when (is_stale expected old) old e b

-- ---- delete: refused for a missing entry, then a stale revision; the reply is the removed entry

-- the write that removes the entry
abbrev pub removed : Entry → RowWrite
removed e = wrote_entry (record { key = e.id; old = Some e; new = None })

abbrev pub delete_when : Bool → Entry → OpResult
delete_when true e = Err StaleRevision
delete_when false e = done (replied.Entry e) (removed e ∷ [])

abbrev pub delete_over : Option Entry → Option ℕ → OpResult
delete_over None expected = Err NoEntry
delete_over (Some e) expected = delete_when (is_stale expected e) e

-- ---- operations on an agent of the book: refused for a missing agent

-- the result of f on the agent of a query, which the book may lack
abbrev pub for_agent : Option Agent → (Agent → OpResult) → OpResult
for_agent None f = Err NoAgent
for_agent (Some a) f = f a

-- whether one of these entries names the bundle's domain
abbrev pub is_named : List Entry → Bundle → Bool
is_named es d = list_any (names d.domain) es

-- the bundles of the domains that these entries name, in the order of domains
abbrev pub bundles_of : List Entry → Book → List Bundle
bundles_of es b = filter (is_named es) b.bundles

-- ---- set_agent and drop_agent; dropping a missing agent is refused

abbrev pub agent_set : Agent → Book → OpResult
agent_set a b = done (replied.Agent a) (wrote_agent (record { key = a.id; old = agent_at a.id b; new = Some a }) ∷ [])

abbrev pub agent_dropped : Agent → OpResult
agent_dropped a = done (replied.Agent a) (wrote_agent (record { key = a.id; old = Some a; new = None }) ∷ [])

-- ---- set_bundle: never refused; a new bundle has sequence 0, and each further set adds 1

-- the sequence after that of the old bundle, if there is one
abbrev pub next_sequence : Option Bundle → ℕ
next_sequence None = 0
next_sequence (Some old) = old.sequence + 1

abbrev pub bundle_put : Option Bundle → Bundle → OpResult
bundle_put old d = done (replied.Bundle d) (wrote_bundle (record { key = d.domain; old = old; new = Some d }) ∷ [])

abbrev pub bundle_set : Bytes → Bytes → Option Bundle → OpResult
bundle_set domain text old = bundle_put old (record { domain = domain; text = text; sequence = next_sequence old })

-- ---- drop_bundle: refused for a missing bundle, then for one in use; the reply has the deleted ids and the dissociated ids

-- the write that removes the bundle
abbrev pub bundle_removed : Bundle → RowWrite
bundle_removed d = wrote_bundle (record { key = d.domain; old = Some d; new = None })

-- the entry without the domain, at its next revision
abbrev pub dissociated : Bytes → Entry → Entry
dissociated domain e = record e { domains = filter (λ d. not (bytes_eq d domain)) e.domains; revision = e.revision + 1 }

-- the write that removes the domain from the entry
abbrev pub freed : Bytes → Entry → RowWrite
freed domain e = put (Some e) (dissociated domain e)

-- the result in each mode, for the entries that name the bundle's domain
abbrev pub drop_in : DropMode → List Entry → Bundle → OpResult
drop_in mode.Restrict [] d = done (replied.Dropped [] []) (bundle_removed d ∷ [])
drop_in mode.Restrict (e ∷ es) d = Err BundleInUse
drop_in mode.Delete es d = done (replied.Dropped (map entry_key es) []) (map removed es ++ bundle_removed d ∷ [])
drop_in mode.Dissociate es d = done (replied.Dropped [] (map entry_key es)) (map (freed d.domain) es ++ bundle_removed d ∷ [])

abbrev pub drop_over : Option Bundle → Bytes → DropMode → Book → OpResult
drop_over None domain mode b = Err (NoBundle domain)
drop_over (Some d) domain mode b = drop_in mode (users_of d.domain b) d

-- ---- the operations together

-- the result of an operation in the book of a trust domain; a page that gives the number of a book is run on that book
abbrev pub op_of : Bytes → Op → Book → OpResult
op_of own_domain (Create e) b = create_over (entry_at e.id b) (at_revision 0 e) b
op_of own_domain (Update e expected) b = update_over (entry_at e.id b) e expected b
op_of own_domain (Delete k expected) b = delete_over (entry_at k b) expected
op_of own_domain (Show k) b = done (replied.EntryShown (entry_at k b)) []
op_of own_domain (ShowAgent k) b = done (replied.AgentShown (agent_at k b)) []
op_of own_domain (ShowBundle k) b = done (replied.BundleShown (bundle_at k b)) []
op_of own_domain (Children p) b = done (replied.Entries (children_of p b)) []
op_of own_domain (Page q) b = done (replied.Page (listed q b) (next_of q b)) []
op_of own_domain (Authorised k) b = for_agent (agent_at k b) (λ a. done (replied.Entries (authorised (server_text own_domain) a b)) [])
op_of own_domain (Trust k) b = for_agent (agent_at k b) (λ a. done (replied.Bundles (bundles_of (authorised (server_text own_domain) a b) b)) [])
op_of own_domain (Prune moment) b = done (replied.Pruned (map entry_key (expired_before moment b))) (map removed (expired_before moment b))
op_of own_domain (SetAgent a) b = agent_set a b
op_of own_domain (DropAgent k) b = for_agent (agent_at k b) agent_dropped
op_of own_domain (SetBundle domain text) b = bundle_set domain text (bundle_at domain b)
op_of own_domain (DropBundle domain mode) b = drop_over (bundle_at domain b) domain mode b
