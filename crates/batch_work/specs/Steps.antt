-- An operation in steps: which mark each phase reads, and what follows from the rows read. The functions
-- `.._next` give what comes next: another read, the end, or a refusal. For this crate's own contracts.
use Rattle.std.specs.Prelude.{◌≡◌, ℕ, ◌+◌, Bool, true, false, not, ◌&&◌, List, [], ◌∷◌, ◌++◌, filter, map, Option, Some, None, Err, is_some, bytes_eq, slice_get}
use Rattle.spiffe_name.specs.SelectorSet.{set_eq}
use Rattle.entry_book.specs.declared.agent.Agent.{Agent}
use Rattle.entry_book.specs.declared.bundle.Bundle.{Bundle}
use Rattle.entry_book.specs.declared.entry.NewEntry.{NewEntry}
use Rattle.entry_book.specs.declared.mode.DropMode.{DropMode}
use Rattle.entry_book.specs.declared.mode.DropMode.TheVariants as mode
use Rattle.entry_book.specs.declared.op.Op.{Op}
use Rattle.entry_book.specs.declared.op.Op.TheVariants.{Create, Update, Delete, Show, ShowAgent, ShowBundle, Children, Page, Authorised, Trust, Prune, SetAgent, DropAgent, SetBundle, DropBundle}
use Rattle.entry_book.specs.declared.reply.OpReply.TheVariants as replied
use Rattle.entry_book.specs.declared.reply.OpRefusal.TheVariants.{IdTaken, Similar, NoEntry, StaleRevision, NoBundle, BundleInUse, NoAgent}
use Rattle.entry_book.specs.Rows.{Bytes, Entry, at_revision, entry_key}
use Rattle.entry_book.specs.Order.{first}
use Rattle.entry_book.specs.Book.{Book}
use Rattle.entry_book.specs.Writes.{RowWrite, wrote_agent, wrote_bundle}
use Rattle.entry_book.specs.Authorised.{holds}
use Rattle.entry_book.specs.Ops.{OpResult, done, put, is_stale, removed, next_sequence, bundle_removed, freed}
use Rattle.entry_book.specs.Pages.{listed, next_of}
use Rattle.version_book.specs.declared.mark.MarkKind.{MarkKind}
use Rattle.version_book.specs.declared.mark.MarkKind.TheVariants as mark
use Rattle.version_book.specs.Marks.{reads}
use Rattle.batch_work.specs.declared.phase.WalkFor.{WalkFor}
use Rattle.batch_work.specs.declared.phase.WalkFor.TheVariants as walk_for
use Rattle.batch_work.specs.declared.phase.Phase.{Phase}
use Rattle.batch_work.specs.declared.phase.Phase.TheVariants as phase
use Rattle.batch_work.specs.declared.phase.Next.{Next}
use Rattle.batch_work.specs.declared.phase.Next.TheVariants.{Continues, Ends, Refused}
use Rattle.batch_work.specs.Reads.{domains_of}
use Rattle.batch_work.specs.WalkStates.{WalkState, first_walk, walked}

-- ---- the mark that is read next

-- the first mark that an operation reads
abbrev pub first_mark : Op → MarkKind
first_mark (Create e) = mark.Entry e.id
first_mark (Update e expected) = mark.Entry e.id
first_mark (Delete k expected) = mark.Entry k
first_mark (Show k) = mark.Entry k
first_mark (ShowAgent k) = mark.Agent k
first_mark (ShowBundle d) = mark.Bundle d
first_mark (Children p) = mark.Children p
first_mark (Page q) = mark.All
first_mark (Authorised k) = mark.Agent k
first_mark (Trust k) = mark.Agent k
first_mark (Prune moment) = mark.Expiring moment
first_mark (SetAgent a) = mark.Agent a.id
first_mark (DropAgent k) = mark.Agent k
first_mark (SetBundle d text) = mark.Bundle d
first_mark (DropBundle d m) = mark.Bundle d

-- the mark that an operation reads at this phase
abbrev pub mark_of : Bytes → Op → Phase → MarkKind
mark_of server op phase.First = first_mark op
mark_of server op (phase.Group old e) = mark.Group e.parent e.identity
mark_of server op (phase.Bundle old e d n) = mark.Bundle d
mark_of server op (phase.Users d m) = mark.Users d.domain
mark_of server op (phase.Server ask a) = mark.Children server
mark_of server op (phase.OfAgent ask w) = mark.Children w.agent.id
mark_of server op (phase.Identity ask w i) = mark.Children i
mark_of server op (phase.Trusted d ds n bs) = mark.Bundle d

-- ---- an entry that is put

abbrev pub next_bundle : Option Bytes → Option Entry → Entry → ℕ → Next
next_bundle None old e n = Ends (replied.Entry e) (put old e ∷ [])
next_bundle (Some d) old e n = Continues (phase.Bundle old e d (n + 1))

abbrev pub bundles_next : Option Entry → Entry → ℕ → Next
bundles_next old e n = next_bundle (slice_get e.domains n) old e n

abbrev pub bundle_next : Bool → Option Entry → Entry → Bytes → ℕ → Next
bundle_next true old e d n = bundles_next old e n
bundle_next false old e d n = Refused (NoBundle d)

-- the first other entry with the same selectors, among the entries of one parent and identity
abbrev pub similar_in : Entry → List Entry → Option Entry
similar_in e es = first (filter (λ o. set_eq o.selectors e.selectors && not (bytes_eq o.id e.id)) es)

abbrev pub unless_similar_next : Option Entry → Option Entry → Entry → Next
unless_similar_next (Some o) old e = Refused (Similar o.id)
unless_similar_next None old e = bundles_next old e 0

abbrev pub create_next : Option Entry → NewEntry → Next
create_next (Some o) e = Refused IdTaken
create_next None e = Continues (phase.Group None (at_revision 0 e))

abbrev pub update_next_when : Bool → Entry → NewEntry → Next
update_next_when true old e = Refused StaleRevision
update_next_when false old e = Continues (phase.Group (Some old) (at_revision (old.revision + 1) e))

abbrev pub update_next : Option Entry → NewEntry → Option ℕ → Next
update_next None e expected = Refused NoEntry
update_next (Some old) e expected = update_next_when (is_stale expected old) old e

abbrev pub delete_next_when : Bool → Entry → Next
delete_next_when true e = Refused StaleRevision
delete_next_when false e = Ends (replied.Entry e) (removed e ∷ [])

abbrev pub delete_next : Option Entry → Option ℕ → Next
delete_next None expected = Refused NoEntry
delete_next (Some e) expected = delete_next_when (is_stale expected e) e

-- ---- agents and bundles

abbrev pub for_agent_next : Option Agent → (Agent → Next) → Next
for_agent_next None f = Refused NoAgent
for_agent_next (Some a) f = f a

abbrev pub agent_gone : Agent → RowWrite
agent_gone a = wrote_agent (record { key = a.id; old = Some a; new = None })

abbrev pub bundle_put_next : Bytes → Bytes → Option Bundle → Next
bundle_put_next d text old = let new : Bundle = record { domain = d; text = text; sequence = next_sequence old } in Ends (replied.Bundle new) (wrote_bundle (record { key = d; old = old; new = Some new }) ∷ [])

abbrev pub drop_next : Option Bundle → Bytes → DropMode → Next
drop_next None d m = Refused (NoBundle d)
drop_next (Some old) d m = Continues (phase.Users old m)

abbrev pub users_next : DropMode → List Entry → Bundle → Next
users_next mode.Restrict [] d = Ends (replied.Dropped [] []) (bundle_removed d ∷ [])
users_next mode.Restrict (e ∷ es) d = Refused BundleInUse
users_next mode.Delete es d = Ends (replied.Dropped (map entry_key es) []) (map removed es ++ bundle_removed d ∷ [])
users_next mode.Dissociate es d = Ends (replied.Dropped [] (map entry_key es)) (map (freed d.domain) es ++ bundle_removed d ∷ [])

-- ---- authorised entries, and their bundles

abbrev pub next_trusted : Option Bytes → List Bytes → ℕ → List Bundle → Next
next_trusted None ds n bs = Ends (replied.Bundles bs) []
next_trusted (Some d) ds n bs = Continues (phase.Trusted d ds (n + 1) bs)

abbrev pub trusted_next : List Bytes → ℕ → List Bundle → Next
trusted_next ds n bs = next_trusted (slice_get ds n) ds n bs

abbrev pub walk_end : WalkFor → List Entry → Next
walk_end walk_for.Entries es = Ends (replied.Entries es) []
walk_end walk_for.Bundles es = trusted_next (domains_of es) 0 []

-- the next read is that of the children of the least pending identity; if none is pending, the walk ends
abbrev pub identity_next : List Bytes → WalkFor → WalkState → Next
identity_next [] ask w = walk_end ask w.found
identity_next (i ∷ is) ask w = Continues (phase.Identity ask (record w { pending = is }) i)

abbrev pub walk_next : WalkFor → WalkState → Next
walk_next ask w = identity_next w.pending ask w

-- ---- what comes after a read

-- what comes after the first read of an operation, which found these rows
abbrev pub first_next : Op → Book → Next
first_next (Create e) r = create_next (first r.entries) e
first_next (Update e expected) r = update_next (first r.entries) e expected
first_next (Delete k expected) r = delete_next (first r.entries) expected
first_next (Show k) r = Ends (replied.EntryShown (first r.entries)) []
first_next (ShowAgent k) r = Ends (replied.AgentShown (first r.agents)) []
first_next (ShowBundle d) r = Ends (replied.BundleShown (first r.bundles)) []
first_next (Children p) r = Ends (replied.Entries r.entries) []
first_next (Page q) r = Ends (replied.Page (listed q r) (next_of q r)) []
first_next (Authorised k) r = for_agent_next (first r.agents) (λ a. Continues (phase.Server walk_for.Entries a))
first_next (Trust k) r = for_agent_next (first r.agents) (λ a. Continues (phase.Server walk_for.Bundles a))
first_next (Prune moment) r = Ends (replied.Pruned (map entry_key r.entries)) (map removed r.entries)
first_next (SetAgent a) r = Ends (replied.Agent a) (wrote_agent (record { key = a.id; old = first r.agents; new = Some a }) ∷ [])
first_next (DropAgent k) r = for_agent_next (first r.agents) (λ a. Ends (replied.Agent a) (agent_gone a ∷ []))
first_next (SetBundle d text) r = bundle_put_next d text (first r.bundles)
first_next (DropBundle d m) r = drop_next (first r.bundles) d m

-- what comes after the read of a phase, which found these rows
abbrev pub advance : Bytes → Op → Phase → Book → Next
advance server op phase.First r = first_next op r
advance server op (phase.Group old e) r = unless_similar_next (similar_in e r.entries) old e
advance server op (phase.Bundle old e d n) r = bundle_next (is_some (first r.bundles)) old e d n
advance server op (phase.Users d m) r = users_next m r.entries d
advance server op (phase.Server ask a) r = Continues (phase.OfAgent ask (walked (filter (holds server a) r.entries) (first_walk a)))
advance server op (phase.OfAgent ask w) r = walk_next ask (walked r.entries w)
advance server op (phase.Identity ask w i) r = walk_next ask (walked r.entries w)
advance server op (phase.Trusted d ds n bs) r = trusted_next ds n (bs ++ r.bundles)

-- ---- all reads from a phase to the end of the operation, on a book, and its result

-- The operation ends with this result and reads no more, or f holds of the phase with which it continues.
abbrev pub ContinuesWith : Next → List MarkKind → OpResult → (Phase → Type 0) → Type 0
ContinuesWith (Continues q) ms o f = f q
ContinuesWith (Ends r ws) ms o f = (ms ≡ []) × (o ≡ done r ws)
ContinuesWith (Refused r) ms o f = (ms ≡ []) × (o ≡ Err r)

-- the operation, from this phase on, reads these marks on the book, and has this result
abbrev pub Plays : Bytes → Op → Phase → Book → List MarkKind → OpResult → Type 0
Plays server op p b [] o = ⊥
Plays server op p b (m ∷ ms) o = (m ≡ mark_of server op p) × ContinuesWith (advance server op p (reads (mark_of server op p) b)) ms o (λ q. Plays server op q b ms o)
