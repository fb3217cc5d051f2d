-- The table of reads: the marks that an operation reads on the book that it finds, in order, up to the one that shows its
-- refusal. The footprint (read set) of a batch is the list of its reads, operation by operation.
use Rattle.std.specs.Prelude.{ℕ, zero, suc, ◌+◌, Bool, true, false, not, ◌&&◌, List, [], ◌∷◌, ◌++◌, filter, map, flat_map, length, nat_lt, Option, Some, None, Ok, Err, is_ok, is_some, bytes_eq, if◌then◌else◌}
use Rattle.std.specs.List.{list_any}
use Rattle.std.specs.Option.{option_map_or}
use Rattle.spiffe_name.specs.Id.{server_text}
use Rattle.entry_book.specs.declared.agent.Agent.{Agent}
use Rattle.entry_book.specs.declared.bundle.Bundle.{Bundle}
use Rattle.entry_book.specs.declared.entry.NewEntry.{NewEntry}
use Rattle.entry_book.specs.declared.kept.KeptBatch.{KeptBatch}
use Rattle.entry_book.specs.declared.op.Op.{Op}
use Rattle.entry_book.specs.declared.op.Op.TheVariants.{Create, Update, Delete, Show, ShowAgent, ShowBundle, Children, Page, Authorised, Trust, Prune, SetAgent, DropAgent, SetBundle, DropBundle}
use Rattle.entry_book.specs.declared.reply.OpRefusal.TheVariants.{VersionGone}
use Rattle.entry_book.specs.declared.reply.Refusal.TheVariants.{NotYet, OfOp}
use Rattle.entry_book.specs.Rows.{Bytes, Entry, at_revision}
use Rattle.entry_book.specs.Order.{first, with_row}
use Rattle.entry_book.specs.Book.{Book, entry_at, agent_at, bundle_at, children_of}
use Rattle.entry_book.specs.Writes.{after}
use Rattle.entry_book.specs.Authorised.{holds, authorised}
use Rattle.entry_book.specs.Ops.{OpEffect, OpResult, similar, is_stale, op_of}
use Rattle.entry_book.specs.Runs.{run}
use Rattle.entry_book.specs.Batches.{Batch, is_query, past_place}
use Rattle.entry_book.specs.History.{Verdict, refuses, place_of, book_for, kept_under, verdict_again, verdict_run}
use Rattle.entry_book.specs.SameOps.{ops_eq}
use Rattle.version_book.specs.declared.mark.MarkKind.{MarkKind}
use Rattle.version_book.specs.declared.mark.MarkKind.TheVariants as mark

-- these texts, each once, in the order of their bytes
abbrev pub text_set : List Bytes → List Bytes
text_set [] = []
text_set (x ∷ xs) = with_row (λ t. t) x (Some x) (text_set xs)

-- ---- an entry that is put: its group; if no entry there is similar, the bundles of its domains, up to the first that is
-- missing

-- the bundles of these domains, up to the first that is missing
abbrev pub bundle_marks : List Bytes → Book → List MarkKind
bundle_marks [] b = []
bundle_marks (d ∷ ds) b = mark.Bundle d ∷ (if is_some (bundle_at d b) then bundle_marks ds b else [])

-- after the group was read: nothing if this other entry is similar, and otherwise the bundles
abbrev pub marks_unless_similar : Option Entry → Entry → Book → List MarkKind
marks_unless_similar (Some o) e b = []
marks_unless_similar None e b = bundle_marks e.domains b

-- the reads of an entry that is put
abbrev pub put_marks : Entry → Book → List MarkKind
put_marks e b = mark.Group e.parent e.identity ∷ marks_unless_similar (similar e b) e b

-- after the read of the new entry's id
abbrev pub create_marks : Option Entry → Entry → Book → List MarkKind
create_marks (Some o) e b = []
create_marks None e b = put_marks e b

-- the flag is true if another revision is expected than that of the entry
abbrev pub update_marks_when : Bool → Entry → Book → List MarkKind
update_marks_when true e b = []
update_marks_when false e b = put_marks e b

-- after the read of the entry
abbrev pub update_marks : Option Entry → NewEntry → Option ℕ → Book → List MarkKind
update_marks None e expected b = []
update_marks (Some old) e expected b = update_marks_when (is_stale expected old) (at_revision (old.revision + 1) e) b

-- ---- authorised entries: the children of the server and of the agent, then those of the identities found, each once, the
-- least first

-- the entries that are found once the children of these identities were read: the aliases that the agent holds, the agent's own
-- children, and these
abbrev pub found : Bytes → Agent → List Bytes → Book → List Entry
found server a [] b = filter (holds server a) (children_of server b) ++ children_of a.id b
found server a (i ∷ is) b = found server a is b ++ children_of i b

abbrev pub is_one_of : Bytes → List Bytes → Bool
is_one_of x xs = list_any (λ y. bytes_eq y x) xs

-- The identities of these entries whose children weren't read yet, in the order of their bytes; the agent's children were read.
-- (The server's ID is the identity of no entry.)
abbrev pub unread : Agent → List Bytes → List Entry → List Bytes
unread a read es = text_set (filter (λ i. not (is_one_of i (a.id ∷ read))) (map (λ e. e.identity) es))

-- this identity, if there is one, and then what f gives for it
abbrev pub least_then : Option Bytes → (Bytes → List Bytes) → List Bytes
least_then None f = []
least_then (Some i) f = i ∷ f i

-- The identities whose children are read from here on, in turn. Each is read once, so as many turns as the book has entries are
-- enough. `IsWalk` in `Walked.antt` says in direct words which they are.
abbrev pub walk : ℕ → Bytes → Agent → List Bytes → Book → List Bytes
walk zero server a read b = []
walk (suc n) server a read b = least_then (first (unread a read (found server a read b))) (λ i. walk n server a (i ∷ read) b)

-- the reads of the walk
abbrev pub walk_marks : Bytes → Agent → Book → List MarkKind
walk_marks server a b = mark.Children server ∷ mark.Children a.id ∷ map mark.Children (walk (length b.entries) server a [] b)

-- after the read of the agent, which the book may lack
abbrev pub for_agent_marks : Option Agent → (Agent → List MarkKind) → List MarkKind
for_agent_marks None f = []
for_agent_marks (Some a) f = f a

-- the domains that these entries name, each once, in the order of their bytes
abbrev pub domains_of : List Entry → List Bytes
domains_of es = text_set (flat_map (λ e. e.domains) es)

-- the reads of the walk, and then the bundles of the domains that the authorised entries name
abbrev pub trust_marks : Bytes → Agent → Book → List MarkKind
trust_marks server a b = walk_marks server a b ++ map mark.Bundle (domains_of (authorised server a b))

-- ---- a bundle that is dropped: if it is there, its users

-- after the read of the bundle
abbrev pub drop_marks : Option Bundle → Bytes → List MarkKind
drop_marks None domain = []
drop_marks (Some d) domain = mark.Users domain ∷ []

-- ---- the table

-- the reads of an operation, for the server's trust domain, on the book that it finds
abbrev pub marks_of : Bytes → Op → Book → List MarkKind
marks_of own_domain (Create e) b = mark.Entry e.id ∷ create_marks (entry_at e.id b) (at_revision 0 e) b
marks_of own_domain (Update e expected) b = mark.Entry e.id ∷ update_marks (entry_at e.id b) e expected b
marks_of own_domain (Delete k expected) b = mark.Entry k ∷ []
marks_of own_domain (Show k) b = mark.Entry k ∷ []
marks_of own_domain (ShowAgent k) b = mark.Agent k ∷ []
marks_of own_domain (ShowBundle d) b = mark.Bundle d ∷ []
marks_of own_domain (Children p) b = mark.Children p ∷ []
marks_of own_domain (Page q) b = mark.All ∷ []
marks_of own_domain (Authorised k) b = mark.Agent k ∷ for_agent_marks (agent_at k b) (λ a. walk_marks (server_text own_domain) a b)
marks_of own_domain (Trust k) b = mark.Agent k ∷ for_agent_marks (agent_at k b) (λ a. trust_marks (server_text own_domain) a b)
marks_of own_domain (Prune moment) b = mark.Expiring moment ∷ []
marks_of own_domain (SetAgent a) b = mark.Agent a.id ∷ []
marks_of own_domain (DropAgent k) b = mark.Agent k ∷ []
marks_of own_domain (SetBundle d text) b = mark.Bundle d ∷ []
marks_of own_domain (DropBundle d mode) b = mark.Bundle d ∷ drop_marks (bundle_at d b) d

-- ---- the reads of operations on a book: those of each on the book that the earlier ones left, up to the first refusal; what
-- is read twice is listed twice

-- the reads after an operation with this result: none if it is refused
abbrev pub marks_after : OpResult → (OpEffect → List MarkKind) → List MarkKind
marks_after (Err r) f = []
marks_after (Ok d) f = f d

-- the reads of these operations, beginning on this book
abbrev pub marks_of_ops : Bytes → List Op → Book → List MarkKind
marks_of_ops own_domain [] b = []
marks_of_ops own_domain (op ∷ ops) b = marks_of own_domain op b ++ marks_after (op_of own_domain op b) (λ d. marks_of_ops own_domain ops (after d.writes b))

-- ---- the case that a batch meets at a place, and what follows in each case

-- The batch comes too early; the book of its page is gone, or not there yet; a batch is stored under its token; or it runs on
-- this book.
pub data Case : Type 0 where
  early : Case
  gone : Case
  kept : KeptBatch → Case
  runs : Book → Case

-- the case on the book that it reads, if it doesn't come too early
abbrev pub case_on : Batch → Book → Case
case_on batch b = option_map_or kept (kept_under batch.token b) (runs b)

-- the case at this place, with the book that it reads, if it is there
abbrev pub case_at : Batch → ℕ → Option Book → Case
case_at batch place b = if nat_lt place batch.after then early else option_map_or (case_on batch) b gone

-- the case on the list of all books
abbrev pub case_of : Batch → List Book → Case
case_of batch books = case_at batch (place_of books) (book_for (past_place batch.ops) books)

-- the stored batch of its token is read first, if it has one
abbrev pub token_marks : Option Bytes → List MarkKind
token_marks None = []
token_marks (Some k) = mark.Token k ∷ []

-- its reads; the page of a book that isn't there makes its one read, which shows this
abbrev pub footprint_in : Batch → Case → List MarkKind
footprint_in batch early = []
footprint_in batch gone = mark.All ∷ []
footprint_in batch (kept k) = token_marks batch.token
footprint_in batch (runs b) = token_marks batch.token ++ marks_of_ops batch.domain batch.ops b

-- whether it has changes that await their commit: it runs, isn't read-only, and no operation is refused
abbrev pub awaits_in : Batch → Case → Bool
awaits_in batch early = false
awaits_in batch gone = false
awaits_in batch (kept k) = false
awaits_in batch (runs b) = not (is_query batch.ops) && is_ok (run batch.domain batch.ops b)

-- the specification's verdict
abbrev pub verdict_in : Batch → ℕ → Case → Verdict
verdict_in batch place early = refuses NotYet
verdict_in batch place gone = refuses (OfOp 0 VersionGone)
verdict_in batch place (kept k) = verdict_again (ops_eq k.ops batch.ops) k
verdict_in batch place (runs b) = verdict_run batch place b

-- ---- the same, for a batch on the list of all books

-- the footprint of a batch on these books
abbrev pub footprint_of : Batch → List Book → List MarkKind
footprint_of batch books = footprint_in batch (case_of batch books)

-- whether a batch on these books has changes that await their commit
abbrev pub awaits_commit : Batch → List Book → Bool
awaits_commit batch books = awaits_in batch (case_of batch books)
